-- The scales that ints may have, by those of the ints that they are made of. Arithmetic on ints is arithmetic on the numbers that they stand for if
-- both sides of a sum have one scale, a product has the sum of its sides' scales, and a quotient their difference (SQL, exact numeric types:
-- ISO/IEC 9075-2, numeric value expression).
use Rattle.std.specs.Prelude.{◌+◌, ◌-◌, ◌==◌, ◌&&◌, Bool, true, ℕ, min, max, nat_le, Option, Some, None, if◌then◌else◌}

-- the least and the greatest of the scales that ints may have, and the one that they have unless a name says another
pub record ScaleRange : Type 0 where
  pub least : ℕ
  pub most : ℕ
  pub read : Option ℕ

abbrev pub is_possible : ScaleRange → ℕ → Bool
is_possible scales n = nat_le scales.least n && nat_le n scales.most

-- the ints of a column of this scale
abbrev pub only : ℕ → ScaleRange
only n = record { least = n; most = n; read = Some n }

-- a number whose last digits may be its places: 100 is 100, 10.0 or 1.00
abbrev pub up_to : ℕ → ScaleRange
up_to n = record { least = 0; most = n; read = None }

-- the scales between two, if there are some, of at most 18 places
abbrev pub between : ℕ → ℕ → Option ℕ → Option ScaleRange
between least most read = if nat_le least (min most 18) then Some (record { least = least; most = min most 18; read = read }) else None

-- the scale that is read on a side; on both sides it has to be the same
abbrev pub read_on : Option ℕ → Option ℕ → Option ℕ
read_on (Some l) r = Some l
read_on None r = r

abbrev pub are_read_alike : Option ℕ → Option ℕ → Bool
are_read_alike (Some l) (Some r) = l == r
are_read_alike (Some l) None = true
are_read_alike None r = true

-- whether a scale that is read is possible
abbrev pub is_read_between : ℕ → ℕ → Option ℕ → Bool
is_read_between least most (Some n) = nat_le least n && nat_le n most
is_read_between least most None = true

-- the scales of a sum, a difference or a remainder, and of numbers that are compared: those of both sides
abbrev pub common : ScaleRange → ScaleRange → Option ScaleRange
common a b =
    if are_read_alike a.read b.read && is_read_between (max a.least b.least) (min a.most b.most) (read_on a.read b.read)
    then between (max a.least b.least) (min a.most b.most) (read_on a.read b.read)
    else None

-- the scale that is read of a product, and of a quotient: if both sides are read, and if it is one
abbrev pub read_of_product : Option ℕ → Option ℕ → Option ℕ
read_of_product (Some l) (Some r) = if nat_le (l + r) 18 then Some (l + r) else None
read_of_product (Some l) None = None
read_of_product None r = None

abbrev pub read_of_quotient : Option ℕ → Option ℕ → Option ℕ
read_of_quotient (Some l) (Some r) = if nat_le r l then Some (l - r) else None
read_of_quotient (Some l) None = None
read_of_quotient None r = None

-- the scales of a product: the sums of one of each side
abbrev pub product : ScaleRange → ScaleRange → Option ScaleRange
product a b = between (a.least + b.least) (a.most + b.most) (read_of_product a.read b.read)

-- the scales of a quotient: the differences of one of each side, from 0 on
abbrev pub quotient : ScaleRange → ScaleRange → Option ScaleRange
quotient a b = if nat_le b.least a.most then between (a.least - b.most) (a.most - b.least) (read_of_quotient a.read b.read) else None
