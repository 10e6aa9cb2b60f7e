-- What the ints of an expression are, by what those of the columns are: numbers of some scales, or days. Arithmetic on ints is arithmetic on what they
-- stand for, or the expression is refused. A number is read as the other side's scale says, as in SQL's comparisons of exact numerics.
use Rattle.std.specs.Prelude.{◌&&◌, ◌||◌, ◌==◌, ◌^◌, ◌/◌, ◌%◌, Bool, true, false, not, ℕ, zero, suc, nat_abs, nat_lt, nat_le, List, Option, Some, None, option_map, is_some, if◌then◌else◌}
use Rattle.std.specs.Option.{option_map_or}
use Rattle.fq_column.specs.declared.cells.Kind.{Kind}
use Rattle.fq_column.specs.declared.cells.Kind.TheVariants as kind
use Rattle.fq_column.specs.Frame.{Fields}
use Rattle.fq_notation.specs.Scales.{ScaleRange, only, up_to, is_possible, common, product, quotient}
use Rattle.fq_notation.specs.Naming.{column_followed}
use Rattle.fq_notation.specs.Notation.{Named}
use Rattle.fq_expr.specs.declared.expressions.Unary.{Unary}
use Rattle.fq_expr.specs.declared.expressions.Unary.TheVariants.{Neg, Not, IsNull, IsNotNull}
use Rattle.fq_expr.specs.declared.expressions.Binary.{Binary}
use Rattle.fq_expr.specs.declared.expressions.Binary.TheVariants.{Add, Sub, Mul, FloorDiv, Mod, Eq, Ne, Lt, Le, Gt, Ge, EqMissing, And, Or, FillNull}
use Rattle.fq_notation.specs.declared.followed.Followed.{Followed}
use Rattle.fq_notation.specs.declared.followed.Followed.TheVariants.{Numbers, Days, Others}
use Rattle.fq_expr.specs.Expression.{Expression, column, null, whole, text, truth, unary, binary}

-- ---- numbers in a plan

-- how many zeros a number ends in, at most so many; 0 ends in none
abbrev pub zeros_within : ℕ → ℕ → ℕ
zeros_within zero n = 0
zeros_within (suc most) n = if nat_lt 0 n && (n % 10 == 0) then suc (zeros_within most (n / 10)) else 0

abbrev pub zeros : ℕ → ℕ
zeros n = zeros_within 18 n

-- as a number of a product, a power of ten from 10 on may be there to move the point; as a divisor, so may each number that ends in zeros
abbrev pub scales_of_factor : ℕ → ScaleRange
scales_of_factor n = if nat_lt 0 (zeros n) && (n == 10 ^ zeros n) then up_to (zeros n) else only 0

abbrev pub scales_of_divisor : ℕ → ScaleRange
scales_of_divisor n = if nat_lt 0 (zeros n) then up_to (zeros n) else only 0

-- the number that an expression is, without its sign
abbrev pub literal : Expression → Option ℕ
literal (column name) = None
literal (null k) = None
literal (whole n) = Some (nat_abs n)
literal (text t) = None
literal (truth b) = None
literal (unary Neg e) = literal e
literal (unary Not e) = None
literal (unary IsNull e) = None
literal (unary IsNotNull e) = None
literal (binary op d e) = None

abbrev pub is_null : Expression → Bool
is_null (column name) = false
is_null (null k) = true
is_null (whole n) = false
is_null (text t) = false
is_null (truth b) = false
is_null (unary Neg e) = is_null e
is_null (unary Not e) = false
is_null (unary IsNull e) = false
is_null (unary IsNotNull e) = false
is_null (binary op d e) = false

-- a number of eight digits, as a day has them, or a null
abbrev pub is_as_day : Expression → Bool
is_as_day e = is_null e || option_map_or (λ n. nat_le 10000000 n && nat_lt n 100000000) (literal e) false

-- whether an expression reads a column
abbrev pub has_columns : Expression → Bool
has_columns (column name) = true
has_columns (null k) = false
has_columns (whole n) = false
has_columns (text t) = false
has_columns (truth b) = false
has_columns (unary op e) = has_columns e
has_columns (binary op d e) = has_columns d || has_columns e

-- ---- operations

abbrev pub numbers_of : Option ScaleRange → Option Followed
numbers_of scales = option_map Numbers scales

-- a negative
abbrev pub negated : Followed → Option Followed
negated (Numbers scales) = Some (Numbers scales)
negated Days = None
negated Others = None

-- a sum or a difference of two
abbrev pub sum_of_two : Followed → Followed → Option Followed
sum_of_two (Numbers a) (Numbers b) = numbers_of (common a b)
sum_of_two (Numbers a) Days = None
sum_of_two (Numbers a) Others = None
sum_of_two Days b = None
sum_of_two Others b = None

-- beside what reads no column, which is read as the other side
abbrev pub sum_with : Followed → Option Followed
sum_with a = negated a

abbrev pub sum : Expression → Followed → Expression → Followed → Option Followed
sum d a e b =
    if has_columns d && not (has_columns e) then sum_with a
    else if has_columns e && not (has_columns d) then sum_with b
    else sum_of_two a b

-- one of two that are of one sort, or are compared
abbrev pub either_of_two : Followed → Followed → Option Followed
either_of_two (Numbers a) (Numbers b) = numbers_of (common a b)
either_of_two (Numbers a) Days = None
either_of_two (Numbers a) Others = None
either_of_two Days (Numbers b) = None
either_of_two Days Days = Some Days
either_of_two Days Others = None
either_of_two Others (Numbers b) = None
either_of_two Others Days = None
either_of_two Others Others = Some Others

abbrev pub either_with : Followed → Expression → Option Followed
either_with (Numbers a) e = Some (Numbers a)
either_with Days e = if is_as_day e then Some Days else None
either_with Others e = Some Others

abbrev pub either : Expression → Followed → Expression → Followed → Option Followed
either d a e b =
    if has_columns d && not (has_columns e) then either_with a e
    else if has_columns e && not (has_columns d) then either_with b d
    else either_of_two a b

abbrev pub product_of : Followed → Followed → Option Followed
product_of (Numbers a) (Numbers b) = numbers_of (product a b)
product_of (Numbers a) Days = None
product_of (Numbers a) Others = None
product_of Days b = None
product_of Others b = None

-- a part of a day, such as its month: a quotient or a remainder by a number, by a null, or by what may be digits
abbrev pub part_of_day : Expression → Followed → Option Followed
part_of_day e (Numbers b) = if is_some (literal e) || is_null e || (has_columns e && is_possible b 0) then Some (Numbers (only 0)) else None
part_of_day e Days = None
part_of_day e Others = None

abbrev pub divided : Followed → Expression → Followed → Option Followed
divided (Numbers a) e (Numbers b) = numbers_of (quotient a (option_map_or scales_of_divisor (literal e) b))
divided (Numbers a) e Days = None
divided (Numbers a) e Others = None
divided Days e b = part_of_day e b
divided Others e b = None

abbrev pub remainder : Expression → Followed → Expression → Followed → Option Followed
remainder d Days e b = part_of_day e b
remainder d (Numbers a) e b = sum d (Numbers a) e b
remainder d Others e b = None

-- what is not an int, once its parts are not refused
abbrev pub other_of : Option Followed → Option Followed
other_of parts = option_map (λ part. Others) parts

abbrev pub unary_followed : Unary → Followed → Option Followed
unary_followed Neg a = negated a
unary_followed Not a = Some Others
unary_followed IsNull a = Some Others
unary_followed IsNotNull a = Some Others

abbrev pub binary_followed : Binary → Expression → Followed → Expression → Followed → Option Followed
binary_followed Add d a e b = sum d a e b
binary_followed Sub d a e b = sum d a e b
binary_followed Mul d a e b = product_of a b
binary_followed FloorDiv d a e b = divided a e b
binary_followed Mod d a e b = remainder d a e b
binary_followed Eq d a e b = other_of (either d a e b)
binary_followed Ne d a e b = other_of (either d a e b)
binary_followed Lt d a e b = other_of (either d a e b)
binary_followed Le d a e b = other_of (either d a e b)
binary_followed Gt d a e b = other_of (either d a e b)
binary_followed Ge d a e b = other_of (either d a e b)
binary_followed EqMissing d a e b = other_of (either d a e b)
binary_followed And d a e b = Some Others
binary_followed Or d a e b = Some Others
binary_followed FillNull d a e b = either d a e b

-- ---- expressions

abbrev pub of_null : Kind → Followed
of_null kind.Whole = Numbers (only 0)
of_null kind.Text = Others
of_null kind.Truth = Others

abbrev pub and_both : Option Followed → Option Followed → (Followed → Followed → Option Followed) → Option Followed
and_both None b f = None
and_both (Some a) None f = None
and_both (Some a) (Some b) f = f a b

-- below, the columns, and the notations of their ints under their names
module _ (fields : Fields) (named : List Named) where
  -- what the ints of an expression stand for, unless they cannot stand for anything
  abbrev pub followed : Expression → Option Followed
  followed (column name) = Some (column_followed fields named name)
  followed (null k) = Some (of_null k)
  followed (whole n) = Some (Numbers (scales_of_factor (nat_abs n)))
  followed (text t) = Some Others
  followed (truth b) = Some Others
  followed (unary op e) = elim (followed e) [ None ↦ None | Some a ↦ unary_followed op a ]
  followed (binary op d e) = and_both (followed d) (followed e) (λ a b. binary_followed op d a e b)
