-- Values, as in Polars, "Missing data": null, a whole number, a text or a truth value.
use Rattle.std.specs.Prelude.{◌^◌, Bool, true, false, ℤ, pos, negsuc, nat_eq, nat_lt, Option, Some, None, if◌then◌else◌}
use Rattle.std.specs.declared.cmp.Ordering.{Ordering}
use Rattle.std.specs.declared.cmp.Ordering.TheVariants.{Less, Equal, Greater}
use Rattle.std.specs.Ordering.{nat_cmp, int_cmp, int_eq, bool_cmp, is_eq}
use Rattle.std.specs.Cmp.Lexicographic.{slice_cmp}
use lib.Pointwise.{pointwise}
use Rattle.fq_column.specs.declared.cells.Kind.{Kind}
use Rattle.fq_column.specs.declared.cells.Kind.TheVariants as kind
use Rattle.fq_column.specs.declared.cells.Cell.{Cell}
use Rattle.fq_column.specs.declared.cells.Cell.TheVariants.{Null, Whole, Text, Truth}

-- whether two kinds are the same
abbrev pub same_kind : Kind → Kind → Bool
same_kind kind.Whole kind.Whole = true
same_kind kind.Whole kind.Text = false
same_kind kind.Whole kind.Truth = false
same_kind kind.Text kind.Whole = false
same_kind kind.Text kind.Text = true
same_kind kind.Text kind.Truth = false
same_kind kind.Truth kind.Whole = false
same_kind kind.Truth kind.Text = false
same_kind kind.Truth kind.Truth = true

-- whether the number lies from -2^63 to 2^63 - 1
abbrev pub fits : ℤ → Bool
fits (pos n) = nat_lt n (2 ^ 63)
fits (negsuc n) = nat_lt n (2 ^ 63)

-- a whole number that fits 64 bits, or none
abbrev pub fitted : ℤ → Option Cell
fitted z = if fits z then Some (Whole z) else None

-- whether a value may stand in a column of this kind: null may stand in each
abbrev pub has_kind : Kind → Cell → Bool
has_kind k Null = true
has_kind kind.Whole (Whole n) = true
has_kind kind.Whole (Text t) = false
has_kind kind.Whole (Truth b) = false
has_kind kind.Text (Whole n) = false
has_kind kind.Text (Text t) = true
has_kind kind.Text (Truth b) = false
has_kind kind.Truth (Whole n) = false
has_kind kind.Truth (Text t) = false
has_kind kind.Truth (Truth b) = true

abbrev pub is_null : Cell → Bool
is_null Null = true
is_null (Whole n) = false
is_null (Text t) = false
is_null (Truth b) = false

-- the order of values: null, whole numbers by value, texts by their UTF-8 bytes, false before true
abbrev pub cell_cmp : Cell → Cell → Ordering
cell_cmp Null Null = Equal
cell_cmp Null (Whole n) = Less
cell_cmp Null (Text t) = Less
cell_cmp Null (Truth b) = Less
cell_cmp (Whole m) Null = Greater
cell_cmp (Whole m) (Whole n) = int_cmp m n
cell_cmp (Whole m) (Text t) = Less
cell_cmp (Whole m) (Truth b) = Less
cell_cmp (Text s) Null = Greater
cell_cmp (Text s) (Whole n) = Greater
cell_cmp (Text s) (Text t) = slice_cmp nat_cmp s t
cell_cmp (Text s) (Truth b) = Less
cell_cmp (Truth a) Null = Greater
cell_cmp (Truth a) (Whole n) = Greater
cell_cmp (Truth a) (Text t) = Greater
cell_cmp (Truth a) (Truth b) = bool_cmp a b

-- whether two values are the same, null and null included
abbrev pub same_cell : Cell → Cell → Bool
same_cell Null Null = true
same_cell (Whole m) (Whole n) = int_eq m n
same_cell (Text s) (Text t) = pointwise nat_eq s t
same_cell (Truth a) (Truth b) = is_eq (bool_cmp a b)
same_cell a b = false
