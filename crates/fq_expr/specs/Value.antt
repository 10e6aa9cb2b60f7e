-- The value of an expression on a row (Polars, `Expr`, "Missing data"), or a fault, which is `None`: a result that does not fit 64 bits.
use Rattle.std.specs.Prelude.{Bool, not, ◌||◌, ℤ, pos, ◌+ℤ◌, ◌-ℤ◌, ◌*ℤ◌, neg_ℤ, Option, Some, None, option_and_then, if◌then◌else◌}
use Rattle.std.specs.declared.cmp.Ordering.{Ordering}
use Rattle.std.specs.Ordering.{int_eq, is_eq, is_lt, is_le, is_gt, is_ge, is_ne}
use Rattle.fq_column.specs.declared.cells.Cell.{Cell}
use Rattle.fq_column.specs.declared.cells.Cell.TheVariants.{Null, Whole, Text, Truth}
use Rattle.fq_column.specs.Cell.{fitted, is_null, cell_cmp, same_cell}
use Rattle.fq_column.specs.Frame.{Fields, Row, value_named}
use Rattle.fq_expr.specs.declared.expressions.Unary.{Unary}
use Rattle.fq_expr.specs.declared.expressions.Unary.TheVariants.{Neg, Not, IsNull, IsNotNull}
use Rattle.fq_expr.specs.declared.expressions.Binary.{Binary}
use Rattle.fq_expr.specs.declared.expressions.Binary.TheVariants.{Add, Sub, Mul, FloorDiv, Mod, Eq, Ne, Lt, Le, Gt, Ge, EqMissing, And, Or, FillNull}
use Rattle.fq_expr.specs.Kleene.{and_table, or_table, not_table}
use Rattle.fq_expr.specs.Division.{floor_quotient, floor_remainder}
use Rattle.fq_expr.specs.Expression.{Expression, column, null, whole, text, truth, unary, binary}

-- f of two whole numbers, or null if one of them is null
abbrev pub of_wholes : (ℤ → ℤ → Option Cell) → Cell → Cell → Option Cell
of_wholes f (Whole a) (Whole b) = f a b
of_wholes f a b = Some Null

-- what the test says of the order of two values, or null if one of them is null
abbrev pub compared : (Ordering → Bool) → Cell → Cell → Option Cell
compared test a b = Some (if is_null a || is_null b then Null else Truth (test (cell_cmp a b)))

-- a value as a truth; null is not known
abbrev pub truth_of : Cell → Option Bool
truth_of (Truth b) = Some b
truth_of c = None

abbrev pub truth_cell : Option Bool → Cell
truth_cell (Some b) = Truth b
truth_cell None = Null

-- null if b is 0, else f of both
abbrev pub unless_zero : (ℤ → ℤ → Option Cell) → ℤ → ℤ → Option Cell
unless_zero f a b = if int_eq b (pos 0) then Some Null else f a b

abbrev pub negated : Cell → Option Cell
negated (Whole a) = fitted (neg_ℤ a)
negated c = Some Null

abbrev pub unary_value : Unary → Cell → Option Cell
unary_value Neg a = negated a
unary_value Not a = Some (truth_cell (not_table (truth_of a)))
unary_value IsNull a = Some (Truth (is_null a))
unary_value IsNotNull a = Some (Truth (not (is_null a)))

abbrev pub binary_value : Binary → Cell → Cell → Option Cell
binary_value Add a b = of_wholes (λ x y. fitted (x +ℤ y)) a b
binary_value Sub a b = of_wholes (λ x y. fitted (x -ℤ y)) a b
binary_value Mul a b = of_wholes (λ x y. fitted (x *ℤ y)) a b
binary_value FloorDiv a b = of_wholes (unless_zero (λ x y. fitted (floor_quotient x y))) a b
binary_value Mod a b = of_wholes (unless_zero (λ x y. Some (Whole (floor_remainder x y)))) a b
binary_value Eq a b = compared is_eq a b
binary_value Ne a b = compared is_ne a b
binary_value Lt a b = compared is_lt a b
binary_value Le a b = compared is_le a b
binary_value Gt a b = compared is_gt a b
binary_value Ge a b = compared is_ge a b
binary_value EqMissing a b = Some (Truth (same_cell a b))
binary_value And a b = Some (truth_cell (and_table (truth_of a) (truth_of b)))
binary_value Or a b = Some (truth_cell (or_table (truth_of a) (truth_of b)))
binary_value FillNull a b = Some (if is_null a then b else a)

-- the value on a row; a fault in any part is a fault of the whole
abbrev pub value_of : Fields → Expression → Row → Option Cell
value_of fields (column name) row = Some (value_named fields name row)
value_of fields (null k) row = Some Null
value_of fields (whole n) row = Some (Whole n)
value_of fields (text t) row = Some (Text t)
value_of fields (truth b) row = Some (Truth b)
value_of fields (unary op e) row = option_and_then (unary_value op) (value_of fields e row)
value_of fields (binary op d e) row = option_and_then (λ a. option_and_then (binary_value op a) (value_of fields e row)) (value_of fields d row)
