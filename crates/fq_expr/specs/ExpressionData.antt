-- The data that an expression and a step of the program are.
use Rattle.std.specs.Prelude.{List, map, string_bytes, String}
use Rattle.fq_expr.specs.declared.expressions.Expr.{Expr, Col, Null, Whole, Text, Truth, One', Two'}
use Rattle.fq_expr.specs.declared.steps.RowStep.{RowStep}
use Rattle.fq_expr.specs.declared.steps.RowStep.TheVariants.{Filter, WithColumns, Select}
use Rattle.fq_expr.specs.Expression.{Expression, column, null, whole, text, truth, unary, binary, Item, Step, filter_by, with_columns, select}

abbrev pub expression_of : Expr → Expression
expression_of (Col name) = column (string_bytes name)
expression_of (Null k) = null k
expression_of (Whole n) = whole n
expression_of (Text t) = text t
expression_of (Truth b) = truth b
expression_of (One' op p e) = unary op (expression_of e)
expression_of (Two' op p d q e) = binary op (expression_of d) (expression_of e)

abbrev pub items_of : {A : Type 0} → List (String A × Expr) → List Item
items_of items = map (λ i. (string_bytes i.0, expression_of i.1)) items

abbrev pub step_of : RowStep → Step
step_of (Filter e) = filter_by (expression_of e)
step_of (WithColumns items) = with_columns (items_of items.items)
step_of (Select items) = select (items_of items.items)
