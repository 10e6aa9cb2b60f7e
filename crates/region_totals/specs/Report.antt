-- What is reported: of which columns, after which steps, and by which groups.
use Rattle.std.specs.Prelude.{List, [], ◌∷◌, codes}
use Rattle.fq_column.specs.declared.cells.Kind.TheVariants.{Whole, Text, Truth}
use Rattle.fq_column.specs.Frame.{Fields, Name}
use Rattle.fq_expr.specs.declared.expressions.Binary.TheVariants.{Mul}
use Rattle.fq_expr.specs.declared.expressions.Unary.TheVariants.{Not}
use Rattle.fq_expr.specs.Expression.{column, unary, binary, filter_by, with_columns}
use Rattle.fq_expr.specs.Front.{NumberedSteps}
use Rattle.fq_ops.specs.declared.aggregates.Function.TheVariants as function
use Rattle.fq_ops.specs.Aggregate.{Output, len, over}

-- the columns of the file
abbrev pub orders : Fields
orders = (codes "region", Text) ∷ (codes "units", Whole) ∷ (codes "unit_cents", Whole) ∷ (codes "returned", Truth) ∷ []

-- the orders that were not returned, with their cents
abbrev pub order_steps : NumberedSteps
order_steps = record {
  steps = filter_by (unary Not (column (codes "returned")))
      ∷ with_columns ((codes "cents", binary Mul (column (codes "units")) (column (codes "unit_cents"))) ∷ [])
      ∷ [];
  fields = orders;
  first = 0;
}

-- by region: the number of orders, and the sum of their cents
abbrev pub group_keys : List Name
group_keys = codes "region" ∷ []

abbrev pub group_outputs : List Output
group_outputs = (codes "orders", len) ∷ (codes "cents", over function.Sum (codes "cents")) ∷ []
