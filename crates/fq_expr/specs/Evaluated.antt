-- What an expression was evaluated to over a list of rows.
use Rattle.std.specs.Prelude.{◌≡◌, List, map, Ok}
use Rattle.fq_column.specs.Frame.{Fields, Row}
use Rattle.fq_column.specs.Lists.{before_missing, zip_with}
use Rattle.fq_expr.specs.declared.expressions.Binary.{Binary}
use Rattle.fq_expr.specs.declared.expressions.Unary.{Unary}
use Rattle.fq_expr.specs.declared.operands.Outcome.{Outcome}
use Rattle.fq_expr.specs.Expression.{Expression}
use Rattle.fq_expr.specs.Kinds.{kind_of, unary_kind, binary_kind}
use Rattle.fq_expr.specs.Operand.{kind_in_rows, AnyHasRows, cells_in_rows}
use Rattle.fq_expr.specs.Value.{value_of, unary_value, binary_value}

-- an operand of the expression's kind that has its values on the rows before the first that faults
pub record IsOutcome (fields : Fields) (e : Expression) (rows : List Row) (outcome : Outcome) : Type 0 where
  pub kind : kind_of fields e ≡ Ok (kind_in_rows outcome.operand)
  pub has_rows : AnyHasRows outcome.rows outcome.operand
  pub cells : cells_in_rows outcome.rows outcome.operand ≡ before_missing (map (value_of fields e) rows)

-- what an operation makes of the values of its part
pub record IsUnaryOutcome (op : Unary) (part outcome : Outcome) : Type 0 where
  pub kind : unary_kind op (kind_in_rows part.operand) ≡ Ok (kind_in_rows outcome.operand)
  pub has_rows : AnyHasRows outcome.rows outcome.operand
  pub cells : cells_in_rows outcome.rows outcome.operand ≡ before_missing (map (unary_value op) (cells_in_rows part.rows part.operand))

-- what an operation makes of the values of its two parts, in the rows that the right one has
pub record IsBinaryOutcome (op : Binary) (left right outcome : Outcome) : Type 0 where
  pub kind : binary_kind op (kind_in_rows left.operand) (kind_in_rows right.operand) ≡ Ok (kind_in_rows outcome.operand)
  pub has_rows : AnyHasRows outcome.rows outcome.operand
  pub cells : cells_in_rows outcome.rows outcome.operand
      ≡ before_missing (zip_with (binary_value op) (cells_in_rows right.rows left.operand) (cells_in_rows right.rows right.operand))
