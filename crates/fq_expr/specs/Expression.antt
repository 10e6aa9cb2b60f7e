-- Expressions over the columns of a row (Polars, `Expr`) and row-wise steps, as data.
use Rattle.std.specs.Prelude.{ℕ, ℤ, Bool, List}
use Rattle.fq_column.specs.declared.cells.Kind.{Kind}
use Rattle.fq_column.specs.Frame.{Name}
use Rattle.fq_expr.specs.declared.expressions.Unary.{Unary}
use Rattle.fq_expr.specs.declared.expressions.Binary.{Binary}

pub data Expression : Type 0 where
  column : Name → Expression
  null : Kind → Expression
  whole : ℤ → Expression
  text : List ℕ → Expression
  truth : Bool → Expression
  unary : Unary → Expression → Expression
  binary : Binary → Expression → Expression → Expression

-- an output's name and its expression
abbrev pub Item : Type 0
Item = Name × Expression

pub data Step : Type 0 where
  filter_by : Expression → Step
  with_columns : List Item → Step
  select : List Item → Step
