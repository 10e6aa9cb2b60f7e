-- What contracts see of a front: its steps, the columns before the first, and that step's number.
use Rattle.std.specs.Prelude.{ℕ, List}
use Rattle.fq_column.specs.Frame.{Fields}
use Rattle.fq_expr.specs.Expression.{Step}
use Rattle.fq_expr.specs.declared.fronts.RowFault.{RowFault}

pub record NumberedSteps : Type 0 where
  pub steps : List Step
  pub fields : Fields
  pub first : ℕ

-- the fault of item i of step n
abbrev pub fault_at : ℕ → ℕ → RowFault
fault_at n i = record { step = n; item = i }
