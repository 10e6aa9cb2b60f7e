use Rattle.std.proofs.Common.{◌≡◌, ◌++◌, map, drop}
use Rattle.std.specs.Prelude.{IsOk}
use Rattle.fq_expr.specs.Kinds.{steps_schema}
use Rattle.fq_expr.specs.ExpressionData.{step_of}
use Rattle.fq_expr.specs.Steps.{fields_after_each}
use Rattle.fq_expr.proofs.fronts.Front.schemas.Given as goal

-- the columns so far, followed by those after the steps that are left, are those after all steps
abbrev pub invariant-loop-i : goal.invariant-loop-i
invariant-loop-i l = let left = drop l.i (map step_of l.self-inside.steps.items) in record {
  passed : IsOk (steps_schema l.last left);
  all : l.schemas.items ++ fields_after_each l.last left ≡ fields_after_each l.self-inside.schema (map step_of l.self-inside.steps.items);
}
