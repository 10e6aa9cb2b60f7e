use Rattle.std.proofs.Common.{◌≡◌, ◌+◌, map, drop}
use Rattle.std.specs.Prelude.{IsOk}
use Rattle.fq_column.specs.Stream.{done}
use Rattle.fq_expr.specs.Front.{fault_at}
use Rattle.fq_expr.specs.Kinds.{steps_schema}
use Rattle.fq_expr.specs.ExpressionData.{step_of}
use Rattle.fq_expr.specs.Steps.{apply_steps, fields_after_all}
use Rattle.fq_expr.proofs.fronts.Front.apply.Given as goal

-- what the steps that are left make of the piece so far is what all steps make of the batch
abbrev pub invariant-loop-i : goal.invariant-loop-i
invariant-loop-i l = let left = drop l.i (map step_of l.self-inside.steps.items) in record {
  schemas : IsOk (steps_schema l.piece.batch.fields left);
  fields : fields_after_all l.piece.batch.fields left ≡ fields_after_all l.self-inside.schema (map step_of l.self-inside.steps.items);
  stream : apply_steps fault_at (l.self-inside.first + l.i) l.piece.batch.fields left (record { rows = l.piece.batch.rows; fault = l.piece.fault })
      ≡ apply_steps fault_at l.self-inside.first l.self-inside.schema (map step_of l.self-inside.steps.items) (done l.fn.batch.rows);
}
