use Rattle.std.proofs.Common.{◌≡◌, map, take}
use Rattle.fq_column.specs.Frame.{has_name, names_of}
use Rattle.fq_plan.proofs.NeedLemmas.{needed_of}
use Rattle.fq_plan.proofs.checks.steps.PassedSteps.needed_columns.Given as goal

abbrev pub invariant-loop-i : goal.invariant-loop-i
invariant-loop-i l = l.marks.items ≡ take l.i (map (has_name (needed_of l.self)) (names_of l.self.leading.fields))
