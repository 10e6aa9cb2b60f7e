use Rattle.std.proofs.Common.{◌≡◌, ◌++◌, Ok, drop}
use Rattle.fq_language.specs.Judged.{judged}
use Rattle.fq_plan.specs.Stages.{stage_schemas}
use Rattle.fq_plan.proofs.checks.Checked.schemas.Given as goal

-- the columns so far, and those of the stages that are left
abbrev pub invariant-loop-stage : goal.invariant-loop-stage
invariant-loop-stage l = judged l.self ≡ Ok (l.schemas.items ++ stage_schemas (drop l.stage-index l.stages))
