use Rattle.std.proofs.Common.{◌≡◌, map, take}
use Rattle.fq_ops.specs.AggregateData.{outputs_of}
use Rattle.fq_plan.specs.PlannedSteps.{said_in}
use Rattle.fq_plan.proofs.noted.following.Names.said_of_aggs.Given as goal

abbrev pub invariant-loop-agg : goal.invariant-loop-agg
invariant-loop-agg l = l.said.items ≡ map (λ o. said_in l.self o.0) (outputs_of (take l.agg-index l.aggs))
