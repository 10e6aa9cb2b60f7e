use Rattle.std.proofs.Common.{◌≡◌, None, map, take, string_bytes}
use Rattle.fq_column.specs.Refusal.{first_refusal}
use Rattle.fq_ops.specs.Group.{aggregate_kind}
use Rattle.fq_ops.specs.AggregateData.{aggregate_of}
use Rattle.fq_ops.specs.Fields.{refusals}
use Rattle.fq_ops.proofs.output_schemas.check_aggregates.Given as goal

abbrev pub invariant-loop-agg : goal.invariant-loop-agg
invariant-loop-agg l = first_refusal (refusals (map (λ a. (string_bytes a.name, aggregate_kind l.schema (aggregate_of a.what))) (take l.agg-index l.aggs))) ≡ None
