use Rattle.std.proofs.Common.{◌≡◌, None, map, take, string_bytes}
use Rattle.fq_column.specs.Refusal.{first_refusal}
use Rattle.fq_column.specs.Schema.{kind_named}
use Rattle.fq_ops.specs.Fields.{refusals}
use Rattle.fq_ops.proofs.output_schemas.check_keys.Given as goal

abbrev pub invariant-loop-key : goal.invariant-loop-key
invariant-loop-key l = first_refusal (refusals (map (λ k. (string_bytes k, kind_named l.schema (string_bytes k))) (take l.key-index l.keys))) ≡ None
