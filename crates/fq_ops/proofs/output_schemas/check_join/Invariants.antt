use Rattle.std.proofs.Common.{◌≡◌, None, map, take, string_bytes}
use Rattle.std.specs.List.{flat_map}
use Rattle.fq_column.specs.Refusal.{first_refusal}
use Rattle.fq_ops.specs.Join.{key_checks}
use Rattle.fq_ops.proofs.output_schemas.check_join.Given as goal

abbrev pub invariant-loop-name : goal.invariant-loop-name
invariant-loop-name l = first_refusal (flat_map (key_checks l.left l.right) (take l.name-index (map string_bytes l.on))) ≡ None
