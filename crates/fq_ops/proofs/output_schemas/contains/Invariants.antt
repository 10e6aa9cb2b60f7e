use Rattle.std.proofs.Common.{◌≡◌, false, map, take, string_bytes}
use Rattle.fq_column.specs.Frame.{has_name}
use Rattle.fq_ops.proofs.output_schemas.contains.Given as goal

abbrev pub invariant-loop-other : goal.invariant-loop-other
invariant-loop-other l = has_name (map string_bytes (take l.other-index l.names)) l.name ≡ false
