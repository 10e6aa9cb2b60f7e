use Rattle.std.proofs.Common.{◌<◌, map, take, string_bytes, length}
use Rattle.std.specs.Prelude.{All}
use Rattle.fq_ops.specs.Fields.{AreAt}
use Rattle.fq_ops.proofs.field_lists.positions.Given as goal

abbrev pub invariant-loop-name : goal.invariant-loop-name
invariant-loop-name l = record {
  at : AreAt l.places.items (map string_bytes (take l.name-index l.names)) l.schema;
  within : All (λ p. p < length l.schema) l.places.items;
}
