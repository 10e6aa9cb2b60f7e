use Rattle.std.proofs.Common.{◌≡◌, take, map, string_bytes}
use Rattle.fq_ops.specs.Noted.{keys_noted}
use Rattle.fq_ops.proofs.noted.keys_noted.Given as goal

abbrev pub invariant-loop-key : goal.invariant-loop-key
invariant-loop-key l = l.made ≡ keys_noted l.named (map string_bytes (take l.key-index l.keys))
