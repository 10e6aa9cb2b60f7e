use Rattle.std.proofs.Common.{◌≡◌, drop, map, string_bytes}
use Rattle.fq_ops.specs.Noted.{keys_differ}
use Rattle.fq_ops.proofs.noted.keys_differ.Given as goal

abbrev pub invariant-loop-place : goal.invariant-loop-place
invariant-loop-place l =
    keys_differ l.left l.named l.right l.right_named 0 (map string_bytes l.on) ≡ keys_differ l.left l.named l.right l.right_named l.place (map string_bytes (drop l.place l.on))
