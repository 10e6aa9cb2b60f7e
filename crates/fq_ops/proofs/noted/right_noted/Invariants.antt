use Rattle.std.proofs.Common.{◌≡◌, drop, map, string_bytes}
use Rattle.fq_notation.specs.Naming.{before_all}
use Rattle.fq_ops.specs.Noted.{right_noted}
use Rattle.fq_ops.proofs.noted.right_noted.Given as goal

abbrev pub invariant-loop-place : goal.invariant-loop-place
invariant-loop-place l =
    right_noted l.left l.right_named l.said (map string_bytes l.on) 0 l.right
    ≡ before_all l.made (right_noted l.left l.right_named l.said (map string_bytes l.on) l.place (drop l.place l.right))
