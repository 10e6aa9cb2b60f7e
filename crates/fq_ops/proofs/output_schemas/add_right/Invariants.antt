use Rattle.std.proofs.Common.{◌≡◌, ◌++◌, map, take, string_bytes}
use Rattle.fq_ops.specs.Join.{renamed}
use Rattle.fq_ops.proofs.output_schemas.add_right.Given as goal

abbrev pub invariant-loop-i : goal.invariant-loop-i
invariant-loop-i l = l.fields ≡ l.initial.fields ++ renamed l.left (map string_bytes l.on) (take l.i l.right)
