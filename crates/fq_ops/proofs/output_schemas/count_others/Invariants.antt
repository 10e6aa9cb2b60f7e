use Rattle.std.proofs.Common.{◌≡◌, ◌≤◌, length, map, take, string_bytes}
use Rattle.fq_ops.specs.Join.{without_keys}
use Rattle.fq_ops.proofs.output_schemas.count_others.Given as goal

abbrev pub invariant-loop-i : goal.invariant-loop-i
invariant-loop-i l = record {
  others : l.count ≡ length (without_keys (map string_bytes l.on) (take l.i l.right));
  few : l.count ≤ l.i;
}
