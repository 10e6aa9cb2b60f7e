use Rattle.std.proofs.Common.{◌≡◌, take}
use Rattle.fq_ops.proofs.field_lists.FieldList.copy_of.Given as goal

abbrev pub invariant-loop-i : goal.invariant-loop-i
invariant-loop-i l = l.fields ≡ take l.i l.schema
