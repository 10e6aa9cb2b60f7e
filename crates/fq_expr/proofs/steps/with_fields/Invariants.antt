use Rattle.std.proofs.Common.{◌≡◌, take}
use Rattle.fq_column.specs.Frame.{put_all}
use Rattle.fq_column.specs.Schema.{fields_of}
use Rattle.fq_expr.specs.Kinds.{item_names}
use Rattle.fq_expr.specs.ExpressionData.{items_of}
use Rattle.fq_expr.proofs.steps.with_fields.Given as goal

abbrev pub invariant-loop-i : goal.invariant-loop-i
invariant-loop-i l = l.after ≡ put_all l.schema (take l.i (fields_of (item_names (items_of l.items)) l.kinds))
