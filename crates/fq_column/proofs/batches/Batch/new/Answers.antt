use Rattle.std.proofs.Common.{◌∙◌, sym}
use Rattle.fq_column.proofs.FaultLemmas.{batch_fault-none}
use Rattle.fq_column.proofs.batches.Batch.new.Goals as goal

pub unreachable-requires : goal.unreachable-requires
unreachable-requires c = let e = sym (batch_fault-none c.args.schema c.args.columns.items c.requires.kinds c.requires.lengths) ∙ c.in-Err.ensures.refused in cc
