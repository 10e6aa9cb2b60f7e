use Rattle.std.proofs.Common.{◌∙◌, ap, sym, not, arith}
use Rattle.fq_column.specs.Batch.{height_of}
use Rattle.fq_column.proofs.BatchLemmas.{pass-lengths}
use Rattle.fq_column.proofs.batches.lengths_differ.Goals as goal

pub returns-clause-lengths : goal.returns-clause-lengths
returns-clause-lengths c = let cs = c.args.columns.now in
    sym (ap not (pass-lengths (height_of cs) cs (λ k d below. (c.loop-column.invariant k d (omega (arith, below, c.loop-column-test.false))).0 ∙ c.height_of_columns-height.ensures)))
