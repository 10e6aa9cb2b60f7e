use Rattle.std.proofs.Common.{ap, arith}
use Rattle.fq_column.specs.Frame.{Frame}
use Rattle.fq_column.proofs.BatchLemmas.{rows-cut, StandsIn-cut, written}
use Rattle.fq_column.proofs.batches.Batch.cut.Goals as goal

pub invariant_of-self : goal.invariant_of-self
invariant_of-self c = let cs = c.self.inside.columns.items in
    rw (written c.self.inside.columns.len c.cut_columns.new.columns cs (grind arith) (grind arith), c.cut_columns.ensures, c.as_mut_slice.ensures.value)
    (StandsIn-cut c.self.inside.schema c.args.n cs c.self.invariant)

pub returns : goal.returns
returns c = let cs = c.self.inside.columns.items in
    rw (← c.self.view_is, written c.self.inside.columns.len c.cut_columns.new.columns cs (grind arith) (grind arith), c.cut_columns.ensures, c.as_mut_slice.ensures.value)
    (ap (λ rows. let f : Frame = record { fields = c.self.inside.schema; rows = rows } in f) (rows-cut c.args.n cs))
