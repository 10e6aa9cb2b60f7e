use Rattle.std.proofs.Common.{◌≡◌, ◌∙◌, ap, sym, arith}
use Rattle.fq_column.specs.Frame.{Frame}
use Rattle.fq_column.proofs.BatchLemmas.{rows-joined, StandsIn-joined, written}
use Rattle.fq_column.proofs.batches.Batch.extend.Goals as goal

pub invariant_of-self-2 : goal.invariant_of-self-2
invariant_of-self-2 c = let cs = c.self.inside.columns.items in let ds = c.other.inside.columns.items in
    let same : c.other.inside.schema ≡ c.self.inside.schema = ap (λ (f : Frame). f.fields) c.other.view_is ∙ sym c.requires ∙ ap (λ (f : Frame). f.fields) (sym c.self.view_is) in
    rw (written c.self.inside.columns.len c.extend_columns.new.columns cs (grind arith) (grind arith), c.in_ok-extend_columns.ensures.ok, c.as_mut_slice.ensures.value, c.into_iter.ensures.rest)
    (StandsIn-joined c.self.inside.schema cs ds c.self.invariant (rw (← same) c.other.invariant))

pub returns-clause-ok : goal.returns-clause-ok
returns-clause-ok c = let cs = c.self.inside.columns.items in let ds = c.other.inside.columns.items in
    let same : c.other.inside.schema ≡ c.self.inside.schema = ap (λ (f : Frame). f.fields) c.other.view_is ∙ sym c.requires ∙ ap (λ (f : Frame). f.fields) (sym c.self.view_is) in
    rw (← c.self.view_is, ← c.other.view_is, written c.self.inside.columns.len c.extend_columns.new.columns cs (grind arith) (grind arith), c.in_ok-extend_columns.ensures.ok, c.as_mut_slice.ensures.value, c.into_iter.ensures.rest)
    (ap (λ rows. let f : Frame = record { fields = c.self.inside.schema; rows = rows } in f) (rows-joined c.self.inside.schema cs ds c.self.invariant (rw (← same) c.other.invariant)))
