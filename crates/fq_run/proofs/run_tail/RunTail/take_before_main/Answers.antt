use Rattle.std.proofs.Common.{◌≡◌, ◌∙◌, Result, Ok, Err, OnOk, is_err, false, true≢false, arith, ap, length, refl, sym}
use Rattle.fq_column.proofs.BatchLemmas.{written}
use Rattle.fq_run.specs.Gathering.{taken_in}
use Rattle.fq_run.proofs.KeptSourceLemmas.{length-taken}
use Rattle.fq_run.proofs.StandingLemmas.{ready-taken}
use Rattle.fq_run.proofs.run_tail.RunTail.take_before_main.Goals as goal

kept : {T E P : Type 0} (r : Result T E) → is_err r ≡ false → OnOk r P → P
kept (Ok x) e p = p
kept (Err x) e p = absurd (true≢false e)

pub invariant_of-self-else-is_err : goal.invariant_of-self-else-is_err
invariant_of-self-else-is_err g c =
    let s = c.self.inside in
    let new = c.take_in-taken.new.sources in
    let now : new ≡ taken_in c.args.file c.args.item s.sides.items = kept c.take_in-taken.result (sym c.if-is_err.ensures.value) c.take_in-taken.ensures ∙ ap (taken_in c.args.file c.args.item) c.as_mut_slice.ensures.value in
    let long : length new ≡ length s.sides.items = ap length now ∙ length-taken c.args.file c.args.item s.sides.items in
    let whole = written s.sides.len new s.sides.items long (omega (arith, s.sides.ok.0)) in
    ready-taken _ _ c.args.file c.args.item c.self.invariant refl refl refl refl (whole ∙ now)
