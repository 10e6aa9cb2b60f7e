use Rattle.std.proofs.Common.{◌≡◌, true, length, ap, sym, ◌∙◌, arith}
use Rattle.std.specs.Prelude.{is_some}
use Rattle.std.proofs.lemmas.List.Elements.{AllWithin-upto}
use Rattle.fq_ops.specs.Accumulated.{Accumulated, value_in}
use Rattle.fq_ops.proofs.FinishLemmas.{missing-at, missing-no}
use Rattle.fq_ops.proofs.groups.unfit_in.Goals as goal

pub returns-then-not-fits-clause-found : goal.returns-then-not-fits-clause-found
returns-then-not-fits-clause-found c =
    let g = c.args.group in
    let xs = c.args.accumulators.now in
    let a = c.index-accumulators-i.result in
    sym (missing-at (value_in g) xs c.loop-i.i a (omega arith) c.loop-i.invariant
    (ap (λ (x : Accumulated). is_some (value_in g x)) (sym c.index-accumulators-i.is) ∙ sym c.fits.ensures ∙ c.if-not-fits.true))

pub returns-clause-found : goal.returns-clause-found
returns-clause-found c =
    let g = c.args.group in
    let xs = c.args.accumulators.now in
    sym (missing-no (value_in g) xs (AllWithin-upto (λ a. is_some (value_in g a) ≡ true) xs 0 c.loop-i.i (length xs) (omega arith) c.loop-i.invariant))
