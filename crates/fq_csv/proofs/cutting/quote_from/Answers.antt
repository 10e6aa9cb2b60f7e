use Rattle.std.proofs.Common.{◌≡◌, ◌-◌, ◌+◌, ℕ, List, length, take, drop, arith, refl, subst}
use Rattle.std.proofs.lemmas.List.{length-drop, length-take}
use Rattle.fq_csv.specs.Cutting.{NoQuote}
use Rattle.fq_csv.proofs.BlockLemmas.{no-quote-in}
use Rattle.fq_csv.proofs.cutting.quote_from.Goals as goal

pub returns-in-Some-clause-none : goal.returns-in-Some-clause-none
returns-in-Some-clause-none c = no-quote-in c.args.text.now _ c.args.from c.in-Some.i refl (c.in-Some.ensures.0).before

pub returns-in-None-clause-none : goal.returns-in-None-clause-none
returns-in-None-clause-none c =
    let text = c.args.text.now in
    let from = c.args.from in
    let part : List ℕ = take (length text - from) (drop from text) in
    let size : from + length part ≡ length text = omega (arith, c.requires, length-take (length text - from) (drop from text), length-drop from text) in
    subst (λ n. NoQuote text from n) size (no-quote-in text part from (length part) refl c.in-None.ensures)
