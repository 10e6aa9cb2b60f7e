use Rattle.std.proofs.Common.{◌≡◌, ◌==◌, ◌<◌, ◌+◌, false, get_or, length, arith}
use Rattle.std.proofs.lemmas.Bool.Decides.{nat_tests}
use Rattle.fq_csv.proofs.CuttingLemmas.{closed-end, doubled, open-end, quoted-to}
use Rattle.fq_csv.proofs.cutting.quotes_end.Goals as goal
use Rattle.fq_csv.proofs.cutting.quotes_end.Goals.{then-next-text-via-then-next-text, then-next-text-via-else-next-text+then-text-next-ne34}

pub returns-then-quote-text-clause-at : goal.returns-then-quote-text-clause-at
returns-then-quote-text-clause-at c base low h =
    let text = c.args.text.now in
    let q = c.quote_from-quote in
    let inv = c.loop-from.invariant in
    (open-end text base q.result (omega (arith, low, inv.low, q.ensures.low))
    (quoted-to text base c.loop-from.at q.result (omega (arith, low, inv.low)) q.ensures.low q.ensures.high q.ensures.none (inv.inside base low h))
    (omega (arith, c.if-quote-text.true)))

pub returns-then-next-text-clause-at : goal.returns-then-next-text-clause-at
returns-then-next-text-clause-at c base low h =
    let text = c.args.text.now in
    let q = c.quote_from-quote in
    let inv = c.loop-from.invariant in
    let there : q.result < length text = omega (arith, q.ensures.high, c.if-quote-text.false) in
    let none : q.result + 1 < length text → (get_or text (q.result + 1) 0 == 34) ≡ false = λ more. elim c.then-next-text.branch [
      | then-next-text-via-then-next-text w ↦ absurd (omega (arith, more, w.if-next-text.true))
      | then-next-text-via-else-next-text+then-text-next-ne34 w ↦ grind (arith, nat_tests, w.if-text-next-ne34.true)
    ] in
    (closed-end text base q.result (omega (arith, low, inv.low, q.ensures.low))
    (quoted-to text base c.loop-from.at q.result (omega (arith, low, inv.low)) q.ensures.low q.ensures.high q.ensures.none (inv.inside base low h))
    there (q.ensures.quote there) none)

pub loop-from-preserved : goal.loop-from-preserved
loop-from-preserved c =
    let text = c.args.text.now in
    let q = c.quote_from-quote in
    let inv = c.loop-from.invariant in
    let there : q.result < length text = omega (arith, q.ensures.high, c.if-quote-text.false) in
    let more : q.result + 1 < length text = omega (arith, there, c.if-next-text.false) in
    record {
      low = omega (arith, inv.low, q.ensures.low);
      high = omega (arith, more);
      inside = λ base low h.
          doubled text base q.result (omega (arith, low, inv.low, q.ensures.low))
          (quoted-to text base c.loop-from.at q.result (omega (arith, low, inv.low)) q.ensures.low q.ensures.high q.ensures.none (inv.inside base low h))
          there (q.ensures.quote there) more (grind (arith, nat_tests, c.if-text-next-ne34.false));
    }
