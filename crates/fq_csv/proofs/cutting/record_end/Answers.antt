use Rattle.std.proofs.Common.{◌≡◌, ◌∙◌, ◌==◌, ◌≤◌, ◌<◌, ℕ, true, get_or, length, arith, sym}
use Rattle.std.proofs.lemmas.Bool.Decides.{nat_tests}
use Rattle.fq_csv.specs.Cutting.{IsAt, begins, outside}
use Rattle.fq_csv.proofs.CuttingLemmas.{last-none, last-open, line-end, plain-to, quote-in-field, quote-opens, quotes-left, started}
use Rattle.fq_csv.proofs.cutting.record_end.Goals as goal

pub returns-then-start-text : goal.returns-then-start-text
returns-then-start-text c =
    last-none c.args.text.now c.args.from c.record_start-start.result (omega (arith, c.if-start-text.true)) c.record_start-start.ensures.start

pub loop-from-init : goal.loop-from-init
loop-from-init c =
    let start = c.record_start-start in
    let lt : start.result < length c.args.text.now = omega (arith, start.ensures.high, c.if-start-text.false) in
    record {
      first = start.ensures.low;
      low = omega arith;
      high = start.ensures.high;
      at = started c.args.text.now c.args.from start.result lt start.ensures.start (start.ensures.byte lt);
    }

pub returns-then-stop-text : goal.returns-then-stop-text
returns-then-stop-text c =
    let text = c.args.text.now in
    let inv = c.loop-from.invariant in
    let stop = c.stop_from-stop in
    let start : ℕ = c.record_start-start.result in
    last-open text c.args.from stop.result (outside (begins text start stop.result)) (omega (arith, c.if-stop-text.true))
    (plain-to text c.args.from start inv.first c.loop-from.at stop.result inv.low stop.ensures.low stop.ensures.high stop.ensures.none inv.at)

pub returns-then-text-stop-ne34 : goal.returns-then-text-stop-ne34
returns-then-text-stop-ne34 c =
    let text = c.args.text.now in
    let inv = c.loop-from.invariant in
    let stop = c.stop_from-stop in
    let start : ℕ = c.record_start-start.result in
    let lt : stop.result < length text = omega (arith, stop.ensures.high, c.if-stop-text.false) in
    let r = line-end text c.args.from start inv.first stop.result (omega (arith, inv.low, stop.ensures.low)) lt
    (plain-to text c.args.from start inv.first c.loop-from.at stop.result inv.low stop.ensures.low stop.ensures.high stop.ensures.none inv.at)
    (stop.ensures.stop lt) (grind (arith, nat_tests, c.if-text-stop-ne34.true)) in
    (omega (arith, inv.first, inv.low, stop.ensures.low), omega (arith, lt), r.0, r.1)

pub loop-from-preserved-then-begins : goal.loop-from-preserved-then-begins
loop-from-preserved-then-begins c =
    let text = c.args.text.now in
    let inv = c.loop-from.invariant in
    let stop = c.stop_from-stop in
    let start : ℕ = c.record_start-start.result in
    let lt : stop.result < length text = omega (arith, stop.ensures.high, c.if-stop-text.false) in
    let low : start ≤ stop.result = omega (arith, inv.low, stop.ensures.low) in
    let end = c.quotes_end-at in
    let quote : (get_or text stop.result 0 == 34) ≡ true = grind (arith, nat_tests, c.if-text-stop-ne34.false) in
    let out : IsAt text c.args.from stop.result (outside (begins text start stop.result)) =
    plain-to text c.args.from start inv.first c.loop-from.at stop.result inv.low stop.ensures.low stop.ensures.high stop.ensures.none inv.at in
    record {
      first = inv.first;
      low = omega (arith, low, end.ensures.low);
      high = end.ensures.high;
      at = quotes-left text c.args.from start inv.first end.result (omega (arith, low, end.ensures.low)) (λ more. (end.ensures.quote more).1)
          (end.ensures.at c.args.from (omega (arith, inv.first, low)) (quote-opens text c.args.from start inv.first stop.result low lt out (sym c.begins.ensures ∙ c.if-begins.true) quote));
    }

pub loop-from-preserved : goal.loop-from-preserved
loop-from-preserved c =
    let text = c.args.text.now in
    let inv = c.loop-from.invariant in
    let stop = c.stop_from-stop in
    let start : ℕ = c.record_start-start.result in
    let lt : stop.result < length text = omega (arith, stop.ensures.high, c.if-stop-text.false) in
    let low : start ≤ stop.result = omega (arith, inv.low, stop.ensures.low) in
    let quote : (get_or text stop.result 0 == 34) ≡ true = grind (arith, nat_tests, c.if-text-stop-ne34.false) in
    record {
      first = inv.first;
      low = omega (arith, low);
      high = omega (arith, lt);
      at = quote-in-field text c.args.from start inv.first stop.result low lt
          (plain-to text c.args.from start inv.first c.loop-from.at stop.result inv.low stop.ensures.low stop.ensures.high stop.ensures.none inv.at)
          (sym c.begins.ensures ∙ c.if-begins.false) quote;
    }
