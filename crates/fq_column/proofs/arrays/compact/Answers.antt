use Rattle.std.proofs.Common.{◌≡◌, ◌<◌, ◌∙◌, sym, ap, length, drop, suc, ◌+◌, arith}
use Rattle.std.specs.List.{swap}
use Rattle.fq_column.proofs.ListLemmas.{keep-marked, keep-unmarked, length-swap, drop-swap, drop-same_tail}
use Rattle.fq_column.proofs.arrays.compact.Goals.{then-mask-i, else-mask-i}
use Rattle.fq_column.proofs.arrays.compact.Goals as goal

pub loop-i-preserved : goal.loop-i-preserved
loop-i-preserved g c =
    let mask = c.args.mask.now in let xs = c.args.items.now.items in let ys = c.loop-i.items.items in let i = c.loop-i.i in let k = c.loop-i.count in
    let inv = c.loop-i.invariant in
    let below : i < length xs = omega (arith, c.loop-i-test.true, inv.2) in
    elim c.if-mask-i.branch [
      | then-mask-i w ↦ rw (w.items-is, w.count-is, w.swap.ensures.items) (
        omega (arith, inv.0),
        length-swap ys k i ∙ inv.1,
        inv.2,
        keep-marked mask xs ys k i inv.0 below inv.1 inv.2 w.if-mask-i.true inv.3 inv.4,
        ap (λ j. drop j (swap ys k i)) (let f : i + 1 ≡ suc i = omega arith in f) ∙ drop-swap ys k i inv.0 ∙ ap (λ j. drop j ys) (let f : suc i ≡ i + 1 = omega arith in f) ∙ drop-same_tail ys xs i inv.4,
      )
      | else-mask-i w ↦ rw (w.items-is, w.count-is)
          (omega (arith, inv.0), inv.1, inv.2, inv.3 ∙ sym (keep-unmarked mask xs i below inv.2 w.if-mask-i.false), drop-same_tail ys xs i inv.4)
    ]
