use Rattle.std.proofs.Common.{◌∷◌, [], ◌++◌, ◌+◌, ◌-◌, length, map, replicate, sym, ap, ◌∙◌, arith}
use Rattle.std.proofs.lemmas.List.{length-append, length-map, map-append}
use Rattle.fq_ops.specs.Running.{start_of}
use Rattle.fq_ops.proofs.AccumulatorLemmas.{padded-more}
use Rattle.fq_ops.proofs.accumulators.grow.Goals as goal

pub loop-preserved : goal.loop-preserved
loop-preserved g c =
    let run = g.S.State.running in
    let old = map run c.args.states.now.items in
    let xs = map run c.loop.states.items in
    let start = start_of g.S.State.function in
    let n = c.loop.counter in
    let size = length-map c.args.states.now.items run in
    let pushed = ap (map run) c.in_ok-push.ensures.items ∙ map-append run c.loop.states.items (c.start.result ∷ []) ∙ ap (λ r. xs ++ r ∷ []) c.start.ensures in
    record {
      items = pushed ∙ ap (λ l. l ++ start ∷ []) c.loop.invariant.items
          ∙ ap (λ k. (old ++ replicate (n - k) start) ++ start ∷ []) (sym size)
          ∙ sym (padded-more old n start (omega (arith, size)))
          ∙ ap (λ k. old ++ replicate (n + 1 - k) start) size;
      size = ap length c.in_ok-push.ensures.items ∙ length-append c.loop.states.items (c.start.result ∷ []) ∙ omega (arith, c.loop.invariant.size);
    }
