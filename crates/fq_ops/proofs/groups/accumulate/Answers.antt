use Rattle.std.proofs.Common.{◌+◌, ◌<◌, set, length, subst, sym, ap, ◌∙◌, arith}
use Rattle.std.specs.Prelude.{All}
use Rattle.std.proofs.lemmas.List.{length-set}
use Rattle.std.proofs.lemmas.List.Elements.{AllWithin-more_set, AllWithin-upto, All-from_all_within}
use Rattle.fq_ops.specs.Accumulated.{Accumulated, IsAccumulator, accumulated}
use Rattle.fq_ops.specs.Running.{IsBoundedBy}
use Rattle.fq_ops.proofs.AccumulatorLemmas.{changed-more, unchanged-at}
use Rattle.fq_ops.proofs.groups.accumulate.Goals as goal

pub loop-i-preserved : goal.loop-i-preserved
loop-i-preserved c =
    let old = c.args.accumulators.now.items in
    let xs = c.loop-i.accumulators.items in
    let i = c.loop-i.i in
    let groups = c.args.groups in
    let numbers = c.args.numbers.now in
    let rows = c.args.batch.now.rows in
    let was = c.index_mut-accumulator.result.now in
    let value = c.index_mut-accumulator.ensures.value in
    let low : i < length xs = omega (arith, c.loop-i.invariant.size) in
    let from : i < length old = omega (arith, c.loop-i.invariant.size) in
    let same = value ∙ unchanged-at (accumulated groups numbers rows) old xs i was from c.loop-i.invariant.items in
    record {
      items = ap (set xs i) (c.in_ok-take.ensures.taken ∙ ap (accumulated groups numbers rows) value) ∙ changed-more (accumulated groups numbers rows) old xs i was from c.loop-i.invariant.items;
      size = length-set xs i c.take.new.self ∙ c.loop-i.invariant.size;
      ready = λ n h. AllWithin-more_set xs i c.take.new.self low (IsAccumulator (length c.args.batch.now.fields) groups (n + length numbers)) (c.loop-i.invariant.ready n h)
          (c.in_ok-take.ensures.ready n (subst (λ (a : Accumulated). All (IsBoundedBy n) a.states) (sym same) (h i was from)));
    }

pub returns-clause-ready : goal.returns-clause-ready
returns-clause-ready c = λ n h. All-from_all_within (IsAccumulator (length c.args.batch.now.fields) c.args.groups (n + length c.args.numbers.now)) c.loop-i.accumulators.items
    (AllWithin-upto (IsAccumulator (length c.args.batch.now.fields) c.args.groups (n + length c.args.numbers.now)) c.loop-i.accumulators.items 0 c.loop-i.i (length c.loop-i.accumulators.items) (omega (arith, c.loop-i.invariant.size)) (c.loop-i.invariant.ready n h))
