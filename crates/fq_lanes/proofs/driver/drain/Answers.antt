use Rattle.std.proofs.Common.{◌≡◌, ◌++◌, ◌∷◌, [], length, length-append, ap, not, ◌∙◌, sym, subst, true, cond, arith, ◌+◌, Some, ◌≤◌}
use Rattle.std.specs.Result.{is_ok}
use Rattle.std.specs.List.{slice_get}
use mathlib.Core.List.{IsPrefix}
use Rattle.fq_lanes.specs.Due.{due}
use Rattle.fq_lanes.specs.Sink.{SinkFacts, file_count}
use Rattle.fq_lanes.proofs.DueLemmas.{prefix_push}
use Rattle.fq_lanes.proofs.DuePrefixLemmas.{prefix_equal}
use Rattle.fq_lanes.proofs.driver.drain.Goals as goal

pub loop-next-preserved : goal.loop-next-preserved
loop-next-preserved g c =
    let fine : is_ok c.push.result ≡ true = c.is_err.ensures.negation ∙ ap not c.if-is_err.false in
    let items : c.push.new.self.items ≡ c.loop-next.taken.items ++ c.in-Some.next ∷ [] =
    c.push.ensures.items ∙ ap (λ b. cond b (c.loop-next.taken.items ++ c.in-Some.next ∷ []) c.loop-next.taken.items) fine in
    let size : length c.push.new.self.items ≡ length c.loop-next.taken.items + 1 = ap length items ∙ length-append c.loop-next.taken.items (c.in-Some.next ∷ []) in
    let files : file_count c.loop-next.sink ≡ file_count c.args.sink.now = c.loop-next.invariant.0 in (
      c.next.ensures.files ∙ files,
      λ es h p.
          let before = c.loop-next.invariant.1 es h p in
          let step = c.in-Some.ensures.gives es (length c.loop-next.taken.items) before.0 in
          let got : slice_get (due es (file_count c.args.sink.now)) (length c.loop-next.taken.items) ≡ Some c.in-Some.next =
          subst (λ n. slice_get (due es n) (length c.loop-next.taken.items) ≡ Some c.in-Some.next) files step.0 in (
            subst (λ n. SinkFacts c.next.new.self.files.items c.next.new.self.at es n) (sym size) step.1,
            subst (λ l. IsPrefix l (due es (file_count c.args.sink.now))) (sym items)
                (prefix_push c.loop-next.taken.items (due es (file_count c.args.sink.now)) c.in-Some.next before.1 got),
          ),
    )

pub returns-clause-holds : goal.returns-clause-holds
returns-clause-holds g c es h p =
    let files : file_count c.loop-next.sink ≡ file_count c.args.sink.now = c.loop-next.invariant.0 in
    let before = c.loop-next.invariant.1 es h p in
    let step = c.in_default.ensures.gives es (length c.loop-next.taken.items) before.0 in
    let size : length (due es (file_count c.args.sink.now)) ≤ length c.loop-next.taken.items =
    let e : length (due es (file_count c.loop-next.sink)) ≡ length (due es (file_count c.args.sink.now)) = ap (λ n. length (due es n)) files in
    omega (arith, e, step.0) in
    (step.1, prefix_equal c.loop-next.taken.items (due es (file_count c.args.sink.now)) before.1 size)
