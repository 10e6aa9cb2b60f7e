use Rattle.std.proofs.Common.{◌∙◌, ◌++◌, List, [], Option, append-nil, inl, inr, ap, arith, drop, subst, sym}
use Rattle.std.proofs.lemmas.List.{length-drop}
use Rattle.std.proofs.lemmas.Result.{IfErr-weaker, err_from_is_err_and, on_ok_weaker}
use Rattle.fq_column.specs.Frame.{Frame, Row}
use Rattle.fq_run.specs.RunningOperators.{HaveTaken, rows_in}
use Rattle.fq_run.proofs.PipelineLemmas.{begins-at, ends-at, ends-piece, goes-on-at, hands-sink, kept-at, next-can-at, over-at, part-can-at, within-at}
use Rattle.fq_run.proofs.pipeline.Pipeline.+pass.Goals as goal

pub returns-in_default-clause-ends : goal.returns-in_default-clause-ends
returns-in_default-clause-ends g t c =
    IfErr-weaker c.ended.result _ _ (λ f e. inr (λ ms rows before after taken chain under.
    ends-piece (drop c.args.place c.args.self.now.operators.items) ms rows c.args.input f
    (subst (λ (xs : List Row). HaveTaken (drop c.args.place c.args.self.now.operators.items) ms xs) (sym (append-nil rows) ∙ ap (λ (o : Option Frame). rows ++ rows_in o) (sym c.in_default.is)) taken) e)) c.ended.ensures.some

pub returns-then-place-len-clause-goes_on : goal.returns-then-place-len-clause-goes_on
returns-then-place-len-clause-goes_on g t c =
    on_ok_weaker c.ended-then-place-len.result (λ none notations ms rows before after taken chain under. (
      none,
      hands-sink {S = g.row.S.Denot} (g.S.RowSink.has notations) (drop c.args.place c.args.self.now.operators.items) ms rows before after c.in-Some.batch c.args.input c.args.sink.now c.take.new.self
          (omega (arith, length-drop c.args.place c.args.self.now.operators.items, c.if-place-len.true, c.len.ensures, c.args.self.now.operators.ok.0)) taken chain under c.in-Some.is (c.in_ok-take.ensures notations),
    )) c.ended-then-place-len.ensures.none

pub loop-init : goal.loop-init
loop-init g t c notations =
    begins-at {S = g.row.S.Denot} (g.S.RowSink.has notations) c.args.self.now.operators.items c.args.place c.index_mut.result.now (omega (arith, c.if-place-len.false, c.len.ensures, c.requires.place, c.args.self.now.operators.ok.0)) c.index_mut.ensures.value c.args.input c.in-Some.batch c.in-Some.is c.args.sink.now
    c.take-2.new.self c.in_ok-made.made c.in_ok-made.ensures

pub pass-requires : goal.pass-requires
pass-requires g t c κs within =
    let r = c.requires.can in
    let at = (c.loop.invariant []).1.0 in (
      omega (arith, c.decreases, at.long, at.within),
      (
        within,
        (
          omega (arith, at.within),
          part-can-at {S = g.row.S.Denot} (g.S.RowSink.has []) c.args.self.now.operators.items c.args.place c.index_mut.result.now (omega (arith, c.if-place-len.false, c.len.ensures, c.requires.place, c.args.self.now.operators.ok.0)) c.index_mut.ensures.value c.args.input c.in-Some.batch c.in-Some.is c.args.sink.now
              c.loop.self.operators.items c.loop.made c.loop.sink (c.loop.invariant [])
              r.0 r.1.0 r.1.1.0 r.1.1.1.0 r.1.1.1.1.0 r.1.1.1.1.1.0 r.1.1.1.1.1.1,
        ),
      ),
    )

pub returns-in_err-pass-clause-ends : goal.returns-in_err-pass-clause-ends
returns-in_err-pass-clause-ends g t c =
    let exit = err_from_is_err_and c.from_residual-in_err-pass.result c.from_residual-in_err-pass.ensures.1 in
    rw (exit.1, exit.2) (elim c.in_err-pass.ensures.ends [
      | inl memory ↦ inl memory
      | inr ends ↦ inr (ends-at {S = g.row.S.Denot} (g.S.RowSink.has []) c.args.self.now.operators.items c.args.place c.index_mut.result.now (omega (arith, c.if-place-len.false, c.len.ensures, c.requires.place, c.args.self.now.operators.ok.0)) c.index_mut.ensures.value c.args.input c.in-Some.batch c.in-Some.is c.args.sink.now
          c.loop.self.operators.items c.loop.made c.loop.sink (c.loop.invariant [])
          c.in_err-pass.field-0.0 ends)
    ])

pub returns-in_default-rest-clause-kept : goal.returns-in_default-rest-clause-kept
returns-in_default-rest-clause-kept g t c =
    on_ok_weaker c.ended-in_default-rest.result (λ none. kept-at {S = g.row.S.Denot} (g.S.RowSink.has []) c.args.self.now.operators.items c.args.place c.index_mut.result.now (omega (arith, c.if-place-len.false, c.len.ensures, c.requires.place, c.args.self.now.operators.ok.0)) c.index_mut.ensures.value c.args.input c.in-Some.batch c.in-Some.is c.args.sink.now
    c.loop.self.operators.items c.loop.made c.loop.sink (c.loop.invariant [])
    c.pass.new.self.operators.items c.pass.new.sink c.in_ok-pass.ensures.kept.0 c.in_ok-pass.ensures.kept.1 (c.in_ok-pass.ensures.goes_on [])) c.ended-in_default-rest.ensures.none

pub returns-in_default-rest-clause-goes_on : goal.returns-in_default-rest-clause-goes_on
returns-in_default-rest-clause-goes_on g t c =
    on_ok_weaker c.ended-in_default-rest.result (λ none notations ms rows before after taken chain under. (
      none,
      over-at {S = g.row.S.Denot} (g.S.RowSink.has notations) c.args.self.now.operators.items c.args.place c.index_mut.result.now (omega (arith, c.if-place-len.false, c.len.ensures, c.requires.place, c.args.self.now.operators.ok.0)) c.index_mut.ensures.value c.args.input c.in-Some.batch c.in-Some.is c.args.sink.now
          c.loop.self.operators.items c.loop.made c.loop.sink (c.loop.invariant notations)
          c.pass.new.self.operators.items c.pass.new.sink c.in_ok-pass.ensures.kept.0 c.in_ok-pass.ensures.kept.1 (c.in_ok-pass.ensures.goes_on notations) c.in_default-rest.is ms rows before after taken chain under,
    )) c.ended-in_default-rest.ensures.none

pub returns-in_default-rest-clause-ends : goal.returns-in_default-rest-clause-ends
returns-in_default-rest-clause-ends g t c =
    IfErr-weaker c.ended-in_default-rest.result _ _ (λ f e. inr (λ ms rows before after taken chain under.
    ends-piece (drop c.args.place c.pass.new.self.operators.items) ms rows c.args.input f
    (over-at {S = g.row.S.Denot} (g.S.RowSink.has []) c.args.self.now.operators.items c.args.place c.index_mut.result.now (omega (arith, c.if-place-len.false, c.len.ensures, c.requires.place, c.args.self.now.operators.ok.0)) c.index_mut.ensures.value c.args.input c.in-Some.batch c.in-Some.is c.args.sink.now
    c.loop.self.operators.items c.loop.made c.loop.sink (c.loop.invariant [])
    c.pass.new.self.operators.items c.pass.new.sink c.in_ok-pass.ensures.kept.0 c.in_ok-pass.ensures.kept.1 (c.in_ok-pass.ensures.goes_on []) c.in_default-rest.is ms rows before after taken chain under).have e)) c.ended-in_default-rest.ensures.some

pub index_mut-requires-in-loop : goal.index_mut-requires-in-loop
index_mut-requires-in-loop g t c =
    let within = within-at {S = g.row.S.Denot} (g.S.RowSink.has []) c.args.self.now.operators.items c.args.place c.index_mut.result.now (omega (arith, c.if-place-len.false, c.len.ensures, c.requires.place, c.args.self.now.operators.ok.0)) c.index_mut.ensures.value c.args.input c.in-Some.batch c.in-Some.is c.args.sink.now
    c.loop.self.operators.items c.loop.made c.loop.sink (c.loop.invariant [])
    c.pass.new.self.operators.items c.pass.new.sink c.in_ok-pass.ensures.kept.0 c.in_ok-pass.ensures.kept.1 (c.in_ok-pass.ensures.goes_on []) in
    omega (arith, within, c.pass.new.self.operators.ok.0)

pub go_on-requires : goal.go_on-requires
go_on-requires g t c =
    let r = c.requires.can in
    next-can-at {S = g.row.S.Denot} (g.S.RowSink.has []) c.args.self.now.operators.items c.args.place c.index_mut.result.now (omega (arith, c.if-place-len.false, c.len.ensures, c.requires.place, c.args.self.now.operators.ok.0)) c.index_mut.ensures.value c.args.input c.in-Some.batch c.in-Some.is c.args.sink.now
    c.loop.self.operators.items c.loop.made c.loop.sink (c.loop.invariant [])
    c.pass.new.self.operators.items c.pass.new.sink c.in_ok-pass.ensures.kept.0 c.in_ok-pass.ensures.kept.1 (c.in_ok-pass.ensures.goes_on [])
    c.index_mut-in-loop.result.now c.index_mut-in-loop.ensures.value c.in-Some-rest.probe c.in-Some-rest.is r.0 r.1.0 r.1.1.0 r.1.1.1.0 r.1.1.1.1.0 r.1.1.1.1.1.0 r.1.1.1.1.1.1

pub loop-preserved : goal.loop-preserved
loop-preserved g t c notations =
    goes-on-at {S = g.row.S.Denot} (g.S.RowSink.has notations) c.args.self.now.operators.items c.args.place c.index_mut.result.now (omega (arith, c.if-place-len.false, c.len.ensures, c.requires.place, c.args.self.now.operators.ok.0)) c.index_mut.ensures.value c.args.input c.in-Some.batch c.in-Some.is c.args.sink.now
    c.loop.self.operators.items c.loop.made c.loop.sink (c.loop.invariant notations)
    c.pass.new.self.operators.items c.pass.new.sink c.in_ok-pass.ensures.kept.0 c.in_ok-pass.ensures.kept.1 (c.in_ok-pass.ensures.goes_on notations)
    c.index_mut-in-loop.result.now c.index_mut-in-loop.ensures.value c.in-Some-rest.probe c.in-Some-rest.is c.go_on.new.self c.in_ok-made-2.made c.in_ok-made-2.ensures
