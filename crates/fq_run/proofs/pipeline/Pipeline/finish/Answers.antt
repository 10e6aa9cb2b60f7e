use Rattle.std.proofs.Common.{◌∙◌, List, [], arith, inl, inr, refl, subst}
use Rattle.std.proofs.lemmas.List.{drop_all, length-set}
use Rattle.std.proofs.lemmas.Result.{err_from_is_err_and}
use Rattle.fq_run.specs.declared.operators.RunningOperator.{RunningOperator}
use Rattle.fq_run.proofs.PipelineLemmas.{IsEnding, ending-begins, ending-can, ending-ends, ending-faults, ending-on, ending-part}
use Rattle.fq_run.proofs.pipeline.Pipeline.finish.Goals as goal

pub loop-place-init : goal.loop-place-init
loop-place-init g c = (refl, λ notations w rows out run. ending-begins {S = g.row.S.Denot} (g.S.RowSink.has notations) w rows out c.args.sink.now c.args.self.now.operators.items run)

pub index_mut-requires : goal.index_mut-requires
index_mut-requires g c = omega (arith, c.loop-place.invariant.0, c.loop-place-test.true, c.len-place-end.ensures, c.args.self.now.operators.ok.0, c.loop-place.self.operators.ok.0)

pub finish-requires : goal.finish-requires
finish-requires g c =
    let r = c.requires in
    ending-can {S = g.row.S.Denot} (g.S.RowSink.has []) r.0 r.1.0 r.1.1.0 c.args.sink.now c.loop-place.self.operators.items c.loop-place.place c.index_mut.result.now c.loop-place.sink (c.loop-place.invariant.1 [] r.0 r.1.0 r.1.1.0 r.1.1.1)
    (omega (arith, c.loop-place.invariant.0, c.loop-place-test.true, c.len-place-end.ensures, c.args.self.now.operators.ok.0)) c.index_mut.ensures.value

pub pass-requires-clause-place : goal.pass-requires-clause-place
pass-requires-clause-place g c =
    let long = length-set c.loop-place.self.operators.items c.loop-place.place c.finish.new.self in
    omega (arith, long, c.loop-place.invariant.0, c.loop-place-test.true, c.len-place-end.ensures, c.args.self.now.operators.ok.0)

pub pass-requires-clause-can : goal.pass-requires-clause-can
pass-requires-clause-can g c =
    let r = c.requires in
    ending-part {S = g.row.S.Denot} (g.S.RowSink.has []) r.0 r.1.0 r.1.1.0 c.args.sink.now c.loop-place.self.operators.items c.loop-place.place c.index_mut.result.now c.finish.new.self c.in_ok-left.left c.in_ok-left.ensures c.loop-place.sink (c.loop-place.invariant.1 [] r.0 r.1.0 r.1.1.0 r.1.1.1) (omega (arith, c.loop-place.invariant.0, c.loop-place-test.true, c.len-place-end.ensures, c.args.self.now.operators.ok.0)) c.index_mut.ensures.value

pub returns-in_err-pass-clause-ends : goal.returns-in_err-pass-clause-ends
returns-in_err-pass-clause-ends g c =
    let exit = err_from_is_err_and c.from_residual-in_err-pass.result c.from_residual-in_err-pass.ensures.1 in
    rw (exit.1, exit.2) (elim c.in_err-pass.ensures.ends [
      | inl memory ↦ inl memory
      | inr ends ↦ inr (λ w rows out run. ending-faults {S = g.row.S.Denot} (g.S.RowSink.has []) w rows out c.args.sink.now c.loop-place.self.operators.items c.loop-place.place c.index_mut.result.now c.finish.new.self c.in_ok-left.left c.in_ok-left.ensures c.loop-place.sink (c.loop-place.invariant.1 [] w rows out run) (omega (arith, c.loop-place.invariant.0, c.loop-place-test.true, c.len-place-end.ensures, c.args.self.now.operators.ok.0)) c.index_mut.ensures.value c.in_err-pass.field-0.0 ends)
    ])

pub loop-place-preserved : goal.loop-place-preserved
loop-place-preserved g c = (
  c.in_ok-pass.ensures.kept.0 ∙ length-set c.loop-place.self.operators.items c.loop-place.place c.finish.new.self ∙ c.loop-place.invariant.0,
  λ notations w rows out run. ending-on {S = g.row.S.Denot} (g.S.RowSink.has notations) w rows out c.args.sink.now c.loop-place.self.operators.items c.loop-place.place c.index_mut.result.now c.finish.new.self c.in_ok-left.left c.in_ok-left.ensures c.loop-place.sink (c.loop-place.invariant.1 notations w rows out run) (omega (arith, c.loop-place.invariant.0, c.loop-place-test.true, c.len-place-end.ensures, c.args.self.now.operators.ok.0)) c.index_mut.ensures.value c.pass.new.self.operators.items c.pass.new.sink (c.in_ok-pass.ensures.goes_on notations),
)

pub returns-clause-all : goal.returns-clause-all
returns-clause-all g c notations w rows out run h =
    ending-ends {S = g.row.S.Denot} (g.S.RowSink.has notations) w rows out c.args.sink.now c.loop-place.sink
    (subst (λ (rs : List RunningOperator). IsEnding {S = g.row.S.Denot} (g.S.RowSink.has notations) w rows out c.args.sink.now c.loop-place.sink rs)
    (drop_all c.loop-place.place c.loop-place.self.operators.items (omega (arith, c.loop-place.invariant.0, c.loop-place-test.false, c.len-place-end.ensures, c.args.self.now.operators.ok.0)))
    (c.loop-place.invariant.1 notations w rows out run)) h
