use Rattle.std.proofs.Common.{◌≡◌, ◌∷◌, ◌+◌, ◌-◌, List, arith, ap, drop, length, length-drop, refl, sym, take, ◌∙◌, subst}
use Rattle.std.proofs.lemmas.List.{drop_all, take_all}
use Rattle.fq_run.specs.Starting.{rights_of}
use Rattle.fq_run.specs.declared.operators.RunningOperator.{RunningOperator}
use Rattle.fq_run.specs.declared.stages.Stage.{Stage}
use Rattle.fq_run.proofs.RightLemmas.{rights-next}
use Rattle.fq_run.proofs.StageTransforms.{StartedSoFar, stage-next, started-all, started-start, started-step}
use Rattle.fq_run.proofs.pipeline.Pipeline.start.Goals as goal

pub loop-number-init : goal.loop-number-init
loop-number-init c =
    let sides = c.args.sides.items in let before = c.args.schema.now in let stages = c.args.stages.now in record {
      rights = refl;
      started = λ after fits. subst (λ (ops : List RunningOperator). StartedSoFar sides before stages after ops before stages) (sym c.in_ok-operators.ensures.items) (started-start sides before stages after fits);
    }

pub start-requires : goal.start-requires
start-requires c =
    let l = c.loop-number in let i = l.number in let sides = c.args.sides.items in let before = c.args.schema.now in let stages = c.args.stages.now in
    let s = c.index-stages-number.result in let after = c.requires.0 in
    let next : drop i stages ≡ s ∷ drop (i + 1) stages = stage-next sides before stages after i s (omega arith) c.index-stages-number.is in (
      sides,
      s.after,
      (subst (λ (ss : List Stage). StartedSoFar sides before stages after l.operators.items l.at.now ss) next (l.invariant.started after c.requires.1)).fits.0,
      c.in_ok-right.ensures.right ∙ (rights-next l.sides.items sides stages i s next l.invariant.rights).0,
    )

pub loop-number-preserved : goal.loop-number-preserved
loop-number-preserved c =
    let l = c.loop-number in let i = l.number in let sides = c.args.sides.items in let before = c.args.schema.now in let stages = c.args.stages.now in
    let s = c.index-stages-number.result in
    let next : drop i stages ≡ s ∷ drop (i + 1) stages = stage-next sides before stages c.requires.0 i s (omega arith) c.index-stages-number.is in
    let rights = rights-next l.sides.items sides stages i s next l.invariant.rights in
    let later : take (length stages - (i + 1)) (drop (i + 1) stages) ≡ drop (i + 1) stages = take_all (length stages - (i + 1)) (drop (i + 1) stages) (omega (arith, length-drop (i + 1) stages)) in record {
      rights = ap (rights_of c.take_right.new.sides.items) (sym later) ∙ c.in_ok-right.ensures.left ∙ ap (rights_of l.sides.items) later ∙ rights.1;
      started = λ after fits. subst (λ (ops : List RunningOperator). StartedSoFar sides before stages after ops s.after (drop (i + 1) stages)) (sym c.in_ok-push.ensures.items)
          (started-step sides before stages after l.operators.items l.at.now s (drop (i + 1) stages) c.in_ok-start.field-0
          (subst (λ (ss : List Stage). StartedSoFar sides before stages after l.operators.items l.at.now ss) next (l.invariant.started after fits))
          (λ accepts. c.in_ok-start.ensures sides s.after accepts (c.in_ok-right.ensures.right ∙ rights.0)));
    }

pub returns : goal.returns
returns c after fits =
    let l = c.loop-number in let i = l.number in let sides = c.args.sides.items in let before = c.args.schema.now in let stages = c.args.stages.now in
    let all = started-all sides before stages after fits l.operators.items l.at.now
    (subst (λ (ss : List Stage). StartedSoFar sides before stages after l.operators.items l.at.now ss) (drop_all i stages (omega arith)) (l.invariant.started after fits)) in
    all.1
