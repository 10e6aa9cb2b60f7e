use Rattle.std.proofs.Common.{◌∙◌, arith, length, sym, ap, inl, inr}
use Rattle.std.proofs.lemmas.List.{length-map}
use Rattle.std.proofs.lemmas.Result.{on_ok_weaker}
use Rattle.fq_shell.specs.Arguments.{named_by}
use Rattle.fq_program.specs.Named.{noted_plan}
use Rattle.fq_program.proofs.NamedLemmas.{on_ok_known, plan-checked, plan-refused}
use Rattle.fq_program.proofs.command_line.planned.Goals as goal

pub returns-in-Ok-clause-few : goal.returns-in-Ok-clause-few
returns-in-Ok-clause-few g c = on_ok_weaker c.noted_plan.result (λ few. omega (arith, few, length-map c.files.result.now (λ name. name.now), ap length c.files.ensures)) c.noted_plan.ensures.few

pub returns-in-Ok-clause-planned : goal.returns-in-Ok-clause-planned
returns-in-Ok-clause-planned g c text known =
    let counted = sym (length-map c.files.result.now (λ name. name.now)) ∙ ap length c.files.ensures in
    let is = plan-checked text c.args.named.now (length (named_by c.args.options.now).files) c.in-Ok.plan (c.in-Ok.ensures.read text known)
    ∙ ap (noted_plan c.in-Ok.plan c.args.named.now) (sym counted) in
    rw is c.noted_plan.ensures.noted

pub returns-in-Ok-clause-learned : goal.returns-in-Ok-clause-learned
returns-in-Ok-clause-learned g c text known = on_ok_known c.noted_plan.result (c.in-Ok.ensures.learned text known)

pub returns-in-Err-clause-planned : goal.returns-in-Err-clause-planned
returns-in-Err-clause-planned g c text known = elim (c.in-Err.ensures.read text known) [
  | inl refused ↦ inl (plan-refused text c.args.named.now (length (named_by c.args.options.now).files) c.in-Err.failure refused)
  | inr outside ↦ inr outside
]
