use Rattle.std.proofs.Common.{◌≡◌, ◌∙◌, ap, refl, Some}
use Rattle.std.specs.Prelude.{option_and_then}
use Rattle.std.proofs.lemmas.Result.{IfErr-weaker}
use Rattle.fq_messages.specs.declared.failures.Failure.TheVariants.{PlanFile}
use Rattle.fq_program.proofs.NamedLemmas.{outside-opened}
use Rattle.fq_program.proofs.command_line.read_plan_text.Goals as goal

pub returns-in-Ok-clause-read : goal.returns-in-Ok-clause-read
returns-in-Ok-clause-read g c text known =
    let told : g.O.Opener.bytes_of c.args.files.now c.in-Some.name.now ≡ Some text = ap (option_and_then (g.O.Opener.bytes_of c.args.files.now)) c.in-Some.ensures ∙ known in
    c.read_whole.ensures.bytes text (c.in-Ok.ensures.told text told)

pub returns-in-Ok-clause-failed : goal.returns-in-Ok-clause-failed
returns-in-Ok-clause-failed g c = IfErr-weaker c.read_whole.result _ _ (λ f why. outside-opened f PlanFile refl why) c.read_whole.ensures.failed

pub returns-in-Err-clause-failed : goal.returns-in-Err-clause-failed
returns-in-Err-clause-failed g c = outside-opened c.in-Err.failure PlanFile refl c.in-Err.ensures.failed
