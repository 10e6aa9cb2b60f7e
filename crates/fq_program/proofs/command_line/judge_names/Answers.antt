use Rattle.std.proofs.Common.{◌≡◌, ◌∙◌, [], List, None, Option, Some, ap, refl, sym, inl}
use Rattle.fq_notation.specs.Notation.{Named}
use Rattle.std.specs.Prelude.{unwrap_or}
use Rattle.fq_shell.specs.Arguments.{named_by}
use Rattle.fq_program.specs.Named.{names_refusal}
use Rattle.fq_program.proofs.command_line.judge_names.Goals as goal

pub returns-then-replaces_plan-clause-told : goal.returns-then-replaces_plan-clause-told
unfolding names_refusal
returns-then-replaces_plan-clause-told g c text known = inl (rw (sym (c.replaces_plan.ensures.told text known) ∙ c.if-replaces_plan.true) refl)

pub returns-then-reads_input_twice-clause-told : goal.returns-then-reads_input_twice-clause-told
unfolding names_refusal
returns-then-reads_input_twice-clause-told g c text known =
    inl (rw (sym (c.replaces_plan.ensures.told text known) ∙ c.if-replaces_plan.false, sym c.reads_input_twice.ensures ∙ c.if-reads_input_twice.true) refl)

pub returns-in-Ok-Some-clause-told : goal.returns-in-Ok-Some-clause-told
unfolding names_refusal
returns-in-Ok-Some-clause-told g c text known =
    let given : Some c.in-Ok-Some.named ≡ (named_by c.args.options.now).notations = sym c.in-Ok-Some.field-0-is ∙ c.in-Ok-Some.ensures in (
      rw (sym (c.replaces_plan.ensures.told text known) ∙ c.if-replaces_plan.false, sym c.reads_input_twice.ensures ∙ c.if-reads_input_twice.false, sym given) refl,
      ap (λ (named : Option (List Named)). unwrap_or named []) given,
    )

pub returns-in-Ok-None-clause-told : goal.returns-in-Ok-None-clause-told
unfolding names_refusal
returns-in-Ok-None-clause-told g c text known =
    let none : None ≡ (named_by c.args.options.now).notations = sym c.in-Ok-None.field-0-is ∙ c.in-Ok-None.ensures in
    inl (rw (sym (c.replaces_plan.ensures.told text known) ∙ c.if-replaces_plan.false, sym c.reads_input_twice.ensures ∙ c.if-reads_input_twice.false, sym none) refl)
