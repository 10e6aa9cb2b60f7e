use Rattle.std.proofs.Common.{◌≡◌, ◌∙◌, ℕ, Bool, true, false, List, Option, Some, None, refl, ap, ap₂}
use Rattle.std.specs.Prelude.{option_and_then}
use Rattle.std.specs.Option.{option_map_or}
use Rattle.std.specs.Str.{bytes_eq}
use Rattle.std.proofs.lemmas.Slice.Eq.{bytes_eq-Decides}
use Rattle.fq_shell.specs.Arguments.{named_by, replaces_plan}
use Rattle.fq_shell.proofs.options.Options.replaces_plan.Goals as goal

abbrev have_one_name : Option (List ℕ) → Option (List ℕ) → Bool
have_one_name plan output = option_map_or (λ p. option_map_or (λ o. bytes_eq o p) output false) plan false

named : (p o : List ℕ) (plan output : Option (List ℕ)) → Some p ≡ plan → Some o ≡ output → have_one_name plan output ≡ true → o ≡ p
named p o plan output is_plan is_output same = (bytes_eq-Decides o p).0 (ap₂ have_one_name is_plan is_output ∙ same)

without-output : (plan : Option (List ℕ)) → have_one_name plan None ≡ true → false ≡ true
without-output None same = same
without-output (Some p) same = same

pub returns-in-Some-Some-clause-named : goal.returns-in-Some-Some-clause-named
unfolding replaces_plan
returns-in-Some-Some-clause-named g c same =
    c.is_same_file.ensures.named (named c.in-Some-Some.plan.now c.in-Some-Some.output.now _ _ c.in-Some-Some.ensures c.in-Some-Some.ensures' same)

pub returns-in_default-clause-named : goal.returns-in_default-clause-named
unfolding replaces_plan
returns-in_default-clause-named g c same = without-output _ (ap (have_one_name _) c.in_default.ensures' ∙ same)

pub returns-in_default-2-clause-named : goal.returns-in_default-2-clause-named
unfolding replaces_plan
returns-in_default-2-clause-named g c same = ap (λ (plan : Option (List ℕ)). have_one_name plan (named_by c.args.self.now).output) c.in_default.ensures ∙ same

nowhere : (plan : Option (List ℕ)) → false ≡ have_one_name plan None
nowhere None = refl
nowhere (Some p) = refl

pub returns-in-Some-Some-clause-told : goal.returns-in-Some-Some-clause-told
unfolding replaces_plan
returns-in-Some-Some-clause-told g c text known =
    c.is_same_file.ensures.told text (ap (option_and_then (g.O.Opener.bytes_of c.args.files.now)) c.in-Some-Some.ensures ∙ known)
    ∙ ap₂ have_one_name c.in-Some-Some.ensures c.in-Some-Some.ensures'

pub returns-in_default-clause-told : goal.returns-in_default-clause-told
unfolding replaces_plan
returns-in_default-clause-told g c text known = nowhere _ ∙ ap (have_one_name _) c.in_default.ensures'

pub returns-in_default-2-clause-told : goal.returns-in_default-2-clause-told
unfolding replaces_plan
returns-in_default-2-clause-told g c text known = ap (λ (plan : Option (List ℕ)). have_one_name plan (named_by c.args.self.now).output) c.in_default.ensures
