-- A plan that a text spells says of no column how its ints are written.
use Rattle.std.proofs.Common.{◌≡◌, ◌∙◌, ℕ, List, [], Option, Some, None, Result, Ok, Err, ap, refl, sym}
use Rattle.std.specs.Prelude.{codes, nat_le, ok_or, sum_by}
use Rattle.serde_json.specs.Data.{Data}
use Rattle.fq_csv.specs.Sources.{Source}
use Rattle.fq_csv.specs.declared.sources.TheConstants.{MAX_FILES}
use Rattle.fq_expr.specs.declared.fronts.TheConstants.{MAX_STEPS}
use Rattle.fq_language.specs.Parts.{each_of, has_members, member, with_length}
use Rattle.fq_language.specs.Plan.{PlanData}
use Rattle.fq_language.specs.Spelling.{json_of, plan_of, read_as_plan, source_of, step_of, version_of}
use Rattle.fq_language.specs.declared.faults.PlanFault.{PlanFault}
use Rattle.fq_language.specs.declared.faults.PlanFault.TheVariants.{Json, Shape}
use Rattle.fq_language.specs.declared.plans.TheConstants.{MAX_SOURCES}
use Rattle.fq_language.proofs.LimitLemmas.{given-some, only_if-some}

plan-plain : (d : Data) (p : PlanData) → Some p ≡ plan_of d → p.notations ≡ []
plan-plain d p e =
    let whole = only_if-some (has_members 3 d) _ p e in
    let version = given-some (member (codes "version") version_of d) _ p whole.1 in
    let sources = given-some (with_length 1 MAX_SOURCES (member (codes "sources") (each_of (source_of version.0)) d)) _ p version.2 in
    let steps = given-some (with_length 0 MAX_STEPS (member (codes "steps") (each_of (step_of version.0)) d)) _ p sources.2 in
    let made = only_if-some (nat_le (sum_by (λ (s : Source). s.files) sources.0) MAX_FILES) _ p steps.2 in
    ap (λ (o : Option PlanData). elim o [ None ↦ p.notations | Some q ↦ q.notations ]) made.1

pub spelled-plain : (text : List ℕ) (p : PlanData) → read_as_plan text ≡ Ok p → p.notations ≡ []
spelled-plain text p e = by (json_of text) e
  where
    there : (d : Data) (o : Option PlanData) → plan_of d ≡ o → ok_or o Shape ≡ Ok p → p.notations ≡ []
    there d None is f = absurd (cc)
    there d (Some q) is f = let same : q ≡ p = cc in plan-plain d p (sym (ap Some same) ∙ sym is)

    by : (o : Option Data) → elim o as (λ _. Result PlanData PlanFault) [ None ↦ Err Json | Some d ↦ ok_or (plan_of d) Shape ] ≡ Ok p → p.notations ≡ []
    by None f = absurd (cc)
    by (Some d) f = there d (plan_of d) refl f
