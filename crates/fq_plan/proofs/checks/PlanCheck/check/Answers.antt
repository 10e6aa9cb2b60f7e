use Rattle.std.proofs.Common.{◌≡◌, ◌+◌, ◌++◌, ◌∷◌, [], ℕ, Bool, Ok, List, map, length, None, ap, sym, ◌∙◌, subst, inl, inr, arith, length-append}
use Rattle.std.specs.Prelude.{Option, option_to_list}
use Rattle.std.proofs.lemmas.List.{length-map}
use Rattle.std.proofs.lemmas.Result.{err_from_is_err_and}
use Rattle.fq_column.specs.Frame.{Fields}
use Rattle.fq_csv.specs.Sources.{source_of_files}
use Rattle.fq_csv.specs.declared.sources.SourceFiles.{SourceFiles}
use Rattle.fq_language.specs.Judged.{checked, judged_steps, source_refusal, IsPlaceOf}
use Rattle.fq_language.specs.Plan.{PlanData, IsWithinLimits}
use Rattle.fq_language.specs.View.{plan_step_of, source_data}
use Rattle.fq_notation.specs.declared.notations.Notation.{Notation}
use Rattle.fq_plan.specs.Needed.{needed_columns}
use Rattle.fq_plan.specs.Stages.{columns_after, columns_of, narrowed, query_of, stage_steps, stages_of, whole_source, IsChecked, Leads}
use Rattle.fq_run.specs.Physical.{Physical}
use Rattle.fq_run.specs.Stages.{physical_of}
use Rattle.fq_plan.proofs.KeepingLemmas.{narrowed-kept, whole-data, whole-kept}
use Rattle.fq_plan.proofs.PreparedLemmas.{checked-is, columns, needed-is, prepared, runnable, source-refuses, steps-refuse}
use Rattle.fq_plan.proofs.WholeSourceLemmas.{refusal-whole}
use Rattle.fq_plan.proofs.checks.PlanCheck.check.Goals as goal
use Rattle.fq_plan.proofs.checks.PlanCheck.check.Goals.{In-Some, After-keeping-main}

-- the sources of the plan, which are not refused
parts : (c : In-Some) → map source_of_files (c.pop.new.self.items ++ c.in-Some.main ∷ []) ≡ c.args.self.sources
parts c =
    ap (map source_of_files) (sym (c.pop.ensures.items ∙ ap (λ (o : Option SourceFiles). c.pop.new.self.items ++ option_to_list o) c.in-Some.is))
    ∙ c.in_ok-sides.ensures.sources ∙ c.into_parts-sources.ensures.sources

passed : (c : In-Some) → source_refusal 0 c.args.self.sources ≡ None
passed c = ap (source_refusal 0) (sym c.into_parts-sources.ensures.sources) ∙ c.in_ok-sides.ensures.passed

pub returns-in_err-sides : goal.returns-in_err-sides
returns-in_err-sides c =
    let exit = err_from_is_err_and c.from_residual.result c.from_residual.ensures.1 in
    let count : length c.into_parts-sources.result.0.items ≡ length c.args.self.sources =
    sym (length-map c.into_parts-sources.result.0.items source_data) ∙ ap length c.into_parts-sources.ensures.sources in
    rw (exit.1, exit.2) (elim c.in_err-sides.ensures.refused [
      | inl e ↦ inl (sym (source-refuses c.args.self c.in_err-sides.field-0.0 (ap (source_refusal 0) (sym c.into_parts-sources.ensures.sources) ∙ e)))
      | inr memory ↦ inr ((memory 0).0, subst (λ n. IsPlaceOf n (length c.args.self.steps) c.in_err-sides.field-0.0.place) count (memory (length c.args.self.steps)).1)
    ])

pub returns-in_err-passed : goal.returns-in_err-passed
returns-in_err-passed c =
    let d = (goal.at.returns-in_err-passed c).In-Some in
    let exit = err_from_is_err_and c.from_residual-in_err-passed.result c.from_residual-in_err-passed.ensures.1 in
    let sides = c.pop.new.self.items in
    let main = c.in-Some.main in
    let steps = c.into_parts-sources.result.1.items in
    let sources : length c.as_slice.result.now + 1 ≡ length c.args.self.sources =
    omega (arith, ap length c.as_slice.ensures.value, ap length (parts d), length-map (sides ++ main ∷ []) source_of_files, length-append sides (main ∷ [])) in
    let count : length steps ≡ length c.args.self.steps = sym (length-map steps plan_step_of) ∙ ap length c.into_parts-sources.ensures.steps in
    rw (exit.1, exit.2) (elim c.in_err-passed.ensures.refused [
      | inl e ↦ inl (sym (steps-refuse sides main c.args.self (parts d) c.in_err-passed.field-0.0 (passed d)
          ((λ i. judged_steps (columns_of (sym c.as_slice.ensures.value i)) 0 main.layout.schema (sym c.into_parts-sources.ensures.steps i)) ∙ e)))
      | inr memory ↦ inr (memory.0, subst (λ (n : ℕ × ℕ). IsPlaceOf n.0 n.1 c.in_err-passed.field-0.0.place) (λ i. (sources i, count i)) memory.1)
    ])

-- the main source, which keeps the columns that are needed
abbrev kept : After-keeping-main → SourceFiles
kept c = c.keeping-main.result

-- what the steps do
abbrev after : After-keeping-main → Fields
after c = columns_after c.in_ok-passed.passed

steps-lead : (c : After-keeping-main) → Leads (columns_of c.pop.new.self.items) 0 c.in-Some.main.layout.schema (stages_of c.in_ok-passed.passed) (after c)
steps-lead c = subst (λ (sides : List SourceFiles). Leads (columns_of sides) 0 c.in-Some.main.layout.schema (stages_of c.in_ok-passed.passed) (after c)) c.as_slice.ensures.value c.in_ok-passed.ensures.leads

-- and so on the columns of the source that is kept
leads : (c : After-keeping-main) → Leads (columns_of c.pop.new.self.items) 0 (kept c).layout.schema (stages_of c.in_ok-passed.passed) (after c)
leads c =
    subst (λ (fields : Fields). Leads (columns_of c.pop.new.self.items) 0 fields (stages_of c.in_ok-passed.passed) (after c))
    (sym (ap (λ (s : SourceFiles). s.layout.schema) c.keeping-main.ensures)) (steps-lead c)

steps-are : (c : After-keeping-main) → stage_steps (stages_of c.in_ok-passed.passed) ≡ c.args.self.steps
steps-are c = c.in_ok-passed.ensures.steps ∙ c.into_parts-sources.ensures.steps

marks-are : (c : After-keeping-main) → c.in-Ok.marks.items ≡ needed_columns c.args.self
marks-are c =
    let d = (goal.at.After-keeping-main c).In-Some in
    let sides = c.pop.new.self.items in
    c.in-Ok.ensures (columns_of sides) c.in-Some.main.layout.schema (steps-lead c)
    ∙ needed-is sides c.in-Some.main c.args.self (parts d) (stage_steps (stages_of c.in_ok-passed.passed)) (steps-are c)

made : After-keeping-main → Physical
made c = physical_of (c.pop.new.self.items ++ kept c ∷ []) c.in_ok-passed.passed.leading c.in_ok-passed.passed.stages.items []

whole-is : (c : After-keeping-main) → map whole_source (map source_of_files (c.pop.new.self.items ++ kept c ∷ [])) ≡ map whole_source (map source_of_files (c.pop.new.self.items ++ c.in-Some.main ∷ []))
whole-is c = whole-kept c.in-Ok.marks.items c.pop.new.self.items c.in-Some.main (kept c) c.keeping-main.ensures

query-is : (c : After-keeping-main) → query_of (made c) ≡ c.args.self
unfolding made
query-is c =
    let d = (goal.at.After-keeping-main c).In-Some in
    let declared = c.into_parts-sources.ensures.sources in
    let sources : map whole_source (map source_of_files (c.pop.new.self.items ++ kept c ∷ [])) ≡ c.args.self.sources =
    whole-is c ∙ ap (map whole_source) (parts d) ∙ ap (map whole_source) (sym declared) ∙ whole-data c.into_parts-sources.result.0.items ∙ declared in
    λ i. record { sources = sources i; steps = steps-are c i; notations = sym c.into_parts-sources.ensures.plain i }

limits : (c : After-keeping-main) → IsWithinLimits (query_of (made c))
limits c = subst IsWithinLimits (sym (query-is c)) c.into_parts-sources.ensures.within_limits

narrowed-is : (c : After-keeping-main) → (made c).sources ≡ narrowed (needed_columns (query_of (made c))) (query_of (made c)).sources
unfolding made
narrowed-is c =
    let d = (goal.at.After-keeping-main c).In-Some in
    narrowed-kept c.in-Ok.marks.items c.pop.new.self.items c.in-Some.main (kept c) c.keeping-main.ensures c.args.self.sources (parts d)
    ∙ ap (λ (marks : List Bool). narrowed marks c.args.self.sources) (marks-are c)
    ∙ ap (λ (p : PlanData). narrowed (needed_columns p) p.sources) (sym (query-is c))

unrefused : (c : After-keeping-main) → source_refusal 0 (made c).sources ≡ None
unfolding made
unrefused c =
    let d = (goal.at.After-keeping-main c).In-Some in
    sym (refusal-whole 0 (map source_of_files (c.pop.new.self.items ++ kept c ∷ [])))
    ∙ ap (source_refusal 0) (whole-is c)
    ∙ refusal-whole 0 (map source_of_files (c.pop.new.self.items ++ c.in-Some.main ∷ []))
    ∙ ap (source_refusal 0) (parts d) ∙ passed d

is-checked : (c : After-keeping-main) → IsChecked (made c)
unfolding made
is-checked c =
    prepared c.pop.new.self.items (kept c) c.in_ok-passed.passed.leading c.in_ok-passed.passed.stages.items [] c.in_ok-passed.passed.after_leading (after c) (leads c) (unrefused c) (narrowed-is c) (limits c)

-- no column has a notation
plainly : (c : After-keeping-main) {notations : List Notation} → notations ≡ [] → physical_of (c.pop.new.self.items ++ kept c ∷ []) c.in_ok-passed.passed.leading c.in_ok-passed.passed.stages.items notations ≡ made c
unfolding made
plainly c e = ap (physical_of (c.pop.new.self.items ++ kept c ∷ []) c.in_ok-passed.passed.leading c.in_ok-passed.passed.stages.items) e

pub new-physical-requires-clause-runnable : goal.new-physical-requires-clause-runnable
unfolding made
new-physical-requires-clause-runnable c =
    let d = (goal.at.new-physical-requires-clause-runnable c).After-keeping-main in
    runnable c.pop.new.self.items (kept d) c.in_ok-passed.passed.leading c.in_ok-passed.passed.stages.items [] c.in_ok-passed.passed.after_leading (after d) (leads d) (limits d)

pub new-physical-requires-clause-columns : goal.new-physical-requires-clause-columns
new-physical-requires-clause-columns c =
    let d = (goal.at.new-physical-requires-clause-columns c).After-keeping-main in
    columns c.pop.new.self.items (kept d) c.in_ok-passed.passed.leading c.in_ok-passed.passed.stages.items [] c.in_ok-passed.passed.after_leading (after d) (leads d)

pub invariant_of-result : goal.invariant_of-result
unfolding made
invariant_of-result c = subst IsChecked (sym (c.new-physical.ensures ∙ plainly (goal.at.invariant_of-result c).After-keeping-main c.plain-plain.ensures)) (is-checked (goal.at.invariant_of-result c).After-keeping-main)

pub returns : goal.returns
unfolding made
returns c =
    let d = (goal.at.returns c).After-keeping-main in
    inl (ap (λ (p : Physical). Ok (query_of p)) (c.new-physical.ensures ∙ plainly d c.plain-plain.ensures) ∙ sym (checked-is (made d) (is-checked d)) ∙ ap checked (query-is d))
