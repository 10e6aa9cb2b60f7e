use Rattle.std.proofs.Common.{◌≡◌, ◌++◌, ◌∷◌, [], Some, map, length, ap, sym, ◌∙◌, inl, inr, arith, append_assoc, length-append}
use Rattle.std.proofs.lemmas.List.{length-map, map-append}
use Rattle.fq_language.specs.Judged.{refused_at, source_refusal}
use Rattle.fq_csv.specs.Sources.{source_of_files}
use Rattle.fq_language.specs.View.{source_data}
use Rattle.fq_language.specs.declared.faults.Place.TheVariants as place
use Rattle.fq_plan.proofs.CheckLemmas.{source-refused, sources-passed}
use Rattle.fq_plan.proofs.checks.sources.check_sources.Goals as goal

pub returns-in-Err-clause-refused : goal.returns-in-Err-clause-refused
returns-in-Err-clause-refused c =
    let before = map source_data c.loop-source.yielded in
    let left = c.next.new.self.rest.items in
    let parts = c.loop-source.invariant.left ∙ ap (λ rest. c.loop-source.yielded ++ rest) c.in-Some.ensures.steps.0 in
    let number : c.len.result ≡ length before =
    omega (arith, c.len.ensures, c.loop-source.checked.ok.0, length-map c.loop-source.checked.items source_of_files, ap length c.loop-source.invariant.same) in
    elim c.in-Err.ensures.refused [
      | inl e ↦ inl (
          ap (λ ss. source_refusal 0 (map source_data ss)) parts
          ∙ ap (source_refusal 0) (map-append source_data c.loop-source.yielded (c.in-Some.source ∷ left))
          ∙ source-refused before (source_data c.in-Some.source) (map source_data left) c.in-Err.code c.loop-source.invariant.passed e
          ∙ ap (λ n. Some (refused_at (place.Source n) c.in-Err.code)) (sym number))
      | inr memory ↦ inr (λ steps. (
        memory,
        omega (arith, number, length-map c.loop-source.yielded source_data, ap length parts, length-append c.loop-source.yielded (c.in-Some.source ∷ left)),
      ))
    ]

pub loop-source-preserved : goal.loop-source-preserved
loop-source-preserved c =
    let source = c.in-Some.source in record {
      left = c.loop-source.invariant.left ∙ ap (λ rest. c.loop-source.yielded ++ rest) c.in-Some.ensures.steps.0 ∙ sym (append_assoc c.loop-source.yielded (source ∷ []) c.next.new.self.rest.items);
      same = c.in-Ok.ensures.source ∙ ap (λ ss. ss ++ (source_data source ∷ [])) c.loop-source.invariant.same ∙ sym (map-append source_data c.loop-source.yielded (source ∷ []));
      passed = ap (source_refusal 0) (map-append source_data c.loop-source.yielded (source ∷ []))
          ∙ sources-passed (map source_data c.loop-source.yielded) (source_data source) c.loop-source.invariant.passed c.in-Ok.ensures.passed;
    }
