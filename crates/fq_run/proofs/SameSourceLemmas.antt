-- Plans whose sources differ in how their fields are read alone.
use Rattle.std.proofs.Common.{◌≡◌, ◌+◌, ◌∷◌, [], ℕ, List, map, sum_by, refl, ap, sym, subst, ◌∙◌, arith}
use Rattle.std.proofs.lemmas.List.{length-map}
use Rattle.std.proofs.lemmas.List.Sums.{sum_by-cons}
use Rattle.fq_column.specs.Frame.{Fields}
use Rattle.fq_expr.specs.Front.{NumberedSteps}
use Rattle.fq_expr.specs.Steps.{fields_after_all}
use Rattle.fq_csv.specs.Sources.{Source, but_last, last_or, source_of_files}
use Rattle.fq_csv.proofs.LastLemmas.{but_last-map}
use Rattle.fq_csv.specs.declared.sources.SourceFiles.{SourceFiles}
use Rattle.fq_notation.specs.Notation.{Named}
use Rattle.fq_run.specs.Noted.{noted_files, noted_source}
use Rattle.fq_run.specs.Stages.{Fit, IsRunnable}
use Rattle.fq_run.specs.declared.stages.Stage.{Stage}

-- the numbers of files, and the columns, of sources that have the same
module _ (f : Source → Source) (files : (s : Source) → (f s).files ≡ s.files) (fields : (s : Source) → (f s).fields ≡ s.fields) where
  pub same-fields : (sources : List Source) → map (λ (s : Source). s.fields) (map f sources) ≡ map (λ (s : Source). s.fields) sources
  same-fields [] = refl
  same-fields (s ∷ sources) = λ i. fields s i ∷ same-fields sources i

  pub same-files : (sources : List Source) → sum_by (λ (s : Source). s.files) (map f sources) ≡ sum_by (λ (s : Source). s.files) sources
  same-files [] = refl
  same-files (s ∷ sources) =
      sum_by-cons (λ (s : Source). s.files) (f s) (map f sources)
      ∙ (λ i. files s i + same-files sources i)
      ∙ sym (sum_by-cons (λ (s : Source). s.files) s sources)

  pub same-side-fields : (sources : List Source) → map (λ (s : Source). s.fields) (but_last (map f sources)) ≡ map (λ (s : Source). s.fields) (but_last sources)
  same-side-fields sources = ap (map (λ (s : Source). s.fields)) (but_last-map f sources) ∙ same-fields (but_last sources)

  pub same-side-files : (sources : List Source) → sum_by (λ (s : Source). s.files) (but_last (map f sources)) ≡ sum_by (λ (s : Source). s.files) (but_last sources)
  same-side-files sources = ap (sum_by (λ (s : Source). s.files)) (but_last-map f sources) ∙ same-files (but_last sources)

-- ---- sources with notations

module _ (named : List Named) where
  pub sources-noted : (xs : List SourceFiles) → map source_of_files (map (noted_files named) xs) ≡ map (noted_source named) (map source_of_files xs)
  sources-noted [] = refl
  sources-noted (x ∷ xs) = ap (λ ss. noted_source named (source_of_files x) ∷ ss) (sources-noted xs)

  -- they can run as before
  pub runnable-noted : (xs : List SourceFiles) (front : NumberedSteps) (stages : List Stage) (inputs : ℕ) →
      IsRunnable xs front stages inputs → IsRunnable (map (noted_files named) xs) front stages inputs
  runnable-noted xs front stages inputs r =
      let ss = map source_of_files xs in
      let note = noted_source named in
      let sources = sources-noted xs in
      let wanted : sum_by (λ (s : Source). s.files) (map source_of_files (map (noted_files named) xs)) ≡ sum_by (λ (s : Source). s.files) ss =
      ap (sum_by (λ (s : Source). s.files)) sources ∙ same-files note (λ s. refl) (λ s. refl) ss in
      let main : last_or [] (map (λ (s : Source). s.fields) (map source_of_files (map (noted_files named) xs))) ≡ last_or [] (map (λ (s : Source). s.fields) ss) =
      ap (λ ss. last_or [] (map (λ (s : Source). s.fields) ss)) sources ∙ ap (last_or []) (same-fields note (λ s. refl) (λ s. refl) ss) in
      let sides : map (λ (s : Source). s.fields) (but_last (map source_of_files (map (noted_files named) xs))) ≡ map (λ (s : Source). s.fields) (but_last ss) =
      ap (λ ss. map (λ (s : Source). s.fields) (but_last ss)) sources ∙ same-side-fields note (λ s. refl) (λ s. refl) ss in
      record {
        some_source = omega (arith, r.some_source, length-map xs (noted_files named));
        inputs_wanted = r.inputs_wanted ∙ sym wanted;
        few_files = omega (arith, r.few_files, wanted);
        from_first = r.from_first;
        on_main = r.on_main ∙ sym main;
        fits = (r.fits.0, subst (λ (t : List Fields × Fields). Fit t.0 (fields_after_all t.1 front.steps) stages r.fits.0) (λ i. (sym sides i, sym main i)) r.fits.1);
      }
