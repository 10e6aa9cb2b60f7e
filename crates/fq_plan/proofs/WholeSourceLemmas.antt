-- What a plan is and means, whichever columns its sources keep.
use Rattle.std.proofs.Common.{◌≡◌, ℕ, ◌+◌, List, [], ◌∷◌, map, take, drop, Some, None, Result, Err, refl, ap, ◌∙◌}
use Rattle.fq_column.specs.Frame.{Fields, Frame, names_of}
use Rattle.fq_column.specs.Refusal.{first_refusal}
use Rattle.fq_column.specs.Schema.{schema_checks}
use Rattle.fq_column.specs.Stream.{Stream, rename_fault}
use Rattle.fq_csv.specs.declared.faults.ScanFault.{ScanFault}
use Rattle.fq_csv.specs.Sources.{Source, but_last, last_or}
use Rattle.fq_language.specs.declared.faults.CheckFault.{CheckFault}
use Rattle.fq_language.specs.Judged.{judged, judged_steps, source_refusal}
use Rattle.fq_language.specs.Plan.{PlanData, files_wanted, main_fields, side_fields, side_files}
use Rattle.fq_plan.specs.Meaning.{meaning, meaning_of_sources, outcome}
use Rattle.fq_plan.specs.Stages.{whole_plan, whole_source}
use Rattle.fq_language.proofs.RefusalLemmas.{or_later}
use Rattle.fq_csv.proofs.LastLemmas.{but_last-map}
use Rattle.fq_run.proofs.SameSourceLemmas.{same-fields, same-files, same-side-fields, same-side-files}
use Rattle.fq_run.specs.Sources.{concat_streams, first_fault, frames_of, scan_fault, source_streams}
use Rattle.fq_run.specs.declared.faults.Fault.{Fault}

-- ---- sources

pub fields-whole : (sources : List Source) → map (λ (s : Source). s.fields) (map whole_source sources) ≡ map (λ (s : Source). s.fields) sources
fields-whole = same-fields whole_source (λ s. refl) (λ s. refl)

-- sources with the same columns are refused alike
module _ (f : Source → Source) (fields : (s : Source) → (f s).fields ≡ s.fields) where
  pub refusal-same : (n : ℕ) (sources : List Source) → source_refusal n (map f sources) ≡ source_refusal n sources
  refusal-same n [] = refl
  refusal-same n (s ∷ sources) = λ i. or_later n (first_refusal (schema_checks (names_of (fields s i)))) (refusal-same (n + 1) sources i)

pub refusal-whole : (n : ℕ) (sources : List Source) → source_refusal n (map whole_source sources) ≡ source_refusal n sources
refusal-whole = refusal-same whole_source (λ s. refl)

module _ {F : Type 0} where
  streams-whole : (sources : List Source) (us : List (Stream F)) → source_streams (map whole_source sources) us ≡ source_streams sources us
  streams-whole [] us = refl
  streams-whole (s ∷ sources) us = ap (λ vs. concat_streams (take s.files us) ∷ vs) (streams-whole sources (drop s.files us))

  frames-whole : (sources : List Source) (us : List (Stream F)) → frames_of (map whole_source sources) us ≡ frames_of sources us
  frames-whole [] us = refl
  frames-whole (s ∷ sources) [] = refl
  frames-whole (s ∷ sources) (u ∷ us) = ap (λ fs. (let f : Frame = record { fields = s.fields; rows = u.rows } in f) ∷ fs) (frames-whole sources us)

-- ---- plans

module _ (p : PlanData) where
  pub wanted-whole : files_wanted (whole_plan p) ≡ files_wanted p
  wanted-whole = same-files whole_source (λ s. refl) (λ s. refl) p.sources

  side_files-whole : side_files (whole_plan p) ≡ side_files p
  side_files-whole = same-side-files whole_source (λ s. refl) (λ s. refl) p.sources

  pub side_fields-whole : side_fields (whole_plan p) ≡ side_fields p
  side_fields-whole = same-side-fields whole_source (λ s. refl) (λ s. refl) p.sources

  main_fields-whole : main_fields (whole_plan p) ≡ main_fields p
  main_fields-whole = ap (last_or []) (fields-whole p.sources)

  pub judged-whole : judged (whole_plan p) ≡ judged p
  judged-whole = λ i. elim (refusal-whole 0 p.sources i) as (λ _. Result (List Fields) CheckFault)
      [ Some refusal ↦ Err refusal | None ↦ judged_steps (side_fields-whole i) 0 (main_fields-whole i) p.steps ]

  sources-whole : (sides : List (Stream Fault)) (main : Stream Fault) → meaning_of_sources (whole_plan p) sides main ≡ meaning_of_sources p sides main
  sources-whole sides main =
      let frames : frames_of (but_last (map whole_source p.sources)) sides ≡ frames_of (but_last p.sources) sides =
      ap (λ ss. frames_of ss sides) (but_last-map whole_source p.sources) ∙ frames-whole (but_last p.sources) sides in
      λ i. elim (first_fault sides) as (λ _. Result Frame Fault) [ Some f ↦ Err f | None ↦ outcome (frames i) 0 (main_fields-whole i) p.steps main ]

  pub meaning-whole : (us : List (Stream ScanFault)) → meaning (whole_plan p) us ≡ meaning p us
  meaning-whole us =
      let vs : List (Stream Fault) = map (rename_fault scan_fault) us in
      let sides : source_streams (but_last (map whole_source p.sources)) vs ≡ source_streams (but_last p.sources) vs =
      ap (λ ss. source_streams ss vs) (but_last-map whole_source p.sources) ∙ streams-whole (but_last p.sources) vs in
      (λ i. meaning_of_sources (whole_plan p) (sides i) (concat_streams (drop (side_files-whole i) vs)))
      ∙ sources-whole (source_streams (but_last p.sources) vs) (concat_streams (drop (side_files p) vs))
