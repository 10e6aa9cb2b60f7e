-- The sources of a plan, of which the last keeps the columns that the plan needs.
use Rattle.std.proofs.Common.{◌≡◌, ◌-◌, Bool, List, [], ◌∷◌, ◌++◌, map, drop, length, refl, ap, sym, ◌∙◌, arith, length-append}
use Rattle.std.proofs.lemmas.List.{map-append}
use Rattle.std.proofs.Math.Seq.{drop-append_seam}
use Rattle.fq_csv.specs.Sources.{Source, source_of_files}
use Rattle.fq_csv.specs.declared.sources.SourceFiles.{SourceFiles}
use Rattle.fq_language.specs.declared.plans.Source.{Source as Declared}
use Rattle.fq_language.specs.View.{source_data}
use Rattle.fq_plan.specs.Stages.{keeping, narrowed, whole_source}
use Rattle.fq_csv.proofs.LastLemmas.{but_last-snoc}

pub narrowed-snoc : (marks : List Bool) (sources : List Source) (s : Source) → narrowed marks (sources ++ s ∷ []) ≡ sources ++ keeping marks s ∷ []
narrowed-snoc marks sources s =
    let all = sources ++ s ∷ [] in
    let count : length all - 1 ≡ length sources = omega (arith, length-append sources (s ∷ [])) in
    (λ i. but_last-snoc sources s i ++ map (keeping marks) (drop (count i) all))
    ∙ ap (λ ss. sources ++ map (keeping marks) ss) (drop-append_seam sources (s ∷ []))

-- each column of a plan's sources is kept
pub whole-data : (sources : List Declared) → map whole_source (map source_data sources) ≡ map source_data sources
whole-data [] = refl
whole-data (s ∷ sources) = ap (λ ss. source_data s ∷ ss) (whole-data sources)

module _ (marks : List Bool) (sides : List SourceFiles) (main other : SourceFiles) (same : other ≡ record main { layout = record main.layout { projection = marks } }) where
  last-kept : source_of_files other ≡ keeping marks (source_of_files main)
  last-kept = ap source_of_files same

  -- with each column kept, they are the same
  pub whole-kept : map whole_source (map source_of_files (sides ++ other ∷ [])) ≡ map whole_source (map source_of_files (sides ++ main ∷ []))
  whole-kept =
      ap (map whole_source) (map-append source_of_files sides (other ∷ []))
      ∙ map-append whole_source (map source_of_files sides) (source_of_files other ∷ [])
      ∙ ap (λ (s : Source). map whole_source (map source_of_files sides) ++ whole_source s ∷ []) last-kept
      ∙ sym (map-append whole_source (map source_of_files sides) (source_of_files main ∷ []))
      ∙ ap (map whole_source) (sym (map-append source_of_files sides (main ∷ [])))

  pub narrowed-kept : (sources : List Source) → map source_of_files (sides ++ main ∷ []) ≡ sources → map source_of_files (sides ++ other ∷ []) ≡ narrowed marks sources
  narrowed-kept sources parts =
      map-append source_of_files sides (other ∷ [])
      ∙ ap (λ (s : Source). map source_of_files sides ++ s ∷ []) last-kept
      ∙ sym (narrowed-snoc marks (map source_of_files sides) (source_of_files main))
      ∙ ap (narrowed marks) (sym (map-append source_of_files sides (main ∷ [])) ∙ parts)
