use Rattle.std.proofs.Common.{◌≡◌, ◌+◌, ◌++◌, ◌∷◌, [], ℕ, List, map, sum_by, ap, sym, subst, ◌∙◌, arith}
use Rattle.std.proofs.lemmas.List.{map-append}
use Rattle.std.proofs.lemmas.List.Sums.{sum_by_push}
use Rattle.fq_csv.specs.Sources.{Source, but_last, source_of_files}
use Rattle.fq_csv.specs.declared.sources.SourceFiles.{SourceFiles}
use Rattle.fq_run.specs.Stages.{IsRunnable}
use Rattle.fq_csv.proofs.LastLemmas.{but_last-snoc}
use Rattle.fq_run.proofs.physical_plans.PhysicalPlan.new.Goals as goal

-- the files of sources, and of those before the last
abbrev files_of : List SourceFiles → ℕ
files_of sources = sum_by (λ (s : Source). s.files) (map source_of_files sources)

all-files : (sides : List SourceFiles) (main : SourceFiles) → files_of (sides ++ main ∷ []) ≡ files_of sides + main.files
all-files sides main =
    ap (sum_by (λ (s : Source). s.files)) (map-append source_of_files sides (main ∷ [])) ∙ sum_by_push (λ (s : Source). s.files) (map source_of_files sides) (source_of_files main)

files-before : (sides : List SourceFiles) (main : SourceFiles) → sum_by (λ (s : Source). s.files) (but_last (map source_of_files (sides ++ main ∷ []))) ≡ files_of sides
files-before sides main =
    ap (λ ss. sum_by (λ (s : Source). s.files) (but_last ss)) (map-append source_of_files sides (main ∷ []))
    ∙ ap (sum_by (λ (s : Source). s.files)) (but_last-snoc (map source_of_files sides) (source_of_files main))

pub file_count-side_files-requires : goal.file_count-side_files-requires
file_count-side_files-requires c = omega (arith, c.requires.runnable.few_files, all-files c.args.sides.items c.args.main, ap files_of c.as_slice.ensures.value)

pub overflow_add-inputs : goal.overflow_add-inputs
overflow_add-inputs c =
    omega (arith, c.requires.runnable.few_files, all-files c.args.sides.items c.args.main, ap files_of c.as_slice.ensures.value, c.file_count-side_files.ensures)

pub invariant_of-result : goal.invariant_of-result
invariant_of-result c =
    let count : c.file_count-side_files.result ≡ files_of c.args.sides.items = c.file_count-side_files.ensures ∙ ap files_of c.as_slice.ensures.value in
    let wanted : files_of (c.args.sides.items ++ c.args.main ∷ []) ≡ c.file_count-side_files.result + c.args.main.files = omega (arith, count, all-files c.args.sides.items c.args.main) in (
      subst (IsRunnable (c.args.sides.items ++ c.args.main ∷ []) c.args.front c.args.stages.items) wanted c.requires.runnable,
      count ∙ sym (files-before c.args.sides.items c.args.main),
      c.requires.columns,
    )
