-- What a run of a physical plan starts from: its engine runs over the items of the plan's files, from nothing taken.
use Rattle.std.proofs.Common.{◌≡◌, ℕ, zero, suc, ◌+◌, ◌-◌, ◌<◌, ◌≤◌, List, [], ◌∷◌, ◌++◌, map, length, flat_map, replicate, sum_by, Option, Some, refl, ap, sym, ◌∙◌, arith}
use Rattle.std.specs.Prelude.{All}
use Rattle.std.proofs.lemmas.List.{length-map, map-append}
use Rattle.std.proofs.lemmas.List.Sums.{sum_by-cons, sum_by_push}
use Rattle.fq_expr.specs.Front.{NumberedSteps}
use Rattle.fq_expr.specs.Steps.{fields_after_all}
use Rattle.fq_lanes.specs.Engine.{Finishes}
use Rattle.fq_csv.specs.declared.cells.layouts.Layout.{Layout}
use Rattle.fq_run.specs.Feeding.{Feeding, MayCome}
use Rattle.fq_run.specs.Kept.{Takes}
use Rattle.fq_run.specs.Physical.{Physical, file_layouts, files_wanted, side_fields, side_files}
use Rattle.fq_csv.specs.Sources.{Source, but_last, last_or, layout_of}
use Rattle.fq_run.specs.EngineRun.{RanOver, leading_steps, main_files, no_rows, nothing_taken, opened, records_of_files}
use Rattle.fq_run.specs.Run.{Tell}
use Rattle.fq_csv.specs.Sources.{source_of_files}
use Rattle.fq_run.specs.Stages.{physical_of, IsRunnable}
use Rattle.fq_run.specs.Working.{work_on}
use Rattle.fq_run.specs.declared.gathering.SideSource.{SideSource}
use Rattle.fq_csv.specs.declared.sources.SourceFiles.{SourceFiles}
use Rattle.fq_run.proofs.TextItemLemmas.{files-text}
use Rattle.fq_run.specs.declared.stages.Stage.{Stage}
use Rattle.fq_run.proofs.SourceOfFileLemmas.{length-layouts}
use Rattle.fq_run.proofs.EngineLemmas.{opened-told}
use Rattle.fq_csv.proofs.LastLemmas.{but_last-snoc, last_or-snoc}

-- ---- feeds that were opened

pub opened-open : {R : Type 0} (remaining : R → Option (List ℕ)) (b k : ℕ) (fss : List Layout) (rs : List R) → All (λ (f : Feeding). f.most ≤ 2147483648) (opened remaining b k fss rs)
opened-open remaining b k [] rs i d h = absurd (omega (arith, h))
opened-open remaining b k (layout ∷ fss) [] i d h = absurd (omega (arith, h))
opened-open remaining b k (layout ∷ fss) (r ∷ rs) zero d h = omega arith
opened-open remaining b k (layout ∷ fss) (r ∷ rs) (suc i) d h = opened-open remaining b (k + 1) fss rs i d (omega (arith, h))

pub length-opened : {R : Type 0} (remaining : R → Option (List ℕ)) (b k : ℕ) (fss : List Layout) (rs : List R) → length (opened remaining b k fss rs) ≤ length rs
length-opened remaining b k [] rs = omega arith
length-opened remaining b k (layout ∷ fss) [] = omega arith
length-opened remaining b k (layout ∷ fss) (r ∷ rs) = omega (arith, length-opened remaining b (k + 1) fss rs)

-- ---- as many streams as files

length-records : (k : ℕ) (fss : List Layout) (files : List (List ℕ)) → length fss ≡ length files → length (records_of_files k fss files) ≡ length files
length-records k [] [] e = refl
length-records k [] (x ∷ files) e = absurd (omega (arith, e))
length-records k (layout ∷ fss) [] e = absurd (omega (arith, e))
length-records k (layout ∷ fss) (x ∷ files) e = ap suc (length-records (k + 1) fss files (omega (arith, e)))

-- ---- the sources of a physical plan

layouts-of : (sources : List SourceFiles) →
    flat_map (λ (s : SourceFiles). replicate s.files s.layout) sources ≡ flat_map (λ (s : Source). replicate s.files (layout_of s)) (map source_of_files sources)
layouts-of [] = refl
layouts-of (s ∷ sources) = ap (λ fss. replicate s.files s.layout ++ fss) (layouts-of sources)

rows-of : (sources : List SourceFiles) →
    map (λ (s : SourceFiles). no_rows s.files s.layout.schema) sources ≡ map (λ (s : Source). no_rows s.files s.fields) (map source_of_files sources)
rows-of [] = refl
rows-of (s ∷ sources) = ap (λ gs. no_rows s.files s.layout.schema ∷ gs) (rows-of sources)

columns-of-rows : (sources : List SourceFiles) →
    map (λ (g : SideSource). g.batch.fields) (map (λ (s : SourceFiles). no_rows s.files s.layout.schema) sources) ≡ map (λ (s : Source). s.fields) (map source_of_files sources)
columns-of-rows [] = refl
columns-of-rows (s ∷ sources) = ap (λ fss. s.layout.schema ∷ fss) (columns-of-rows sources)

count-of-rows : (sources : List SourceFiles) →
    sum_by (λ (g : SideSource). g.files) (map (λ (s : SourceFiles). no_rows s.files s.layout.schema) sources) ≡ sum_by (λ (s : Source). s.files) (map source_of_files sources)
count-of-rows [] = refl
count-of-rows (s ∷ sources) =
    sum_by-cons (λ (g : SideSource). g.files) (no_rows s.files s.layout.schema) (map (λ (s : SourceFiles). no_rows s.files s.layout.schema) sources)
    ∙ ap (λ n. s.files + n) (count-of-rows sources) ∙ sym (sum_by-cons (λ (s : Source). s.files) (source_of_files s) (map source_of_files sources))

module _ (sources : List SourceFiles) (front : NumberedSteps) (stages : List Stage) (inputs : ℕ) (c : IsRunnable sources front stages inputs) where
  -- the plan, whose notations play no part here
  abbrev pub plan : Physical
  plan = physical_of sources front stages []

  pub leading-is : front ≡ leading_steps plan
  leading-is = λ i. record { steps = front.steps; fields = c.on_main i; first = c.from_first i }

  pub layouts-are : flat_map (λ (s : SourceFiles). replicate s.files s.layout) sources ≡ file_layouts plan
  layouts-are = layouts-of sources

  pub count-layouts : length (flat_map (λ (s : SourceFiles). replicate s.files s.layout) sources) ≡ files_wanted plan
  count-layouts = ap length layouts-are ∙ length-layouts plan.sources

  module _ (sides : List SourceFiles) (main : SourceFiles) (parts : sources ≡ sides ++ main ∷ []) where
    split : plan.sources ≡ map source_of_files sides ++ source_of_files main ∷ []
    split = ap (map source_of_files) parts ∙ map-append source_of_files sides (main ∷ [])

    sides-are : but_last plan.sources ≡ map source_of_files sides
    sides-are = ap but_last split ∙ but_last-snoc (map source_of_files sides) (source_of_files main)

    main-files : main_files plan ≡ main.files
    main-files =
        ap (λ ss. last_or 0 (map (λ (s : Source). s.files) ss)) split
        ∙ ap (last_or 0) (map-append (λ (s : Source). s.files) (map source_of_files sides) (source_of_files main ∷ []))
        ∙ last_or-snoc 0 (map (λ (s : Source). s.files) (map source_of_files sides)) main.files

    pub wanted-is : files_wanted plan ≡ side_files plan + main.files
    wanted-is =
        ap (sum_by (λ (s : Source). s.files)) split
        ∙ sum_by_push (λ (s : Source). s.files) (map source_of_files sides) (source_of_files main)
        ∙ ap (λ ss. sum_by (λ (s : Source). s.files) ss + main.files) (sym sides-are)

    pub side-count : inputs - main.files ≡ side_files plan
    side-count = omega (arith, c.inputs_wanted, wanted-is)

    pub nothing-is : map (λ (s : SourceFiles). no_rows s.files s.layout.schema) sides ++ no_rows main.files (fields_after_all front.fields front.steps) ∷ [] ≡ nothing_taken plan
    nothing-is =
        let rows : map (λ (s : SourceFiles). no_rows s.files s.layout.schema) sides ≡ map (λ (s : Source). no_rows s.files s.fields) (but_last plan.sources) =
        rows-of sides ∙ ap (map (λ (s : Source). no_rows s.files s.fields)) (sym sides-are) in
        λ i. rows i ++ no_rows (sym main-files i) (fields_after_all (c.on_main i) front.steps) ∷ []

    pub side-columns : map (λ (g : SideSource). g.batch.fields) (map (λ (s : SourceFiles). no_rows s.files s.layout.schema) sides) ≡ side_fields plan
    side-columns = columns-of-rows sides ∙ ap (map (λ (s : Source). s.fields)) (sym sides-are)

    pub side-file-count : side_files plan ≡ sum_by (λ (g : SideSource). g.files) (map (λ (s : SourceFiles). no_rows s.files s.layout.schema) sides)
    side-file-count = ap (sum_by (λ (s : Source). s.files)) sides-are ∙ sym (count-of-rows sides)

    -- the engine over what readers tell
    pub ran-over : {R : Type 0} (remaining : R → Option (List ℕ)) (b : ℕ) (readers : List R) (files : List (List ℕ)) (feeds : List Feeding) (first last : List SideSource) (trace : List (ℕ × ℕ)) →
        0 < b → length readers ≡ files_wanted plan → Tell remaining readers files →
        feeds ≡ opened remaining b 0 (flat_map (λ (s : SourceFiles). replicate s.files s.layout) sources) readers →
        first ≡ map (λ (s : SourceFiles). no_rows s.files s.layout.schema) sides ++ no_rows main.files (fields_after_all front.fields front.steps) ∷ [] →
        Finishes MayCome (λ file item out. out ≡ work_on front (inputs - main.files) file item) Takes feeds first trace last →
        RanOver plan b (records_of_files 0 (file_layouts plan) files) front (inputs - main.files) feeds first last trace
    ran-over remaining b readers files feeds first last trace some count tell feeds-are nothing finished =
        let many : length files ≡ files_wanted plan = sym (length-map files Some) ∙ ap length (sym tell) ∙ length-map readers remaining ∙ count in
        record {
          some_rows = some;
          some_source = omega (arith, c.some_source, length-map sources source_of_files);
          all_files = length-records 0 (file_layouts plan) files (length-layouts plan.sources ∙ sym many) ∙ many;
          steps = leading-is;
          side_count = side-count;
          told = ap (map (λ (f : Feeding). f.items)) (feeds-are ∙ ap (λ fss. opened remaining b 0 fss readers) layouts-are) ∙ opened-told remaining b 0 (file_layouts plan) readers files tell;
          of_text = files-text b 0 (file_layouts plan) files;
          nothing = nothing ∙ nothing-is;
          finished = finished;
        }
