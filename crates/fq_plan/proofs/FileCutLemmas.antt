-- How rows are cut into files is not part of a plan's meaning.
use Rattle.std.proofs.Common.{◌≡◌, ◌+◌, ◌<◌, List, [], ◌∷◌, ◌++◌, map, take, drop, length, sum_by, Some, None, Result, Err, refl, ap, sym, ◌∙◌, arith}
use Rattle.std.proofs.Math.Seq.{drop-drop}
use Rattle.std.proofs.lemmas.List.{take-map, drop-map, take_all, length-drop, length-map, map-append}
use Rattle.std.proofs.lemmas.List.Sums.{sum_by-cons}
use Rattle.fq_column.specs.Frame.{Fields, Frame, Row}
use Rattle.fq_column.specs.Lists.{zip_with}
use Rattle.fq_column.specs.Stream.{Stream, done, rename_fault}
use Rattle.fq_plan.specs.Cuts.{joined, source_rows, GiveTheSameRows}
use Rattle.fq_plan.specs.Meaning.{meaning, outcome}
use Rattle.fq_language.specs.Plan.{PlanStep, PlanData, files_wanted, side_files, main_fields}
use Rattle.fq_csv.specs.Sources.{Source, but_last, last_or}
use Rattle.fq_run.specs.Sources.{concat_streams, first_fault, frames_of, scan_fault, source_streams}
use Rattle.fq_run.specs.declared.faults.Fault.{Fault}
use Rattle.fq_csv.proofs.LastLemmas.{but_last-snoc, last_or-snoc}
use Rattle.fq_run.proofs.SourceOfFileLemmas.{HasMain, has_main, wanted-main}

-- a sum of files over the first source and the rest
sum-first : (s : Source) (sources : List Source) → sum_by (λ (t : Source). t.files) (s ∷ sources) ≡ s.files + sum_by (λ (t : Source). t.files) sources
sum-first s sources = sum_by-cons (λ (t : Source). t.files) s sources

renamed-done : {E F : Type 0} (name : E → F) (files : List (List Row)) → map (rename_fault name) (map done files) ≡ map done files
renamed-done name [] = refl
renamed-done name (rows ∷ files) = ap (λ us. done rows ∷ us) (renamed-done name files)

concat-done : {F : Type 0} (files : List (List Row)) → concat_streams {F = F} (map done files) ≡ done (joined files)
concat-done [] = refl
concat-done (rows ∷ files) = ap (λ u. record { rows = rows ++ u.rows; fault = u.fault }) (concat-done files)

streams-done : {F : Type 0} (sources : List Source) (files : List (List Row)) → source_streams {F = F} sources (map done files) ≡ map done (source_rows sources files)
streams-done [] files = refl
streams-done (s ∷ sources) files =
    ap (λ us. concat_streams us ∷ source_streams sources (drop s.files (map done files))) (take-map done s.files files)
    ∙ ap (λ u. u ∷ source_streams sources (drop s.files (map done files))) (concat-done (take s.files files))
    ∙ ap (λ us. done (joined (take s.files files)) ∷ source_streams sources us) (drop-map done s.files files)
    ∙ ap (λ us. done (joined (take s.files files)) ∷ us) (streams-done sources (drop s.files files))

-- the rows of the last source are those of the files that are left
rows-last : (sources : List Source) (main : Source) (files : List (List Row)) →
    source_rows (sources ++ main ∷ []) files ≡ source_rows sources files ++ joined (take main.files (drop (sum_by (λ (s : Source). s.files) sources) files)) ∷ []
rows-last [] main files = refl
rows-last (s ∷ sources) main files =
    ap (λ rs. joined (take s.files files) ∷ rs) (
    rows-last sources main (drop s.files files)
    ∙ ap (λ rest. source_rows sources (drop s.files files) ++ joined (take main.files rest) ∷ [])
    (drop-drop (sum_by (λ (t : Source). t.files) sources) s.files files ∙ ap (λ n. drop n files) (sym (sum-first s sources)))
    )

frame_of : Fields → Stream Fault → Frame
frame_of fields u = record { fields = fields; rows = u.rows }

frames-of-fields : (sources : List Source) (us : List (Stream Fault)) → frames_of sources us ≡ zip_with frame_of (map (λ (s : Source). s.fields) sources) us
unfolding frame_of
frames-of-fields [] us = refl
frames-of-fields (s ∷ sources) [] = refl
frames-of-fields (s ∷ sources) (u ∷ us) = ap (λ fs. record { fields = s.fields; rows = u.rows } ∷ fs) (frames-of-fields sources us)

-- what steps mean over the rows of each source
by_rows : List PlanStep → List Fields → List (List Row) → Result Frame Fault
by_rows steps fields rows =
    let sides : List (Stream Fault) = map done (but_last rows) in
    elim (first_fault sides) [ Some f ↦ Err f | None ↦ outcome (zip_with frame_of (but_last fields) sides) 0 (last_or [] fields) steps (done (last_or [] rows)) ]

meaning-by-rows : (p : PlanData) (main : Source) → HasMain p.sources main → (files : List (List Row)) → length files ≡ files_wanted p →
    meaning p (map done files) ≡ by_rows p.steps (map (λ (s : Source). s.fields) p.sources) (source_rows p.sources files)
unfolding by_rows
meaning-by-rows p main h files count =
    let sides : List Source = but_last p.sources in
    let rows : List (List Row) = source_rows p.sources files in
    let last : List Row = joined (drop (side_files p) files) in
    let left : length (drop (side_files p) files) ≡ main.files = omega (arith, length-drop (side_files p) files, count, wanted-main p.sources main h, h.files) in
    let parts : rows ≡ source_rows sides files ++ last ∷ [] =
    ap (λ ss. source_rows ss files) h.all ∙ rows-last sides main files
    ∙ ap (λ rs. source_rows sides files ++ joined rs ∷ []) (take_all main.files (drop (side_files p) files) (omega (arith, left))) in
    let before : but_last rows ≡ source_rows sides files = ap but_last parts ∙ but_last-snoc (source_rows sides files) last in
    let after : last_or [] rows ≡ last = ap (last_or []) parts ∙ last_or-snoc [] (source_rows sides files) last in
    let fields : but_last (map (λ (s : Source). s.fields) p.sources) ≡ map (λ (s : Source). s.fields) sides =
    ap (λ ss. but_last (map (λ (s : Source). s.fields) ss)) h.all
    ∙ ap but_last (map-append (λ (s : Source). s.fields) sides (main ∷ []))
    ∙ but_last-snoc (map (λ (s : Source). s.fields) sides) main.fields in
    let over : List (Stream Fault) → List Frame → Stream Fault → Result Frame Fault = λ us fs u. elim (first_fault us) [ Some f ↦ Err f | None ↦ outcome fs 0 (main_fields p) p.steps u ] in
    let plain : map (rename_fault scan_fault) (map done files) ≡ map done files = renamed-done scan_fault files in
    let of_joins : source_streams sides (map (rename_fault scan_fault) (map done files)) ≡ map done (but_last rows) =
    ap (source_streams sides) plain ∙ streams-done sides files ∙ ap (map done) (sym before) in
    let of_main : concat_streams (drop (side_files p) (map (rename_fault scan_fault) (map done files))) ≡ done (last_or [] rows) =
    ap (λ us. concat_streams (drop (side_files p) us)) plain ∙ ap concat_streams (drop-map done (side_files p) files)
    ∙ concat-done (drop (side_files p) files) ∙ ap done (sym after) in
    (λ i. over (of_joins i) (frames_of sides (of_joins i)) (of_main i))
    ∙ ap (λ fs. over (map done (but_last rows)) fs (done (last_or [] rows)))
    (frames-of-fields sides (map done (but_last rows)) ∙ ap (λ fs. zip_with frame_of fs (map done (but_last rows))) (sym fields))

pub same-rows : (p q : PlanData) (files other : List (List Row)) → 0 < length p.sources → GiveTheSameRows p q files other →
    meaning p (map done files) ≡ meaning q (map done other)
same-rows p q files other some h =
    let fields : Source → Fields = λ s. s.fields in
    let count : length p.sources ≡ length q.sources = sym (length-map p.sources fields) ∙ ap length h.columns ∙ length-map q.sources fields in
    let first = has_main p.sources some in
    let second = has_main q.sources (omega (arith, some, count)) in
    meaning-by-rows p first.0 first.1 files h.count
    ∙ (λ i. by_rows (h.steps i) (h.columns i) (h.rows i))
    ∙ sym (meaning-by-rows q second.0 second.1 other h.other_count)
