-- A run of the engine comes to the plan's outcome.
use Rattle.std.proofs.Common.{◌≡◌, ℕ, suc, ◌+◌, ◌<◌, List, [], ◌∷◌, ◌++◌, map, length, drop, sum_by, Some, None, Err, IsOk, refl, ap, sym, ◌∙◌, arith, length-drop}
use Rattle.std.specs.List.{slice_get}
use Rattle.std.proofs.lemmas.List.{length-map, take_all}
use Rattle.std.proofs.lemmas.List.Sums.{sum_by-cons}
use Rattle.fq_column.specs.Stream.{Stream, rename_fault}
use Rattle.fq_csv.specs.Taking.{RecordStream}
use Rattle.fq_csv.specs.declared.cells.layouts.Layout.{Layout}
use Rattle.fq_csv.specs.declared.faults.ScanFault.{ScanFault}
use Rattle.fq_expr.specs.Front.{NumberedSteps}
use Rattle.fq_lanes.specs.Numbering.{numbered, numbers}
use Rattle.fq_run.specs.Feeding.{Feeding}
use Rattle.fq_run.specs.Outcome.{outcome, outcome_of_stages}
use Rattle.fq_run.specs.Physical.{Physical, file_layouts, files_wanted, front_fields, side_files, outcome_of_run}
use Rattle.fq_run.specs.EngineRun.{Gives, RanOver, items_of_files, leading_steps, main_files, no_rows, nothing_taken, rows_of_files}
use Rattle.fq_run.specs.Run.{trace_of}
use Rattle.fq_csv.specs.Sources.{Source, but_last}
use Rattle.fq_run.specs.Sources.{concat_streams, first_fault, frames_of, scan_fault, source_streams}
use Rattle.fq_run.specs.Tail.{Taken, items_from, tagged, taken_streams, worked_files}
use Rattle.fq_run.specs.declared.faults.Fault.{Fault}
use Rattle.fq_run.specs.declared.file_feeds.FileItem.{FileItem}
use Rattle.fq_run.specs.declared.gathering.SideSource.{SideSource}
use Rattle.fq_run.proofs.EndLemmas.{files-done}
use Rattle.fq_run.proofs.GatheringLemmas.{Answer, all_joined-items, all_taken, all_taken-joined, items-frames, items-streams, with_items, with_items-append, head_of}
use Rattle.fq_run.proofs.SourceOfFileLemmas.{HasMain, files-fit, has_main, length-layouts, main-fields, wanted-main}
use Rattle.fq_run.proofs.EngineLemmas.{answer-streams, answers_in, answers_to, each-known, files-numbers, fit-files, length-rows, log-answers, log-numbers, took-all, worked-joined, worked_streams}
use Rattle.fq_csv.proofs.LastLemmas.{same-ends}
use Rattle.fq_run.proofs.TailLemmas.{flat, items_from-start, main-joined, sides-joined}

length-worked : (p : Physical) (k : ℕ) (us : List (Stream Fault)) → length (worked_files p k us) ≡ length us
length-worked p k [] = refl
length-worked p k (u ∷ us) = ap suc (length-worked p (k + 1) us)

files-sum : (ss : List Source) → sum_by (λ (g : SideSource). g.files) (map (λ (s : Source). no_rows s.files s.fields) ss) ≡ sum_by (λ (s : Source). s.files) ss
files-sum [] = refl
files-sum (s ∷ ss) =
    sum_by-cons (λ (g : SideSource). g.files) (no_rows s.files s.fields) (map (λ (s : Source). no_rows s.files s.fields) ss)
    ∙ ap (λ n. s.files + n) (files-sum ss) ∙ sym (sum_by-cons (λ (s : Source). s.files) s ss)

module _ (p : Physical) (b : ℕ) (ws : List RecordStream) (main : Source) (has : HasMain p.sources main) (some : 0 < b) (all : length ws ≡ files_wanted p) where
  -- the files' streams
  abbrev pub us : List (Stream ScanFault)
  us = rows_of_files 0 (file_layouts p) ws

  abbrev pub items : List (List FileItem)
  items = items_of_files b 0 (file_layouts p) ws

  abbrev pub streams : List (List (Stream Fault))
  streams = worked_streams (leading_steps p) (side_files p) 0 (items_of_files b 0 (file_layouts p) ws)

  abbrev pub taken : List Taken
  taken = tagged 0 (worked_streams (leading_steps p) (side_files p) 0 (items_of_files b 0 (file_layouts p) ws))

  abbrev pub starts : List SideSource
  starts = map (λ (s : Source). no_rows s.files s.fields) (but_last p.sources)

  columns-count : length (file_layouts p) ≡ length ws
  columns-count = length-layouts p.sources ∙ sym all

  file-count : length (map (rename_fault scan_fault) us) ≡ files_wanted p
  file-count = length-map us (rename_fault scan_fault) ∙ length-rows 0 (file_layouts p) ws columns-count ∙ all

  from-first : (i : ℕ) (layout : Layout) → slice_get (file_layouts p) i ≡ Some layout → slice_get (file_layouts p) (0 + i) ≡ Some layout
  from-first i layout e = ap (slice_get (file_layouts p)) (let q : 0 + i ≡ i = omega arith in q) ∙ e

  all-gathered : all_taken (answers_to (leading_steps p) (side_files p) (numbered 0 items)) (nothing_taken p) ≡ with_items 0 taken (nothing_taken p)
  all-gathered =
      let ts : List Answer = answers_to (leading_steps p) (side_files p) (numbered 0 items) in
      all_taken-joined ts (nothing_taken p) (fit-files (leading_steps p) (side_files p) (map head_of (nothing_taken p)) b 0 (file_layouts p) ws (files-fit p main has 0 (file_layouts p) from-first))
      ∙ all_joined-items ts (nothing_taken p)
      ∙ ap (λ xs. with_items 0 xs (nothing_taken p)) (answer-streams (leading_steps p) (side_files p) 0 items)

  joins-to : map concat_streams streams ≡ worked_files p 0 (map (rename_fault scan_fault) us)
  joins-to = worked-joined p b 0 (file_layouts p) ws some (main-fields p main has 0 (file_layouts p) from-first)

  -- there are as many lists of items as files
  stream-count : length streams ≡ files_wanted p
  stream-count = sym (length-map streams concat_streams) ∙ ap length joins-to ∙ length-worked p 0 (map (rename_fault scan_fault) us) ∙ file-count

  main-items : items_from (0 + sum_by (λ (g : SideSource). g.files) starts) (main_files p) taken ≡ items_from (side_files p) (files_wanted p) taken
  main-items =
      let wanted = wanted-main p.sources main has in
      ap (λ n. items_from n (main_files p) taken) (let q : 0 + sum_by (λ (g : SideSource). g.files) starts ≡ side_files p = omega (arith, files-sum (but_last p.sources)) in q)
      ∙ items_from-start (side_files p) (main_files p) streams
      ∙ ap flat
      (take_all (main_files p) (drop (side_files p) streams) (omega (arith, length-drop (side_files p) streams, wanted, stream-count))
      ∙ sym (take_all (files_wanted p) (drop (side_files p) streams) (omega (arith, length-drop (side_files p) streams, wanted, stream-count))))
      ∙ sym (items_from-start (side_files p) (files_wanted p) streams)

  -- the streams of the sources give the outcome
  gathered-outcome : (own : List (Stream Fault)) → own ≡ items_from (side_files p) (files_wanted p) taken →
      outcome_of_stages p.stages (with_items 0 taken starts) (record { files = main_files p; batch = record { fields = front_fields p; rows = (concat_streams own).rows }; fault = (concat_streams own).fault }) ≡ outcome_of_run p us
  gathered-outcome own e =
      let renamed : List (Stream Fault) = map (rename_fault scan_fault) us in
      ap (λ sides. elim (first_fault sides) [
        | Some f ↦ Err f
        | None ↦ outcome (map (λ (g : SideSource). g.batch) (with_items 0 taken starts)) (front_fields p) p.stages (concat_streams own)
      ]) (items-streams 0 taken (but_last p.sources))
      ∙ ap (λ frames. elim (first_fault (taken_streams 0 (but_last p.sources) taken)) [
        | Some f ↦ Err f
        | None ↦ outcome frames (front_fields p) p.stages (concat_streams own)
      ]) (items-frames 0 taken (but_last p.sources))
      ∙ ap (λ sides. elim (first_fault sides) [
        | Some f ↦ Err f
        | None ↦ outcome (frames_of (but_last p.sources) sides) (front_fields p) p.stages (concat_streams own)
      ]) (sides-joined p streams renamed joins-to)
      ∙ ap (λ u. elim (first_fault (source_streams (but_last p.sources) renamed)) [
        | Some f ↦ Err f
        | None ↦ outcome (frames_of (but_last p.sources) (source_streams (but_last p.sources) renamed)) (front_fields p) p.stages u
      ]) (ap concat_streams e ∙ main-joined p streams renamed joins-to (omega (arith, file-count)))

  outcome-of : (sources sides : List SideSource) (last : SideSource) → sources ≡ with_items 0 taken (nothing_taken p) → sources ≡ sides ++ last ∷ [] → outcome_of_stages p.stages sides last ≡ outcome_of_run p us
  outcome-of sources sides last e f =
      let first : ℕ = 0 + sum_by (λ (g : SideSource). g.files) starts in
      let taken_last : List (Stream Fault) = items_from first (main_files p) taken in
      let own : SideSource = record { files = main_files p; batch = record { fields = front_fields p; rows = (concat_streams taken_last).rows }; fault = (concat_streams taken_last).fault } in
      let both = same-ends sides (with_items 0 taken starts) last own (sym f ∙ e ∙ with_items-append 0 taken starts (no_rows (main_files p) (front_fields p) ∷ [])) in
      ap (λ gs. outcome_of_stages p.stages gs last) both.0 ∙ ap (outcome_of_stages p.stages (with_items 0 taken starts)) both.1 ∙ gathered-outcome taken_last main-items

  trace-of : IsOk (outcome_of_run p us) → numbers (numbered 0 items) ≡ trace_of b us
  trace-of h = files-numbers b 0 (file_layouts p) ws (files-done p us h)

pub ran-gives : (p : Physical) (b : ℕ) (ws : List RecordStream) (front : NumberedSteps) (sides : ℕ) (feeds : List Feeding) (first last : List SideSource) (trace : List (ℕ × ℕ)) →
    RanOver p b ws front sides feeds first last trace → Gives p b (rows_of_files 0 (file_layouts p) ws) last trace
ran-gives p b ws front sides feeds first last trace ran =
    let main = has_main p.sources ran.some_source in
    let given : List (List FileItem) = ran.finished.0 in
    let log = ran.finished.2.0 in
    let items : List (List FileItem) = items_of_files b 0 (file_layouts p) ws in
    let known : given ≡ items = each-known feeds given items ran.finished.1 ran.told ran.of_text in
    let answers : answers_in log ≡ answers_to (leading_steps p) (side_files p) (numbered 0 items) =
    log-answers front sides (numbered 0 given) log ran.finished.2.1
    ∙ ap (λ f. answers_to f sides (numbered 0 given)) ran.steps
    ∙ ap (λ n. answers_to (leading_steps p) n (numbered 0 given)) ran.side_count
    ∙ ap (λ xs. answers_to (leading_steps p) (side_files p) (numbered 0 xs)) known in
    let sources : last ≡ with_items 0 (taken p b ws main.0 main.1 ran.some_rows ran.all_files) (nothing_taken p) =
    took-all log first last ran.finished.2.2
    ∙ ap (λ ts. all_taken ts first) answers
    ∙ ap (all_taken (answers_to (leading_steps p) (side_files p) (numbered 0 items))) ran.nothing
    ∙ all-gathered p b ws main.0 main.1 ran.some_rows ran.all_files in
    record {
      outcome = λ js m e. outcome-of p b ws main.0 main.1 ran.some_rows ran.all_files last js m sources e;
      trace = λ h. ran.finished.2.3 ∙ log-numbers front sides (numbered 0 given) log ran.finished.2.1 ∙ ap (λ xs. numbers (numbered 0 xs)) known
          ∙ trace-of p b ws main.0 main.1 ran.some_rows ran.all_files h;
    }
