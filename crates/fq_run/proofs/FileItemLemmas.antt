-- The items that a file's records come to, and the rows that the work on them joins to.
use Rattle.std.specs.Prelude.{Result, ◌==◌, ◌*◌, is_some, not}
use Rattle.std.specs.Int.{div_ceil}
use Rattle.std.specs.Result.{result_map_both}
use Rattle.std.proofs.Common.{◌≡◌, ℕ, suc, ◌+◌, ◌<◌, Bool, true, false, nat_lt, List, [], ◌∷◌, ◌++◌, map, length, flat_map, take, drop, Option, Some, None, option_map, Ok, Err, refl, ap, sym, ◌∙◌, arith, append-nil, cond, length-append}
use Rattle.std.proofs.lemmas.List.{length-map}
use Rattle.fq_column.specs.Frame.{Fields, Row, kinds_of}
use Rattle.fq_column.specs.Lists.{all_or_missing, numbers, pieces}
use Rattle.fq_column.specs.Schema.{same_fields}
use Rattle.fq_column.specs.SchemaLaws.{same_fields_decides}
use Rattle.fq_column.specs.Masked.{masked}
use Rattle.fq_column.specs.Stream.{Stream, done, faulted, rename_fault, then_stream}
use Rattle.fq_column.proofs.PieceLemmas.{flat_map-pieces}
use Rattle.fq_column.proofs.StreamLemmas.{then_stream-assoc}
use Rattle.fq_csv.specs.Field.{cell_under}
use Rattle.fq_csv.specs.File.{Record, cells_by, row_of, rows_after}
use Rattle.fq_csv.specs.HandedOut.{framed}
use Rattle.fq_csv.specs.Stage.{ended}
use Rattle.fq_csv.specs.Taking.{FieldRun, RecordStream, rows_of_records}
use Rattle.fq_csv.specs.declared.cells.layouts.Layout.{Layout}
use Rattle.fq_csv.specs.declared.faults.ScanFault.{ScanFault}
use Rattle.fq_csv.specs.declared.faults.ScanFault.TheVariants.{BadCell, TooLong, Width}
use Rattle.fq_csv.proofs.ScanLemmas.{rows-split}
use Rattle.fq_csv.proofs.FileStreamLemmas.{after-fault, after-rows}
use Rattle.fq_expr.specs.Expression.{Step}
use Rattle.fq_expr.specs.Front.{fault_at}
use Rattle.fq_expr.specs.Steps.{apply_steps, fields_after}
use Rattle.fq_expr.specs.declared.fronts.RowFault.{RowFault}
use Rattle.fq_column.specs.declared.pieces.Piece.{Piece}
use Rattle.fq_expr.proofs.StepLemmas.{apply_steps-then, rename_fault-then}
use Rattle.fq_run.specs.EngineRun.{leading_steps}
use Rattle.fq_run.specs.Feeding.{end_item, runs_from, scanned_items}
use Rattle.fq_run.specs.Physical.{Physical, after_leading, side_files, main_fields}
use Rattle.fq_csv.specs.Sources.{row_limit}
use Rattle.fq_run.specs.Sources.{concat_streams, row_fault, scan_fault}
use Rattle.fq_run.specs.Tail.{worked}
use Rattle.fq_run.specs.Working.{piece_of, piece_stream, piece_until, rows_of_run, stepped, untouched, work_on, worked_stream}
use Rattle.fq_run.specs.declared.faults.Fault.{Fault}
use Rattle.fq_run.specs.declared.faults.Fault.TheVariants.{Overflow}
use Rattle.fq_run.specs.declared.file_feeds.FileItem.{FileItem}
use Rattle.fq_run.specs.declared.file_feeds.FileItem.TheVariants.{Run, Ended}
use Rattle.fq_run.proofs.LeadingStepLemmas.{apply_steps-done, rename_fault-apply_steps, worked-joined}

-- ---- the work on one item

-- the end of a stream alone
abbrev pub end_of : Option Fault → Stream Fault
end_of end = record { rows = []; fault = end }

-- the rows of an item
abbrev pub item_rows : FileItem → Stream Fault
item_rows (Run run) = rename_fault scan_fault (rows_of_run run)
item_rows (Ended fault) = faulted (scan_fault fault)

faulted-steps : (n : ℕ) (fields : Fields) (steps : List Step) (f : Fault) → apply_steps Overflow n fields steps (faulted f) ≡ faulted f
faulted-steps n fields [] f = refl
faulted-steps n fields (s ∷ steps) f = faulted-steps (n + 1) (fields_after fields s) steps f

ended-steps : (n : ℕ) (fields : Fields) (steps : List Step) (end : Option Fault) → apply_steps Overflow n fields steps (end_of end) ≡ end_of end
ended-steps n fields steps None = apply_steps-done Overflow n fields steps
ended-steps n fields steps (Some f) = faulted-steps n fields steps f

then-none : (rows : List Row) (end : Option Fault) → then_stream (record { rows = rows; fault = end }) (end_of None) ≡ record { rows = rows; fault = end }
then-none rows None = ap (λ rs. let u : Stream Fault = done rs in u) (append-nil rows)
then-none rows (Some f) = refl

until-stream : (end : Option ScanFault) (p : Piece RowFault) → worked_stream (piece_until end p) ≡ then_stream (piece_stream p) (end_of (option_map scan_fault end))
until-stream None p = sym (then-none p.batch.rows (option_map row_fault p.fault))
until-stream (Some fault) p = refl

-- rows, and then their end
rows-and-end : (rows : List Row) (end : Option Fault) → then_stream (done rows) (end_of end) ≡ record { rows = rows; fault = end }
rows-and-end rows end = ap (λ rs. let u : Stream Fault = record { rows = rs; fault = end } in u) (append-nil rows)

module _ (p : Physical) (file : ℕ) where
  -- the work on a run gives its rows, after the leading steps if its file is of the main source
  run-worked : (run : FieldRun) → (nat_lt file (side_files p) ≡ false → run.layout.schema ≡ main_fields p) →
      worked_stream (work_on (leading_steps p) (side_files p) file (Run run)) ≡ worked p file (item_rows (Run run))
  run-worked run h = until-stream u.fault (piece_of (leading_steps p) (side_files p) file (framed run.layout.schema u.rows)) ∙ go (nat_lt file (side_files p)) h
    where
      u : Stream ScanFault
      u = rows_of_run run

      end : Option Fault
      end = option_map scan_fault u.fault

      given : Bool → Bool → Piece RowFault
      given join same = cond join (untouched (framed run.layout.schema u.rows)) (cond same (stepped (leading_steps p) (framed run.layout.schema u.rows)) (untouched (framed run.layout.schema u.rows)))

      steps : Stream Fault → Stream Fault
      steps v = apply_steps Overflow 0 (main_fields p) p.front v

      go : (join : Bool) → (join ≡ false → run.layout.schema ≡ main_fields p) →
          then_stream (piece_stream (given join (same_fields run.layout.schema (main_fields p)))) (end_of end) ≡ cond join (item_rows (Run run)) (after_leading p (item_rows (Run run)))
      go true h = rows-and-end u.rows end
      go false h =
          ap (λ b. then_stream (piece_stream (given false b)) (end_of end)) ((same_fields_decides run.layout.schema (main_fields p)).1 (h refl))
          ∙ ap (λ v. then_stream v (end_of end)) (rename_fault-apply_steps fault_at row_fault 0 (main_fields p) p.front (done u.rows))
          ∙ ap (then_stream (steps (done u.rows))) (sym (ended-steps 0 (main_fields p) p.front end))
          ∙ sym (apply_steps-then Overflow 0 (main_fields p) p.front (done u.rows) (end_of end))
          ∙ ap steps (rows-and-end u.rows end)

  ended-worked : (fault : ScanFault) → faulted (scan_fault fault) ≡ worked p file (faulted (scan_fault fault))
  ended-worked fault = go (nat_lt file (side_files p))
    where
      go : (join : Bool) → faulted (scan_fault fault) ≡ cond join (faulted (scan_fault fault)) (after_leading p (faulted (scan_fault fault)))
      go true = refl
      go false = sym (faulted-steps 0 (main_fields p) p.front (scan_fault fault))

  abbrev pub work_stream : FileItem → Stream Fault
  work_stream x = worked_stream (work_on (leading_steps p) (side_files p) file x)

  items-worked : (layout : Layout) (n : ℕ) (rss : List (List Record)) (end : Option ScanFault) → (nat_lt file (side_files p) ≡ false → layout.schema ≡ main_fields p) →
      map work_stream (runs_from file layout n rss ++ end_item end) ≡ map (worked p file) (map item_rows (runs_from file layout n rss ++ end_item end))
  items-worked layout n [] None h = refl
  items-worked layout n [] (Some fault) h = ap (λ u. u ∷ []) (ended-worked fault)
  items-worked layout n (rs ∷ rss) end h =
      let run : FieldRun = record { file = file; layout = layout; before = n; records = rs } in
      ap (λ u. u ∷ map work_stream (runs_from file layout (n + length rs) rss ++ end_item end)) (run-worked run h)
      ∙ ap (λ us. worked p file (item_rows (Run run)) ∷ us) (items-worked layout (n + length rs) rss end h)

-- ---- the items of a file

module _ (file : ℕ) (layout : Layout) where
  abbrev pub flat : List (List Record) → List Record
  flat rss = flat_map (λ rs. rs) rss

  items-rows : (n : ℕ) (rss : List (List Record)) (end : Option ScanFault) →
      concat_streams (map item_rows (runs_from file layout n rss ++ end_item end)) ≡ rename_fault scan_fault (then_stream (rows_after file layout row_limit n (flat rss)) (ended end))
  items-rows n [] None = refl
  items-rows n [] (Some fault) = refl
  items-rows n (rs ∷ rss) end =
      let first : Stream ScanFault = rows_after file layout row_limit n rs in
      let rest : Stream ScanFault = rows_after file layout row_limit (n + length rs) (flat rss) in
      ap (then_stream (rename_fault scan_fault first)) (items-rows (n + length rs) rss end)
      ∙ sym (rename_fault-then scan_fault first (then_stream rest (ended end)))
      ∙ ap (rename_fault scan_fault) (
      sym (then_stream-assoc first rest (ended end))
      ∙ ap (λ u. then_stream u (ended end)) (sym (rows-split file layout row_limit n rs (flat rss)))
      )

  -- the items of a file's records have its rows
  scanned-rows : (b : ℕ) (w : RecordStream) → 0 < b → concat_streams (map item_rows (scanned_items file layout b 0 w)) ≡ rename_fault scan_fault (rows_of_records file layout row_limit 0 w)
  scanned-rows b w h =
      items-rows 0 (pieces b w.records) w.fault
      ∙ ap (λ rs. rename_fault scan_fault (then_stream (rows_after file layout row_limit 0 rs) (ended w.fault))) (flat_map-pieces b w.records h)

-- what the workers make of a file's items joins to its rows, after the leading steps if it is of the main source
pub file-worked : (p : Physical) (b file : ℕ) (layout : Layout) (w : RecordStream) → 0 < b → (nat_lt file (side_files p) ≡ false → layout.schema ≡ main_fields p) →
    concat_streams (map (work_stream p file) (scanned_items file layout b 0 w)) ≡ worked p file (rename_fault scan_fault (rows_of_records file layout row_limit 0 w))
file-worked p b file layout w some h =
    ap concat_streams (items-worked p file layout 0 (pieces b w.records) w.fault h)
    ∙ worked-joined p file (map item_rows (scanned_items file layout b 0 w))
    ∙ ap (worked p file) (scanned-rows file layout b w some)

-- ---- how many items

module _ (file : ℕ) (layout : Layout) (limit : ℕ) where
  one-row : (n : ℕ) (r : Record) (rows : List Row) → row_of file layout limit n r ≡ Ok rows → length rows ≡ 1
  one-row n r rows = go (nat_lt limit n) (not (length r == length layout.schema)) (all_or_missing (cells_by (cell_under layout.nulls) layout.notations (kinds_of layout.schema) r))
    where
      go : (long wide : Bool) (cells : Result Row ℕ) →
          cond long (Err (TooLong file)) (cond wide (Err (Width file n)) (result_map_both (λ row. masked layout.projection row ∷ []) (BadCell file n) cells)) ≡ Ok rows → length rows ≡ 1
      go true wide cells e = absurd (cc e)
      go false true cells e = absurd (cc e)
      go false false (Ok row) e = let same : masked layout.projection row ∷ [] ≡ rows = cc e in sym (ap length same)
      go false false (Err i) e = absurd (cc e)

  -- if no record faults, each is a row
  all-rows : (n : ℕ) (rs : List Record) → (rows_after file layout limit n rs).fault ≡ None → length (rows_after file layout limit n rs).rows ≡ length rs
  all-rows n [] e = refl
  all-rows n (r ∷ rs) e = go (row_of file layout limit (n + 1) r) refl (all-rows (n + 1) rs)
    where
      go : (o : Result (List Row) ScanFault) → row_of file layout limit (n + 1) r ≡ o
          → ((rows_after file layout limit (n + 1) rs).fault ≡ None → length (rows_after file layout limit (n + 1) rs).rows ≡ length rs)
          → length (rows_after file layout limit n (r ∷ rs)).rows ≡ length (r ∷ rs)
      go (Err fault) g more = absurd (cc (sym (ap (λ (u : Stream ScanFault). u.fault) (after-fault file layout limit n r rs fault g)) ∙ e))
      go (Ok rows) g more =
          let here = after-rows file layout limit n r rs rows g in
          let rest : Stream ScanFault = rows_after file layout limit (n + 1) rs in
          omega (
            arith,
            ap (λ (u : Stream ScanFault). length u.rows) here,
            length-append rows rest.rows,
            one-row (n + 1) r rows g,
            more (sym (ap (λ (u : Stream ScanFault). u.fault) here) ∙ e),
          )

none-before : (u : Stream ScanFault) (end : Option ScanFault) → (then_stream u (ended end)).fault ≡ None → (u.fault ≡ None) × (end ≡ None) × ((then_stream u (ended end)).rows ≡ u.rows)
none-before u end h = go u.fault refl h
  where
    joined : Option ScanFault → Stream ScanFault
    joined o = cond (is_some o) u (record { rows = u.rows ++ []; fault = end })

    go : (o : Option ScanFault) → u.fault ≡ o → (joined o).fault ≡ None → (u.fault ≡ None) × (end ≡ None) × ((joined o).rows ≡ u.rows)
    go None e h = (e, h, append-nil u.rows)
    go (Some f) e h = absurd (cc (sym e ∙ h))

length-runs : (file : ℕ) (layout : Layout) (n : ℕ) (rss : List (List Record)) → length (runs_from file layout n rss ++ end_item None) ≡ length rss
length-runs file layout n [] = refl
length-runs file layout n (rs ∷ rss) = ap suc (length-runs file layout (n + length rs) rss)

length-pieces : {X Y : Type 0} (b : ℕ) (xs : List X) (ys : List Y) → length xs ≡ length ys → length (pieces b xs) ≡ length (pieces b ys)
length-pieces b xs ys e =
    length-map (numbers (div_ceil (length xs) b)) (λ i. take b (drop (i * b) xs))
    ∙ ap (λ n. length (numbers (div_ceil n b))) e
    ∙ sym (length-map (numbers (div_ceil (length ys) b)) (λ i. take b (drop (i * b) ys)))

-- a file without a fault has as many items as its rows have batches
pub done-length : (b file : ℕ) (layout : Layout) (w : RecordStream) → (rows_of_records file layout row_limit 0 w).fault ≡ None →
    length (scanned_items file layout b 0 w) ≡ length (pieces b (rows_of_records file layout row_limit 0 w).rows)
done-length b file layout w e =
    let u : Stream ScanFault = rows_after file layout row_limit 0 w.records in
    let parts = none-before u w.fault e in
    ap (λ end. length (runs_from file layout 0 (pieces b w.records) ++ end_item end)) parts.1
    ∙ length-runs file layout 0 (pieces b w.records)
    ∙ length-pieces b w.records u.rows (sym (all-rows file layout row_limit 0 w.records parts.0))
    ∙ ap (λ rows. length (pieces b rows)) (sym parts.2)
