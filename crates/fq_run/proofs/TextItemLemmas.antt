-- The faults of a file's items, and of the work on them, are those of its text.
use Rattle.std.proofs.Common.{◌≡◌, ℕ, suc, ◌+◌, Bool, true, false, cond, nat_lt, List, [], ◌∷◌, ◌++◌, length, Option, Some, None, Result, Ok, Err, not, zip, sym, subst}
use Rattle.std.specs.Prelude.{IfErr}
use Rattle.std.specs.Bool.{◌==◌}
use Rattle.std.specs.List.{range_with_len}
use Rattle.std.specs.Result.{result_map_both}
use Rattle.fq_column.specs.declared.cells.Cell.{Cell}
use Rattle.fq_column.specs.declared.cells.Kind.{Kind}
use Rattle.fq_column.specs.Frame.{Fields, Row, kinds_of, names_of, same_name}
use Rattle.fq_column.specs.Lists.{all_or_missing, pieces}
use Rattle.fq_column.specs.Masked.{masked}
use Rattle.fq_column.specs.Stream.{Stream, done, faulted, one_by_one, then_stream}
use Rattle.fq_notation.specs.declared.notations.Notation.{Notation}
use Rattle.fq_csv.specs.Field.{cell_under}
use Rattle.fq_csv.specs.File.{Record, cells_by, row_by}
use Rattle.fq_csv.specs.HandedOut.{framed}
use Rattle.fq_csv.specs.Records.{IsOfText}
use Rattle.fq_csv.specs.Sources.{row_limit}
use Rattle.fq_csv.specs.Taking.{FieldRun, RecordStream, over, record_stream, records_after, records_under_header, then_records}
use Rattle.fq_csv.specs.declared.faults.ScanFault.{ScanFault}
use Rattle.fq_csv.specs.declared.faults.ScanFault.TheVariants.{Header, Width, BadCell, TooLong}
use Rattle.fq_csv.specs.declared.cells.layouts.Layout.{Layout}
use Rattle.fq_column.specs.declared.pieces.Piece.{Piece}
use Rattle.fq_expr.specs.Front.{NumberedSteps}
use Rattle.fq_expr.specs.declared.fronts.RowFault.{RowFault}
use Rattle.fq_lanes.specs.Beside.{Each}
use Rattle.fq_lanes.specs.Engine.{IsWorked}
use Rattle.fq_lanes.specs.Numbering.{AllNumbered, numbered, numbered_file}
use Rattle.fq_run.specs.EngineRun.{items_of_files, records_of_files}
use Rattle.fq_run.specs.Feeding.{AllTextItems, AreTextItems, Feeding, IsTextItem, MayCome, end_item, runs_from}
use Rattle.fq_run.specs.Working.{piece_of, piece_until, rows_of_run, work_on}
use Rattle.fq_run.specs.declared.file_feeds.FileItem.{FileItem}
use Rattle.fq_run.specs.declared.file_feeds.FileItem.TheVariants as file_item
use Rattle.fq_run.specs.declared.leading_steps.Worked.{Worked}
use Rattle.fq_run.specs.declared.leading_steps.Worked.TheVariants as worked
use lib.Pointwise.{pointwise}

-- ---- what a file's bytes come to

after-text : (file limit n : ℕ) (rs : List Record) → IsOfText (records_after file limit n rs).fault
after-text file limit n [] = tt
after-text file limit n (r ∷ rs) = go (nat_lt limit (n + 1)) (after-text file limit (n + 1) rs)
  where
    go : (b : Bool) → IsOfText (records_after file limit (n + 1) rs).fault →
        IsOfText (elim (cond b (Some (TooLong file)) None) as (λ _. RecordStream) [ Some fault ↦ over (Some fault) | None ↦ then_records (r ∷ []) (records_after file limit (n + 1) rs) ]).fault
    go true h = tt
    go false h = h

header-text : (file : ℕ) (fields : Fields) (limit : ℕ) (rs : List Record) → IsOfText (records_under_header file fields limit rs).fault
header-text file fields limit [] = tt
header-text file fields limit (r ∷ rs) = go (pointwise same_name (names_of fields) r)
  where
    go : (b : Bool) → IsOfText (cond b (records_after file limit 0 rs) (over (Some (Header file)))).fault
    go true = after-text file limit 0 rs
    go false = tt

runs-text : (file : ℕ) (layout : Layout) (before : ℕ) (rss : List (List Record)) (rest : List FileItem) → AreTextItems rest → AreTextItems (runs_from file layout before rss ++ rest)
runs-text file layout before [] rest h = h
runs-text file layout before (rs ∷ more) rest h = (tt, runs-text file layout (before + length rs) more rest h)

end-text : (o : Option ScanFault) → IsOfText o → AreTextItems (end_item o)
end-text None h = tt
end-text (Some fault) h = (h, tt)

pub files-text : (run_size file : ℕ) (layouts : List Layout) (files : List (List ℕ)) → AllTextItems (items_of_files run_size file layouts (records_of_files file layouts files))
files-text run_size file [] files = tt
files-text run_size file (layout ∷ layouts) [] = tt
files-text run_size file (layout ∷ layouts) (bytes ∷ files) =
    let u : RecordStream = record_stream file layout.schema row_limit bytes in (
      runs-text file layout 0 (pieces run_size u.records) (end_item u.fault) (end-text u.fault (header-text file layout.schema row_limit _)),
      files-text run_size (file + 1) layouts files,
    )

-- what feeds give is such items
pub each-text : (feeds : List Feeding) (items : List (List FileItem)) → Each MayCome feeds items → AllTextItems items
each-text [] [] h = tt
each-text [] (xs ∷ items) h = absurd h
each-text (f ∷ feeds) [] h = absurd h
each-text (f ∷ feeds) (xs ∷ items) h = (h.0.0, each-text feeds items h.1)

-- ---- the work on an item

-- a fault of a file in a worked item is one of its text
abbrev pub IsTextWork : Worked → Type 0
IsTextWork (worked.Piece p) = Unit {0}
IsTextWork (worked.Cut p fault) = IsOfText (Some fault)
IsTextWork (worked.Ended fault) = IsOfText (Some fault)

row-text : (read : Kind → Notation → List ℕ → Option Cell) (notations : List Notation) (marks : List Bool) (file : ℕ) (fields : Fields) (limit n : ℕ) (fs : Record) → IfErr (row_by read notations marks file fields limit n fs) (λ f. IsOfText (Some f))
row-text read notations marks file fields limit n fs = go (nat_lt limit n) (not (length fs == length fields)) (all_or_missing (cells_by read notations (kinds_of fields) fs))
  where
    go : (many wide : Bool) (row : Result Row ℕ) →
        IfErr (cond many (Err (TooLong file)) (cond wide (Err (Width file n)) (result_map_both (λ (row : Row). masked marks row ∷ []) (BadCell file n) row))) (λ f. IsOfText (Some f))
    go true wide row = tt
    go false true row = tt
    go false false (Ok row) = tt
    go false false (Err column) = tt

one-text : {X : Type 0} (step : X → Result (List Row) ScanFault) → ((x : X) → IfErr (step x) (λ f. IsOfText (Some f))) → (xs : List X) → IsOfText (one_by_one step xs).fault
one-text step h [] = tt
one-text step h (x ∷ xs) = go (step x) (h x) (one-text step h xs)
  where
    go : (r : Result (List Row) ScanFault) → IfErr r (λ f. IsOfText (Some f)) → IsOfText (one_by_one step xs).fault →
        IsOfText (elim r as (λ _. Stream ScanFault) [ Ok rows ↦ then_stream (done rows) (one_by_one step xs) | Err f ↦ faulted f ]).fault
    go (Ok rows) t rest = rest
    go (Err f) t rest = t

run-text : (run : FieldRun) → IsOfText (rows_of_run run).fault
run-text run =
    one-text (λ (p : ℕ × Record). row_by (cell_under run.layout.nulls) run.layout.notations run.layout.projection run.file run.layout.schema row_limit p.0 p.1)
    (λ p. row-text (cell_under run.layout.nulls) run.layout.notations run.layout.projection run.file run.layout.schema row_limit p.0 p.1) (zip (range_with_len (run.before + 1) (length run.records)) run.records)

work-text : (front : NumberedSteps) (sides file : ℕ) (x : FileItem) → IsTextItem x → IsTextWork (work_on front sides file x)
work-text front sides file (file_item.Ended fault) h = h
work-text front sides file (file_item.Run run) h = until (rows_of_run run).fault (piece_of front sides file (framed run.layout.schema (rows_of_run run).rows)) (run-text run)
  where
    until : (o : Option ScanFault) (p : Piece RowFault) → IsOfText o → IsTextWork (piece_until o p)
    until None p t = tt
    until (Some fault) p t = t

-- ---- the log of the work on all items

file-numbered : (f s : ℕ) (xs : List FileItem) (rest : List (ℕ × ℕ × FileItem)) → AreTextItems xs → AllNumbered (λ _ _ x. IsTextItem x) rest → AllNumbered (λ _ _ x. IsTextItem x) (numbered_file f s xs ++ rest)
file-numbered f s [] rest h more = more
file-numbered f s (x ∷ xs) rest h more = (h.0, file-numbered f (suc s) xs rest h.1 more)

pub numbered-text : (f : ℕ) (items : List (List FileItem)) → AllTextItems items → AllNumbered (λ _ _ x. IsTextItem x) (numbered f items)
numbered-text f [] h = tt
numbered-text f (xs ∷ items) h = file-numbered f 0 xs (numbered (suc f) items) h.0 (numbered-text (suc f) items h.1)

module _ (front : NumberedSteps) (sides : ℕ) where
  pub log-text : (es : List (ℕ × ℕ × FileItem)) (log : List (ℕ × ℕ × Worked)) → Each (IsWorked (λ file item out. out ≡ work_on front sides file item)) es log →
      AllNumbered (λ _ _ x. IsTextItem x) es → AllNumbered (λ _ _ out. IsTextWork out) log
  log-text [] [] h t = tt
  log-text [] (r ∷ rs) h t = absurd h
  log-text (e ∷ es) [] h t = absurd h
  log-text (e ∷ es) (r ∷ rs) h t = (subst IsTextWork (sym h.0.2) (work-text front sides e.0 e.2 t.0), log-text es rs h.1 t.1)
