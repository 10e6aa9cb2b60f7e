-- What the engine comes to, with the leading steps as its work, over the items of a plan's files.
use Rattle.std.specs.Prelude.{◌+◌, Option, option_map, ◌≡◌, ℕ, List, [], ◌∷◌, ◌++◌, map, length, Some, None, IsOk, ◌<◌}
use Rattle.fq_column.specs.Frame.{Fields}
use Rattle.fq_column.specs.Stream.{Stream}
use Rattle.fq_csv.specs.Taking.{RecordStream, record_stream, rows_of_records}
use Rattle.fq_csv.specs.declared.faults.ScanFault.{ScanFault}
use Rattle.fq_csv.specs.declared.cells.layouts.Layout.{Layout}
use Rattle.fq_expr.specs.Front.{NumberedSteps}
use Rattle.fq_lanes.specs.Engine.{Finishes}
use Rattle.fq_run.specs.Feeding.{AllTextItems, Feeding, MayCome, scanned_items}
use Rattle.fq_run.specs.Kept.{Takes}
use Rattle.fq_run.specs.Outcome.{outcome_of_stages}
use Rattle.fq_run.specs.Physical.{Physical, file_layouts, files_wanted, front_fields, side_files, main_fields, outcome_of_run}
use Rattle.fq_run.specs.Run.{trace_of}
use Rattle.fq_csv.specs.Sources.{but_last, last_or, row_limit}
use Rattle.fq_run.specs.Working.{work_on}
use Rattle.fq_run.specs.declared.file_feeds.FileItem.{FileItem}
use Rattle.fq_run.specs.declared.gathering.SideSource.{SideSource}

-- the number of the main source's files
abbrev pub main_files : Physical → ℕ
main_files p = last_or 0 (map (λ s. s.files) p.sources)

-- the leading steps, which are numbered from 0
abbrev pub leading_steps : Physical → NumberedSteps
leading_steps p = record { steps = p.front; fields = main_fields p; first = 0 }

-- a source of which nothing was taken
abbrev pub no_rows : ℕ → Fields → SideSource
no_rows files fields = record { files = files; batch = record { fields = fields; rows = [] }; fault = None }

-- so all sources of a plan; the main one has its columns after the leading steps
abbrev pub nothing_taken : Physical → List SideSource
nothing_taken p = map (λ s. no_rows s.files s.fields) (but_last p.sources) ++ no_rows (main_files p) (front_fields p) ∷ []

-- the items of each file's records; the files are numbered from this one on and have these layouts
abbrev pub items_of_files : ℕ → ℕ → List Layout → List RecordStream → List (List FileItem)
items_of_files run_size file [] ws = []
items_of_files run_size file (layout ∷ layouts) [] = []
items_of_files run_size file (layout ∷ layouts) (w ∷ ws) = scanned_items file layout run_size 0 w ∷ items_of_files run_size (file + 1) layouts ws

-- the rows of each file's records
abbrev pub rows_of_files : ℕ → List Layout → List RecordStream → List (Stream ScanFault)
rows_of_files file [] ws = []
rows_of_files file (layout ∷ layouts) [] = []
rows_of_files file (layout ∷ layouts) (w ∷ ws) = rows_of_records file layout row_limit 0 w ∷ rows_of_files (file + 1) layouts ws

-- the records of each file's bytes
abbrev pub records_of_files : ℕ → List Layout → List (List ℕ) → List RecordStream
records_of_files file [] files = []
records_of_files file (layout ∷ layouts) [] = []
records_of_files file (layout ∷ layouts) (bytes ∷ files) = record_stream file layout.schema row_limit bytes ∷ records_of_files (file + 1) layouts files

-- what feeds of readers have to give, which are numbered from this file on and have these layouts
abbrev pub opened : {R : Type 0} → (R → Option (List ℕ)) → ℕ → ℕ → List Layout → List R → List Feeding
opened remaining run_size file [] readers = []
opened remaining run_size file (layout ∷ layouts) [] = []
opened remaining run_size file (layout ∷ layouts) (reader ∷ readers) =
    record { most = 2147483648; items = option_map (scanned_items file layout run_size 0) (option_map (record_stream file layout.schema row_limit) (remaining reader)) }
    ∷ opened remaining run_size (file + 1) layouts readers

-- a run of the engine over feeds that tell the items of these records, from nothing taken on
pub record RanOver (p : Physical) (batch_size : ℕ) (ws : List RecordStream) (front : NumberedSteps) (sides : ℕ) (feeds : List Feeding) (first last : List SideSource) (trace : List (ℕ × ℕ)) : Type 0 where
  pub some_rows : 0 < batch_size
  pub some_source : 0 < length p.sources
  pub all_files : length ws ≡ files_wanted p
  pub steps : front ≡ leading_steps p
  pub side_count : sides ≡ side_files p
  pub told : map (λ f. f.items) feeds ≡ map Some (items_of_files batch_size 0 (file_layouts p) ws)
  pub of_text : AllTextItems (items_of_files batch_size 0 (file_layouts p) ws)
  pub nothing : first ≡ nothing_taken p
  pub finished : Finishes MayCome (λ file item out. out ≡ work_on front sides file item) Takes feeds first trace last

-- then what was gathered has the plan's outcome, and the trace lists each file's batches if that is a frame
pub record Gives (p : Physical) (batch_size : ℕ) (us : List (Stream ScanFault)) (last : List SideSource) (numbers : List (ℕ × ℕ)) : Type 0 where
  pub outcome : (sides : List SideSource) (main : SideSource) → last ≡ sides ++ main ∷ [] → outcome_of_stages p.stages sides main ≡ outcome_of_run p us
  pub trace : IsOk (outcome_of_run p us) → numbers ≡ trace_of batch_size us
