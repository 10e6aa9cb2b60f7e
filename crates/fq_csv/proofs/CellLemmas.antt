-- The batch that a run is.
use Rattle.std.specs.Prelude.{IfSome, option_map}
use Rattle.std.proofs.Common.{◌≡◌, ◌<◌, ◌≤◌, ◌+◌, ◌∙◌, ℕ, List, Option, Some, None, length, refl, sym, ap, arith}
use Rattle.fq_column.specs.Column.{Cells}
use Rattle.fq_column.specs.Batch.{frame_of}
use Rattle.fq_column.specs.Frame.{Frame}
use Rattle.fq_column.specs.Stream.{Stream}
use Rattle.fq_csv.specs.File.{Record}
use Rattle.fq_csv.specs.Records.{IsOfText}
use Rattle.fq_csv.specs.Taking.{FieldRun, ReadsRun}
use Rattle.fq_csv.specs.TextRows.{HoldsRowsOf, run_fault}
use Rattle.fq_csv.specs.declared.faults.ScanFault.{ScanFault}
use Rattle.fq_csv.specs.declared.cells.layouts.Layout.{Layout}
use Rattle.fq_csv.specs.declared.cells.rows.NoRow.{NoRow}
use Rattle.fq_csv.specs.declared.scanning.scanners.TheConstants.{MAX_ROWS}
use Rattle.fq_csv.proofs.HeldRowLemmas.{frame-held}

no-place : (file before : ℕ) (bad : Option (ℕ × NoRow)) → option_map (run_fault file before) bad ≡ None → bad ≡ None
no-place file before None e = refl
no-place file before (Some p) e = cc e

fewer-rows : {layout : Layout} {rs : List Record} {columns : List Cells} (bad : Option (ℕ × NoRow)) (h : HoldsRowsOf layout rs columns bad) → length h.rows ≤ length rs
fewer-rows None h = omega (arith, h.all refl)
fewer-rows (Some p) h = omega (arith, h.place.1)

pub reads-run : (run : FieldRun) (columns : List Cells) (bad : Option (ℕ × NoRow)) (batch : Frame) (fault : Option ScanFault) → HoldsRowsOf run.layout run.records columns bad → 0 < length columns
    → batch ≡ frame_of run.layout.schema columns → fault ≡ option_map (run_fault run.file run.before) bad → IsOfText fault → run.before + length run.records ≤ MAX_ROWS → ReadsRun run batch fault
reads-run run columns bad batch fault h some b f text few =
    let frame : batch ≡ record { fields = run.layout.schema; rows = h.rows } = b ∙ frame-held run.layout.schema columns h.rows some h.held in
    let rows : batch.rows ≡ h.rows = ap (λ (x : Frame). x.rows) frame in
    record {
      columns = ap (λ (x : Frame). x.fields) frame;
      in_limit = few;
      all = λ e. ap length rows ∙ h.all (no-place run.file run.before bad (sym f ∙ e));
      fewer = omega (arith, ap length rows, fewer-rows bad h);
      cause = text;
      stream = λ limit room. h.stream run.file run.before limit room ∙ (λ i. let u : Stream ScanFault = record { rows = sym rows i; fault = sym f i } in u);
    }

-- the row after the last that was read is within the limit
pub place-in : {layout : Layout} {rs : List Record} {columns : List Cells} (before most : ℕ) (bad : Option (ℕ × NoRow)) → HoldsRowsOf layout rs columns bad → before + length rs ≤ most → IfSome bad (λ p. before + p.0 + 1 ≤ most)
place-in before most None h room = tt
place-in before most (Some p) h room = omega (arith, h.place.0, h.place.1, room)
