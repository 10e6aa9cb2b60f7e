use Rattle.std.proofs.Common.{◌<◌, ◌≤◌, ◌∙◌, [], ap, arith, length, sym}
use Rattle.std.specs.Prelude.{slice_index_or}
use Rattle.fq_column.specs.Frame.{Row, value_at}
use Rattle.fq_notation.specs.declared.notations.Notation.TheVariants.{Plain}
use Rattle.fq_csv.specs.Writing.{held}
use Rattle.fq_csv.specs.Printed.{cell_text, row_fields}
use Rattle.fq_csv.proofs.PrintLemmas.{HasPut-end, HasPut-more, HasPut-start, cell-field, cell-of_column, length-fields, row-length}
use Rattle.fq_csv.proofs.printing.put_row.Goals as goal

pub loop-i-init : goal.loop-i-init
loop-i-init c = HasPut-start held c.args.writer.now (row_fields c.args.notations.now (slice_index_or c.args.batch.now.rows c.args.row [])) c.requires.between

pub loop-i-preserved : goal.loop-i-preserved
loop-i-preserved c =
    let f = c.args.batch.now in
    let row : Row = slice_index_or f.rows c.args.row [] in
    let width = row-length f c.args.row c.requires.frame c.requires.in_range in
    let below : c.loop-i.i < length row = omega (arith, c.loop-i-test.true, c.len-i-end.ensures.len, ap length c.schema.ensures, width) in
    let ns = c.args.notations.now in
    let wide : c.loop-i.i < length (row_fields ns row) = omega (arith, below, length-fields ns row) in
    let n = slice_index_or ns c.loop-i.i Plain in
    let cell = cell-field ns row c.loop-i.i below ∙ ap (cell_text n) (sym (cell-of_column f.rows c.args.row c.loop-i.i c.requires.in_range)) ∙ ap (λ cells. cell_text n (value_at c.args.row cells)) (sym c.column.ensures.cells)
    ∙ ap (λ m. cell_text m (value_at c.args.row c.column.result.now.cells)) (sym c.of.ensures) in
    HasPut-more held c.args.writer.now c.loop-i.writer c.put_cell.new.writer (row_fields ns row) c.loop-i.i _ c.loop-i.invariant wide cell c.in_ok-put_cell.ensures

pub returns : goal.returns
returns c =
    let f = c.args.batch.now in
    let ns = c.args.notations.now in
    let row : Row = slice_index_or f.rows c.args.row [] in
    let width = row-length f c.args.row c.requires.frame c.requires.in_range in
    let all : length (row_fields ns row) ≤ c.loop-i.i = omega (arith, c.loop-i-test.false, c.len-i-end.ensures.len, ap length c.schema.ensures, width, length-fields ns row) in
    HasPut-end held c.args.writer.now c.loop-i.writer c.end_record.new.writer (row_fields ns row) c.loop-i.i c.end_record.result c.loop-i.invariant all c.end_record.ensures.between c.end_record.ensures.text
