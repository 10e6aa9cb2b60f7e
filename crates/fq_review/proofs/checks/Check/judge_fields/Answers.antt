use Rattle.std.proofs.Common.{◌≡◌, ◌<◌, ◌∙◌, ap, arith, false, length, string_bytes, sym, take, true}
use Rattle.std.proofs.Math.Seq.{take_all}
use Rattle.std.proofs.lemmas.Bool.Decides.{nat_tests}
use Rattle.std.specs.Prelude.{◌==◌, ◌&&◌, is_some, slice_index_or, zip}
use Rattle.std.specs.List.{list_all}
use Rattle.std.specs.Option.{option_map}
use Rattle.std.proofs.lemmas.List.{length-map}
use Rattle.std.proofs.lemmas.Option.{slice_get-map}
use Rattle.std.proofs.Math.Bool.{and-false}
use Rattle.csv.specs.Records.{fields_of}
use Rattle.fq_column.proofs.SchemaLemmas.{slice_get-at}
use Rattle.fq_csv.proofs.ReaderLemmas.{field-gone, field-there}
use Rattle.fq_column.specs.Frame.{Field, kinds_of}
use Rattle.fq_notation.specs.declared.notations.Notation.TheVariants.{Plain}
use Rattle.fq_csv.specs.Field.{cell_under}
use Rattle.fq_csv.proofs.NotedLemmas.{length-noted, noted-at}
use Rattle.fq_review.specs.Checked.{layout_of}
use Rattle.fq_review.specs.declared.checks.Check.{Check}
use Rattle.fq_review.proofs.CheckLemmas.{and-true, cells-more, forms, is_of_column}
use Rattle.fq_review.proofs.checks.Check.judge_fields.Goals as goal
use Rattle.fq_review.proofs.checks.Check.judge_fields.Goals.{then-not-is_cell+in_ok-count, else-not-is_cell}

pub unreachable-requires : goal.unreachable-requires
unreachable-requires g c =
    let fs = fields_of c.args.row.now in
    let there : c.loop-place.place < length fs = omega (arith, c.len.ensures, c.if-len-columns.false, c.loop-place-test.true) in
    field-gone fs c.loop-place.place there (sym (rw c.in_default.is at c.get.ensures.value))

pub loop-place-preserved : goal.loop-place-preserved
loop-place-preserved g c =
    let columns = c.args.file.expected.columns.now in
    let layout = layout_of columns c.args.file.expected.nulls.now c.args.file.expected.notations.now in
    let fs = fields_of c.args.row.now in
    let i = c.loop-place.place in
    let column = c.index-columns-place-in-loop-place.result in
    let field = c.in-Some.field.now in
    let notation = slice_index_or layout.notations i Plain in
    let old = c.args.self.now.problems == 0 in
    let before = list_all (is_of_column layout) (zip (take i (forms layout)) (take i fs)) in
    let named = slice_get-map (λ d. (string_bytes d.0, d.1)) columns i ∙ ap (option_map (λ d. (string_bytes d.0, d.1))) (slice_get-at columns i column (omega (arith, c.loop-place-test.true)) c.index-columns-place-in-loop-place.is) in
    let at = noted-at layout.notations (kinds_of layout.schema) i column.1 (slice_get-map (λ (f : Field). f.1) layout.schema i ∙ ap (option_map (λ (f : Field). f.1)) named) in
    let more = cells-more layout (forms layout) fs i (column.1, notation) field at (sym (c.in-Some.ensures.value ∙ field-there fs i)) in
    let cell = is_some (cell_under layout.nulls column.1 notation field) in
    let all = ap (λ b. old && b) more in
    let judged = ap (λ d. is_some (cell_under layout.nulls d.1 notation field)) c.index-columns-place-in-loop-place.is
    ∙ ap (λ n. is_some (cell_under layout.nulls (slice_index_or columns i column).1 n field)) (sym c.of.ensures) ∙ sym c.is_cell.ensures in
    elim c.if-not-is_cell.branch [
      | then-not-is_cell+in_ok-count w ↦
          let bad : cell ≡ false = judged ∙ w.if-not-is_cell.true in
          ap (λ (s : Check). s.problems == 0) w.self-is ∙ ap (λ n. n == 0) w.in_ok-count.ensures ∙ w.tell-then-not-is_cell.ensures
          ∙ sym (all ∙ ap (λ b. old && (before && b)) bad ∙ ap (λ b. old && b) (and-false before) ∙ and-false old)
      | else-not-is_cell w ↦
          let good : cell ≡ true = judged ∙ w.if-not-is_cell.false in
          ap (λ (s : Check). s.problems == 0) w.self-is ∙ c.loop-place.invariant
          ∙ sym (all ∙ ap (λ b. old && (before && b)) good ∙ ap (λ b. old && b) (and-true before))
    ]

pub returns : goal.returns
returns g c =
    let columns = c.args.file.expected.columns.now in
    let layout = layout_of columns c.args.file.expected.nulls.now c.args.file.expected.notations.now in
    let fs = fields_of c.args.row.now in
    let i = c.loop-place.place in
    let old = c.args.self.now.problems == 0 in
    let size : length layout.schema ≡ length columns = length-map _ _ in
    let wide : (length fs == length layout.schema) ≡ true = grind (arith, nat_tests, size, c.len.ensures, c.if-len-columns.false) in
    let formed = length-noted layout.notations (kinds_of layout.schema) ∙ length-map _ _ in
    let fields_all : take i (forms layout) ≡ forms layout = take_all i (forms layout) (omega (arith, formed, size, c.loop-place-test.false)) in
    let cells_all : take i fs ≡ fs = take_all i fs (omega (arith, c.len.ensures, c.if-len-columns.false, c.loop-place-test.false)) in
    c.loop-place.invariant
    ∙ (λ k. old && list_all (is_of_column layout) (zip (fields_all k) (cells_all k)))
    ∙ sym (ap (λ b. old && (b && list_all (is_of_column layout) (zip (forms layout) fs))) wide)
