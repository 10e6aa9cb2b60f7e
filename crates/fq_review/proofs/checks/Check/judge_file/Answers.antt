use Rattle.std.proofs.Common.{◌∙◌, Ok, Err, ap, length, string_bytes, sym}
use Rattle.std.specs.Prelude.{◌==◌, ◌&&◌, OnOk, Result}
use Rattle.std.specs.Cmp.Lexicographic.{pointwise}
use Rattle.std.proofs.lemmas.List.{length-map}
use Rattle.std.proofs.Math.Bool.{and-false}
use Rattle.csv.specs.Reading.{default_config, records, strip_bom}
use Rattle.csv.specs.Records.{fields_of}
use Rattle.fq_column.specs.Frame.{same_name}
use Rattle.fq_places.specs.Marks.{marks_of}
use Rattle.fq_review.specs.Checked.{are_rows, is_flawless, layout_of, names_in}
use Rattle.fq_review.proofs.CheckLemmas.{clean-is, empty-is, one-more, other-width}
use Rattle.fq_review.proofs.checks.Check.judge_file.Goals as goal

on-ok : {T E P Q : Type 0} (r : Result T E) → (P → Q) → OnOk r P → OnOk r Q
on-ok (Ok x) f p = f p
on-ok (Err e) f p = tt

pub returns-in_default : goal.returns-in_default
returns-in_default g c = record {
  judged = λ bytes some left.
      let next = c.in_ok-line.ensures.reads (records default_config (strip_bom bytes)) (marks_of bytes) some left in
      let end = rw c.in_default.is at next.3 in
      let old = c.args.self.now.problems == 0 in
      c.tell.ensures ∙ sym (ap (λ b. old && b) (empty-is c.args.file.number (layout_of c.args.file.expected.columns.now c.args.file.expected.nulls.now c.args.file.expected.notations.now) bytes end.0) ∙ and-false old);
}

pub returns-then-judge_header : goal.returns-then-judge_header
returns-then-judge_header g c = record {
  judged = on-ok c.judge_rows.result (λ judged bytes some left.
      let columns = c.args.file.expected.columns.now in
      let nulls = c.args.file.expected.nulls.now in
      let next = c.in_ok-line.ensures.reads (records default_config (strip_bom bytes)) (marks_of bytes) some left in
      let here = rw c.in-Some.is at next.3 in
      let old = c.args.self.now.problems == 0 in
      let header = fields_of c.next_line.new.records.row in
      let same = pointwise same_name (names_in columns) header in
      let rows = are_rows (layout_of columns nulls c.args.file.expected.notations.now) here.0 in
      judged here.0 next.0 here.2 next.1
      ∙ sym (ap (λ b. old && b) (clean-is c.args.file.number columns nulls c.args.file.expected.notations.now bytes header here.0 here.1)
      ∙ one-more old (is_flawless (marks_of bytes)) same rows (c.next_line.new.self.problems == 0) (is_flawless next.0) (c.judge_header.new.self.problems == 0) next.2 c.judge_header.ensures.told))
      c.judge_rows.ensures.judged;
}

pub returns : goal.returns
returns g c = record {
  judged = λ bytes some left.
      let columns = c.args.file.expected.columns.now in
      let nulls = c.args.file.expected.nulls.now in
      let next = c.in_ok-line.ensures.reads (records default_config (strip_bom bytes)) (marks_of bytes) some left in
      let here = rw c.in-Some.is at next.3 in
      let old = c.args.self.now.problems == 0 in
      let header = fields_of c.next_line.new.records.row in
      let rows = are_rows (layout_of columns nulls c.args.file.expected.notations.now) here.0 in
      let flawless = is_flawless (marks_of bytes) in
      let width = ap (λ n. length header == n) (length-map columns (λ d. string_bytes d.0)) ∙ sym c.judge_header.ensures.width ∙ c.if-judge_header.false in
      let other = other-width (names_in columns) header width in
      let met = c.judge_header.ensures.told ∙ ap (λ b. (c.next_line.new.self.problems == 0) && b) other ∙ and-false (c.next_line.new.self.problems == 0) in
      c.in_ok-next_line.ensures.told met
      ∙ sym (ap (λ b. old && b) (clean-is c.args.file.number columns nulls c.args.file.expected.notations.now bytes header here.0 here.1 ∙ ap (λ b. (b && rows) && flawless) other) ∙ and-false old);
}
