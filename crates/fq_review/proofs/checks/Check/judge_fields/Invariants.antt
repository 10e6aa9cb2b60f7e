use Rattle.std.proofs.Common.{◌≡◌, take}
use Rattle.std.specs.Prelude.{◌==◌, ◌&&◌, zip}
use Rattle.std.specs.List.{list_all}
use Rattle.csv.specs.Records.{fields_of}
use Rattle.fq_review.specs.Checked.{layout_of}
use Rattle.fq_review.proofs.CheckLemmas.{forms, is_of_column}
use Rattle.fq_review.proofs.checks.Check.judge_fields.Given as goal

abbrev pub invariant-loop-place : goal.invariant-loop-place
invariant-loop-place g l =
    let layout = layout_of l.fn.file.expected.columns.now l.fn.file.expected.nulls.now l.fn.file.expected.notations.now in
    (l.self.problems == 0) ≡ ((l.fn.self.problems == 0) && list_all (is_of_column layout) (zip (take l.place (forms layout)) (take l.place (fields_of l.row))))
