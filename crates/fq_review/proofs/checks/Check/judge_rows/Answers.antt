use Rattle.std.proofs.Common.{◌≡◌, ◌+◌, ◌∙◌, ap, arith, length, refl, sym}
use Rattle.std.specs.Prelude.{◌==◌, ◌&&◌}
use Rattle.std.specs.List.{list_all}
use Rattle.csv.specs.Records.{fields_of}
use Rattle.fq_review.specs.Checked.{is_flawless, is_row, layout_of}
use Rattle.fq_review.proofs.CheckLemmas.{one-more, rows-end, rows-past}
use Rattle.fq_review.proofs.checks.Check.judge_rows.Goals as goal

pub loop-init : goal.loop-init
loop-init g c = record {
  plain = c.requires.plain;
  sound = c.requires.sound;
  judged = λ rs marks some left. (rs, marks, some, left, (let e : length rs ≡ 0 + length rs = omega arith in e), refl);
}

pub returns-in_default : goal.returns-in_default
returns-in_default g c = record {
  judged = λ rs marks some left.
      let kept = c.loop.invariant.judged rs marks some left in
      let next = c.in_ok-line.ensures.reads kept.0 kept.1 kept.2 kept.3 in
      let end = rw c.in_default.is at next.3 in
      let layout = layout_of c.args.file.expected.columns.now c.args.file.expected.nulls.now c.args.file.expected.notations.now in
      rows-end layout rs kept.0 marks kept.1 next.0 (c.args.self.now.problems == 0) (c.loop.self.problems == 0) (c.next_line.new.self.problems == 0)
      end.0 end.1 next.2 kept.5 (omega (arith, kept.4, ap length end.0, c.loop-test.true));
}

pub loop-preserved : goal.loop-preserved
loop-preserved g c = record {
  plain = c.in_ok-line.ensures.plain;
  sound = c.in_ok-line.ensures.sound;
  judged = λ rs marks some left.
      let kept = c.loop.invariant.judged rs marks some left in
      let next = c.in_ok-line.ensures.reads kept.0 kept.1 kept.2 kept.3 in
      let here = rw c.in-Some.is at next.3 in
      let layout = layout_of c.args.file.expected.columns.now c.args.file.expected.nulls.now c.args.file.expected.notations.now in
      let old = c.loop.self.problems == 0 in
      let row = is_row layout (fields_of c.next_line.new.records.row) in
      let rest = list_all (is_row layout) here.0 in (
        here.0,
        next.0,
        here.2,
        next.1,
        omega (arith, kept.4, ap length here.1),
        kept.5
            ∙ ap (λ more. old && (list_all (is_row layout) more && is_flawless kept.1)) here.1
            ∙ one-more old (is_flawless kept.1) row rest (c.next_line.new.self.problems == 0) (is_flawless next.0) (c.judge_row.new.self.problems == 0) next.2 c.in_ok-judge_row.ensures,
      );
}

pub returns-in-Some-2 : goal.returns-in-Some-2
returns-in-Some-2 g c = record {
  judged = λ rs marks some left.
      let kept = c.loop.invariant.judged rs marks some left in
      let next = c.in_ok-line-2.ensures.reads kept.0 kept.1 kept.2 kept.3 in
      let here = rw c.in-Some-2.is at next.3 in
      let layout = layout_of c.args.file.expected.columns.now c.args.file.expected.nulls.now c.args.file.expected.notations.now in
      c.tell.ensures ∙ sym (rows-past layout rs marks (c.args.self.now.problems == 0) (omega (arith, kept.4, ap length here.1, c.loop-test.false)));
}

pub returns-in_default-2 : goal.returns-in_default-2
returns-in_default-2 g c = record {
  judged = λ rs marks some left.
      let kept = c.loop.invariant.judged rs marks some left in
      let next = c.in_ok-line-2.ensures.reads kept.0 kept.1 kept.2 kept.3 in
      let end = rw c.in_default-2.is at next.3 in
      let layout = layout_of c.args.file.expected.columns.now c.args.file.expected.nulls.now c.args.file.expected.notations.now in
      rows-end layout rs kept.0 marks kept.1 next.0 (c.args.self.now.problems == 0) (c.loop.self.problems == 0) (c.next_line-2.new.self.problems == 0)
      end.0 end.1 next.2 kept.5 (omega (arith, kept.4, ap length end.0, c.loop.auto.counter-end));
}
