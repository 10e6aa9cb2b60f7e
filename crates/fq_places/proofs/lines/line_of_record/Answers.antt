use Rattle.std.proofs.Common.{◌∙◌, ap, arith, refl, sym}
use Rattle.std.specs.Prelude.{slice_get}
use Rattle.fq_places.specs.Marks.{marks_of}
use Rattle.fq_places.specs.Records.{lines_of}
use Rattle.fq_places.proofs.MarkLemmas.{line-here, line-later, lines-on}
use Rattle.fq_places.proofs.lines.line_of_record.Goals as goal
use Rattle.fq_places.proofs.lines.line_of_record.Goals.{then-mark+else-left-eq0, else-mark}

pub loop-init : goal.loop-init
loop-init g c = record {
  sound = c.in_ok-marks.ensures.sound;
  left = λ bytes known. (marks_of bytes, c.in_ok-marks.ensures.left bytes known, refl);
}

pub returns-in_default : goal.returns-in_default
returns-in_default g c bytes known =
    let kept = c.loop.invariant.left bytes known in
    let next = rw c.in_default.is at (c.in_ok-mark.ensures.reads kept.0 kept.1) in
    sym (kept.2 ∙ ap (λ ms. slice_get (lines_of ms) c.loop.left) next.2.0)

pub returns-then-left-eq0 : goal.returns-then-left-eq0
returns-then-left-eq0 g c bytes known =
    let kept = c.loop.invariant.left bytes known in
    let next = rw c.in-Some.is at (c.in_ok-mark.ensures.reads kept.0 kept.1) in
    sym (kept.2 ∙ ap (λ ms. slice_get (lines_of ms) c.loop.left) next.2 ∙ line-here c.in-Some.mark next.0 c.loop.left c.if-mark.true c.if-left-eq0.true)

pub loop-preserved : goal.loop-preserved
loop-preserved g c = record {
  sound = c.in_ok-mark.ensures.sound;
  left = λ bytes known.
      let kept = c.loop.invariant.left bytes known in
      let next = rw c.in-Some.is at (c.in_ok-mark.ensures.reads kept.0 kept.1) in
      let mark = c.in-Some.mark in
      let here = kept.2 ∙ ap (λ ms. slice_get (lines_of ms) c.loop.left) next.2 in (
        next.0,
        next.1,
        elim c.if-mark.branch [
          | then-mark+else-left-eq0 w ↦ rw w.left-is (here ∙ line-later mark next.0 c.loop.left w.if-mark.true (omega (arith, w.if-left-eq0.false)))
          | else-mark w ↦ rw w.left-is (here ∙ ap (λ ls. slice_get ls c.loop.left) (lines-on mark next.0 w.if-mark.false))
        ],
      );
}
