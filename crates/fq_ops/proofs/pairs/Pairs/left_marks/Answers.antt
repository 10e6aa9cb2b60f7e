use Rattle.std.proofs.Common.{◌≡◌, ◌-◌, ◌++◌, ◌∷◌, [], true, false, get_or, replicate, refl, subst, ap, ◌∙◌, arith, vec_len}
use Rattle.std.proofs.Math.Seq.{take_all}
use Rattle.fq_ops.specs.Pairs.{AreMarks}
use Rattle.fq_ops.proofs.MarkedRowLemmas.{marks-more, marks-rest}
use Rattle.fq_ops.proofs.pairs.Pairs.left_marks.Goals as goal

pub loop-place-preserved : goal.loop-place-preserved
loop-place-preserved c =
    let marks = c.loop-place.marks.items in
    let places = c.left-place-items.result.now in
    let i = c.loop-place.place-index in
    let place = get_or places i 0 in
    let gap = place - vec_len c.loop-place.marks in
    let filled : c.resize.new.self.items ≡ marks ++ replicate gap false =
    c.in_ok-resize.ensures.items ∙ ap (λ ms. ms ++ replicate gap false) (take_all place marks (omega (arith, c.if-place-len.false, c.len.ensures))) in
    record {
      few = omega (arith, c.in_ok-push.ensures.len, c.in_ok-resize.ensures.len, c.if-place-rows.false);
      marks = marks-more marks c.push.new.self.items places i place gap (omega (arith, c.loop-place-test.true)) refl (omega (arith, c.if-place-len.false, c.len.ensures, c.loop-place.marks.ok))
          (c.in_ok-push.ensures.items ∙ ap (λ ms. ms ++ true ∷ []) filled) c.loop-place.invariant.marks;
    }

pub returns-clause-marks : goal.returns-clause-marks
returns-clause-marks c =
    let marks = c.loop-place.marks.items in
    let places = c.left-place-items.result.now in
    let rest = c.args.rows - vec_len c.loop-place.marks in
    let filled : c.resize-2.new.self.items ≡ marks ++ replicate rest false = c.in_ok-resize-2.ensures.items ∙ ap (λ ms. ms ++ replicate rest false) (take_all c.args.rows marks c.loop-place.invariant.few) in
    let all = take_all c.loop-place.place-index places (omega (arith, c.loop-place-test.false)) ∙ c.left-place-items.ensures in
    marks-rest marks c.resize-2.new.self.items rest _ filled (subst (AreMarks marks) all c.loop-place.invariant.marks)
