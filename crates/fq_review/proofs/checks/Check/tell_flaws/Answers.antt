use Rattle.std.proofs.Common.{◌≡◌, ◌+◌, ◌∙◌, None, ap, arith, false, get_or, suc, sym, take}
use Rattle.std.specs.Prelude.{◌==◌, ◌&&◌, is_none}
use Rattle.std.proofs.Math.Seq.{take-suc}
use Rattle.std.proofs.Math.Bool.{and-false}
use Rattle.fq_places.specs.declared.marks.Mark.{Mark}
use Rattle.fq_review.specs.Checked.{is_flawless}
use Rattle.fq_review.specs.declared.checks.Check.{Check}
use Rattle.fq_review.proofs.CheckLemmas.{and-true, flawless-more}
use Rattle.fq_review.proofs.checks.Check.tell_flaws.Goals as goal
use Rattle.fq_review.proofs.checks.Check.tell_flaws.Goals.{in-Some, in_default}

pub loop-mark-preserved : goal.loop-mark-preserved
loop-mark-preserved g c =
    let flaws = c.args.flaws.now in
    let i = c.loop-mark.mark-index in
    let none : Mark = record { line = 0; begins = false; flaw = None } in
    let old = c.args.self.now.problems == 0 in
    let before = is_flawless (take i flaws) in
    let longer = ap (λ n. take n flaws) (let e : i + 1 ≡ suc i = omega arith in e) ∙ take-suc flaws i none (omega (arith, c.loop-mark-test.true)) in
    let all = ap (λ ms. old && is_flawless ms) longer ∙ ap (λ b. old && b) (flawless-more (take i flaws) (get_or flaws i none)) in
    elim c.match-mark.branch [
      | in-Some w ↦
          ap (λ (s : Check). s.problems == 0) w.self-is ∙ w.tell.ensures
          ∙ sym (all ∙ ap (λ o. old && (before && is_none o)) w.in-Some.is ∙ ap (λ b. old && b) (and-false before) ∙ and-false old)
      | in_default w ↦
          ap (λ (s : Check). s.problems == 0) w.self-is ∙ c.loop-mark.invariant
          ∙ sym (all ∙ ap (λ o. old && (before && is_none o)) w.in_default.is ∙ ap (λ b. old && b) (and-true before))
    ]
