use Rattle.std.proofs.Common.{◌∙◌, ◌++◌, ap, sym}
use Rattle.fq_places.specs.Records.{flaws_of, lines_of}
use Rattle.fq_places.proofs.MarkLemmas.{flaws-more, lines-more, lines-on}
use Rattle.fq_places.proofs.marks.Marks.next_record.Goals as goal

pub returns-in_default-clause-reads : goal.returns-in_default-clause-reads
returns-in_default-clause-reads g c marks left =
    let kept = c.loop.invariant.left marks left in
    let next = rw c.in_default.is at (c.in_ok-mark.ensures.reads kept.0 kept.1) in
    (next.0, next.1, (kept.2 ∙ ap lines_of next.2.0, next.2.1), kept.3 ∙ ap (λ ms. c.loop.flaws.items ++ flaws_of ms) (next.2.0 ∙ sym next.2.1))

pub returns-then-mark-clause-reads : goal.returns-then-mark-clause-reads
returns-then-mark-clause-reads g c marks left =
    let kept = c.loop.invariant.left marks left in
    let next = rw c.in-Some.is at (c.in_ok-mark.ensures.reads kept.0 kept.1) in
    let mark = c.in-Some.mark in (
      next.0,
      next.1,
      kept.2 ∙ ap lines_of next.2 ∙ lines-more mark next.0 c.if-mark.true,
      kept.3 ∙ ap (λ ms. c.loop.flaws.items ++ flaws_of ms) next.2 ∙ flaws-more mark next.0 c.loop.flaws.items c.add_flaw.new.flaws.items c.in_ok-add_flaw.ensures,
    )

pub loop-preserved : goal.loop-preserved
loop-preserved g c = record {
  sound = c.in_ok-mark.ensures.sound;
  left = λ marks left.
      let kept = c.loop.invariant.left marks left in
      let next = rw c.in-Some.is at (c.in_ok-mark.ensures.reads kept.0 kept.1) in
      let mark = c.in-Some.mark in (
        next.0,
        next.1,
        kept.2 ∙ ap lines_of next.2 ∙ lines-on mark next.0 c.if-mark.false,
        kept.3 ∙ ap (λ ms. c.loop.flaws.items ++ flaws_of ms) next.2 ∙ flaws-more mark next.0 c.loop.flaws.items c.add_flaw.new.flaws.items c.in_ok-add_flaw.ensures,
      );
}
