use Rattle.std.proofs.Common.{◌≡◌, ◌∙◌, ap, false, refl, sym, true}
use Rattle.std.specs.List.{list_any}
use Rattle.fq_places.specs.Marks.{marks_of}
use Rattle.fq_places.specs.Records.{is_open_quote}
use Rattle.fq_places.specs.declared.marks.Mark.{Mark}
use Rattle.fq_places.proofs.lines.ends_in_quotes.Goals as goal

pub loop-init : goal.loop-init
loop-init g c = record {
  sound = c.in_ok-marks.ensures.sound;
  left = λ bytes known. (marks_of bytes, c.in_ok-marks.ensures.left bytes known, refl);
}

pub returns-in_default : goal.returns-in_default
returns-in_default g c bytes known =
    let kept = c.loop.invariant.left bytes known in
    let next = rw c.in_default.is at (c.in_ok-mark.ensures.reads kept.0 kept.1) in
    sym (kept.2 ∙ ap (list_any (λ (mark : Mark). is_open_quote mark.flaw)) next.2.0)

pub returns-then-is_open_quote : goal.returns-then-is_open_quote
returns-then-is_open_quote g c bytes known =
    let kept = c.loop.invariant.left bytes known in
    let next = rw c.in-Some.is at (c.in_ok-mark.ensures.reads kept.0 kept.1) in
    let opened : is_open_quote c.in-Some.mark.flaw ≡ true = sym c.if-is_open_quote.ensures in
    sym (kept.2 ∙ ap (list_any (λ (mark : Mark). is_open_quote mark.flaw)) next.2 ∙ rw opened refl)

pub loop-preserved : goal.loop-preserved
loop-preserved g c = record {
  sound = c.in_ok-mark.ensures.sound;
  left = λ bytes known.
      let kept = c.loop.invariant.left bytes known in
      let next = rw c.in-Some.is at (c.in_ok-mark.ensures.reads kept.0 kept.1) in
      let closed : is_open_quote c.in-Some.mark.flaw ≡ false = sym c.if-is_open_quote.ensures in
      (next.0, next.1, kept.2 ∙ ap (list_any (λ (mark : Mark). is_open_quote mark.flaw)) next.2 ∙ rw closed refl);
}
