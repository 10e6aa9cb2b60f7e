use Rattle.std.proofs.Common.{◌≡◌, ◌∙◌, ◌++◌, ◌∷◌, ◌+◌, [], ap, arith, drop, length, refl, sym}
use Rattle.std.proofs.lemmas.List.{drop-drop, length-drop}
use Rattle.std.specs.Io.BufRead.{drop_through, take_through}
use Rattle.fq_places.specs.Marks.{marks_from}
use Rattle.fq_places.specs.Places.{state_of}
use Rattle.fq_places.proofs.LineLemmas.{line-and-rest, line-left}
use Rattle.fq_places.proofs.MarkLemmas.{marks-at-end, no-marks}
use Rattle.fq_places.proofs.marks.Marks.next.Goals as goal

pub overflow_add-self : goal.overflow_add-self
overflow_add-self g c =
    let here = c.loop.self in
    let found = rw (line-left c.deref.result.now here.bytes.items here.passed c.deref.ensures.value) at (rw c.in-Some.is at c.in_ok-mark.ensures) in
    omega (arith, (found []).1, length-drop here.passed here.bytes.items, c.loop.invariant.sound, c.deref.ensures.len, ap length c.deref.ensures.value, c.deref.type_inv)

pub returns-in-Some-clause-sound : goal.returns-in-Some-clause-sound
returns-in-Some-clause-sound g c =
    let here = c.loop.self in
    let found = rw (line-left c.deref.result.now here.bytes.items here.passed c.deref.ensures.value) at (rw c.in-Some.is at c.in_ok-mark.ensures) in
    omega (arith, (found []).1, length-drop here.passed here.bytes.items, c.loop.invariant.sound)

pub returns-in-Some-clause-reads : goal.returns-in-Some-clause-reads
returns-in-Some-clause-reads g c marks left =
    let here = c.loop.self in
    let stand = c.pass_all.new.self in
    let found = rw (line-left c.deref.result.now here.bytes.items here.passed c.deref.ensures.value) at (rw c.in-Some.is at c.in_ok-mark.ensures) in
    let kept = c.loop.invariant.left marks left in (
      marks_from (state_of stand.place) stand.line stand.quote (drop (here.passed + c.in-Some.count) here.bytes.items ++ kept.0),
      (kept.0, kept.1, refl),
      kept.2 ∙ (found kept.0).0 ∙ ap (λ xs. c.in-Some.mark ∷ marks_from (state_of stand.place) stand.line stand.quote (xs ++ kept.0)) (drop-drop c.in-Some.count here.passed here.bytes.items),
    )

pub returns-then-branch-eq0-clause-reads : goal.returns-then-branch-eq0-clause-reads
returns-then-branch-eq0-clause-reads g c marks left =
    let here = c.loop.self in
    let stand = c.pass_all.new.self in
    let passed = rw (line-left c.deref.result.now here.bytes.items here.passed c.deref.ensures.value) at (rw c.in_default.is at c.in_ok-mark.ensures) in
    let read = c.in_ok-read_until.ensures in
    let kept = c.loop.invariant.left marks left in
    let none : kept.0 ≡ [] = rw kept.1 at (read.end c.if-branch-eq0.true) in
    let line : c.read_until.new.buf.items ≡ [] = rw (kept.1, c.clear.ensures.items, none) at read.bytes in
    let over = rw (kept.1, none) at read.rest in (
      [],
      ([], over, rw line (sym (no-marks stand.line stand.quote))),
      marks-at-end (state_of stand.place) stand.line stand.quote c.mark_at_end-mark.result marks [] c.mark_at_end-mark.ensures
          (kept.2 ∙ passed kept.0 ∙ ap (marks_from (state_of stand.place) stand.line stand.quote) none) refl,
    )

pub loop-preserved : goal.loop-preserved
loop-preserved g c =
    let here = c.loop.self in
    let stand = c.pass_all.new.self in
    let passed = rw (line-left c.deref.result.now here.bytes.items here.passed c.deref.ensures.value) at (rw c.in_default.is at c.in_ok-mark.ensures) in
    let read = c.in_ok-read_until.ensures in
    record {
      sound = omega arith;
      left = λ marks left.
          let kept = c.loop.invariant.left marks left in
          let line : c.read_until.new.buf.items ≡ take_through 10 kept.0 = rw (kept.1, c.clear.ensures.items) at read.bytes in (
            drop_through 10 kept.0,
            rw kept.1 at read.rest,
            kept.2 ∙ passed kept.0 ∙ ap (marks_from (state_of stand.place) stand.line stand.quote) (sym (line-and-rest kept.0) ∙ ap (λ xs. xs ++ drop_through 10 kept.0) (sym line)),
          );
    }
