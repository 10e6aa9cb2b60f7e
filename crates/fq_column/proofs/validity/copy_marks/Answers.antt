use Rattle.std.proofs.Common.{◌≡◌, ◌<◌, ◌+◌, ◌∙◌, ℕ, ap, arith, inl, inr, sym}
use Rattle.std.proofs.lemmas.Bool.{cases_eq, cases_lt}
use Rattle.fq_column.specs.Validity.{mark_at}
use Rattle.fq_column.proofs.ValidityLemmas.{marks-append, written-elsewhere, written-here}
use Rattle.fq_column.proofs.validity.copy_marks.Goals as goal

below : (j i : ℕ) → j < i + 1 → (j ≡ i → ⊥) → j < i
below j i l apart =
    elim (cases_lt j i) [
      | inl less ↦ less
      | inr e ↦ absurd (apart (omega (arith, l, e)))
    ]

pub loop-i-preserved : goal.loop-i-preserved
loop-i-preserved c =
    let old = c.loop-i.words.items in
    let new = c.write_mark.new.words.items in
    let others = c.args.others.now.items in
    let len = c.args.len in
    let i = c.loop-i.i in
    let mark = c.read_mark-mark.result in
    let inv = c.loop-i.invariant in
    let written = c.write_mark.ensures.marks in (
      c.write_mark.ensures.length ∙ inv.0,
      λ j l. written-elsewhere old new (len + i) j mark written (λ e. omega (arith, e, l)) ∙ inv.1 j l,
      λ j l. elim (cases_eq j i) [
        | inl e ↦ ap (λ k. mark_at new (len + k)) e ∙ written-here old new (len + i) mark written ∙ c.read_mark-mark.ensures ∙ ap (mark_at others) (sym e)
        | inr apart ↦ written-elsewhere old new (len + i) (len + j) mark written (λ e. apart (omega (arith, e))) ∙ inv.2 j (below j i l apart)
      ],
    )

pub returns : goal.returns
returns c =
    marks-append c.args.words.now.items c.args.others.now.items c.loop-i.words.items c.args.len c.args.count c.loop-i.invariant.1
    (λ j l. c.loop-i.invariant.2 j (omega (arith, l, c.loop-i-test.false)))
