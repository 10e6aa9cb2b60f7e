use Rattle.std.proofs.Common.{◌≡◌, ◌++◌, ◌∷◌, [], ◌∙◌, ap, arith, length}
use Rattle.fq_column.specs.Validity.{marks}
use Rattle.fq_column.proofs.ValidityLemmas.{marks-push, same-marks}
use Rattle.fq_column.proofs.validity.Validity.push.Goals.{then-not-mark+in_ok-reach, else-not-mark}
use Rattle.fq_column.proofs.validity.Validity.push.Goals as goal

pub write_mark-requires : goal.write_mark-requires
write_mark-requires c = λ l.
    elim c.if-not-mark.branch [
      | then-not-mark+in_ok-reach w ↦ let is = ap (λ v. length v.words.items) w.self-inside-is in absurd (omega (arith, l, is, w.in_ok-reach.ensures.word))
      | else-not-mark w ↦ w.if-not-mark.false
    ]

pub returns-clause-ok : goal.returns-clause-ok
returns-clause-ok c =
    let words = c.self.inside.words.items in
    let len = c.self.inside.len in
    let now = c.if-not-mark.self-inside.words.items in
    let before : marks now len ≡ marks words len = elim c.if-not-mark.branch [
      | then-not-mark+in_ok-reach w ↦ ap (λ v. marks v.words.items len) w.self-inside-is ∙ same-marks words w.reach.new.words.items len (λ j l. w.reach.ensures.marks j)
      | else-not-mark w ↦ ap (λ v. marks v.words.items len) w.self-inside-is
    ] in
    ap (marks c.write_mark.new.words.items) c.in-Some.ensures.1 ∙ marks-push now c.write_mark.new.words.items len c.args.mark c.write_mark.ensures.marks ∙ ap (λ ms. ms ++ c.args.mark ∷ []) (before ∙ c.self.view_is)
