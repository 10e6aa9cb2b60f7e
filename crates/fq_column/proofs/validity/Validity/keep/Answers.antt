use Rattle.std.proofs.Common.{◌≡◌, ◌∙◌, ap, arith, length, sym}
use Rattle.std.proofs.lemmas.Bool.{eqb-true}
use Rattle.fq_column.specs.Lists.{keep}
use Rattle.fq_column.specs.Validity.{marks}
use Rattle.fq_column.proofs.ValidityLemmas.{keep-marks-none, length-marks}
use Rattle.fq_column.proofs.validity.Validity.keep.Goals.{then-is_empty, else-is_empty}
use Rattle.fq_column.proofs.validity.Validity.keep.Goals as goal

pub returns : goal.returns
returns c =
    let words = c.self.inside.words in
    let len = c.self.inside.len in
    let mask = c.args.mask.now in
    let all : length mask ≡ len = omega (arith, c.requires, ap length c.self.view_is, length-marks words.items len) in
    let same = ap (λ n. keep mask (marks words.items n)) all ∙ ap (keep mask) c.self.view_is in
    elim c.if-is_empty.branch [
      | then-is_empty w ↦
          let none : length words.items ≡ 0 = let e = eqb-true _ 0 (sym c.is_empty.ensures ∙ w.if-is_empty.true) in omega (arith, e, words.ok.0) in
          ap (λ v. marks v.words.items c.if-is_empty.self) w.self-inside-is ∙ ap (marks words.items) (w.self-is ∙ w.count_marked-self-inside.ensures)
          ∙ keep-marks-none words.items mask none ∙ same
      | else-is_empty w ↦
          ap (λ v. marks v.words.items c.if-is_empty.self) w.self-inside-is ∙ ap (marks w.compact_marks-self-inside.new.words.items) w.self-is
          ∙ w.compact_marks-self-inside.ensures ∙ same
    ]
