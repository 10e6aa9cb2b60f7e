use Rattle.std.proofs.Common.{◌≡◌, ◌∙◌, ◌++◌, ◌∷◌, [], ap, arith, cond, length, sym, take}
use Rattle.std.proofs.lemmas.List.{append-nil, take_all}
use Rattle.fq_column.specs.Lists.{keep}
use Rattle.fq_column.specs.Validity.{mark_at, marks}
use Rattle.fq_column.proofs.ValidityLemmas.{kept-more, mark-behind, marks-push, written-elsewhere}
use Rattle.fq_column.proofs.validity.compact_marks.Goals.{then-mask-i, else-mask-i}
use Rattle.fq_column.proofs.validity.compact_marks.Goals as goal

pub write_mark-requires : goal.write_mark-requires
write_mark-requires c = λ l. c.read_mark-mark.ensures ∙ mark-behind c.loop-i.words.items c.loop-i.i (omega (arith, l, c.loop-i.invariant.0))

pub loop-i-preserved : goal.loop-i-preserved
loop-i-preserved c =
    let first = c.args.words.now.items in
    let mask = c.args.mask.now in
    let old = c.loop-i.words.items in
    let i = c.loop-i.i in
    let k = c.loop-i.count in
    let inv = c.loop-i.invariant in
    let more = kept-more mask first i c.loop-i-test.true in
    elim c.if-mask-i.branch [
      | then-mask-i w ↦
          let new = w.write_mark.new.words.items in
          let mark = w.read_mark-mark.result in
          let same : mark ≡ mark_at first i = w.read_mark-mark.ensures ∙ inv.3 i (omega arith) in
          rw (w.words-is, w.count-is) (
            omega (arith, inv.0),
            w.write_mark.ensures.length ∙ inv.1,
            marks-push old new k mark w.write_mark.ensures.marks ∙ ap (λ ms. ms ++ mark ∷ []) inv.2 ∙ ap (λ m. keep (take i mask) (marks first i) ++ m ∷ []) same
                ∙ sym (more ∙ ap (λ b. keep (take i mask) (marks first i) ++ cond b (mark_at first i ∷ []) []) w.if-mask-i.true),
            λ j l. written-elsewhere old new k j mark w.write_mark.ensures.marks (λ e. omega (arith, e, l, inv.0)) ∙ inv.3 j (omega (arith, l)),
          )
      | else-mask-i w ↦
          rw (w.words-is, w.count-is) (
            omega (arith, inv.0),
            inv.1,
            inv.2 ∙ sym (more ∙ ap (λ b. keep (take i mask) (marks first i) ++ cond b (mark_at first i ∷ []) []) w.if-mask-i.false ∙ append-nil (keep (take i mask) (marks first i))),
            λ j l. inv.3 j (omega (arith, l)),
          )
    ]

pub returns : goal.returns
returns c =
    let first = c.args.words.now.items in
    let mask = c.args.mask.now in
    let end : c.loop-i.i ≡ length mask = omega (arith, c.loop-i-test.false, c.loop-i.auto.i-end) in
    c.loop-i.invariant.2 ∙ ap (λ i. keep (take i mask) (marks first i)) end ∙ ap (λ ms. keep ms (marks first (length mask))) (take_all (length mask) mask (omega arith))
