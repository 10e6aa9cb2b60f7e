use Rattle.std.proofs.Common.{◌≡◌, ◌<◌, ◌≤◌, ◌⊎◌, ◌*◌, ◌+◌, ◌/◌, ◌∙◌, ◌++◌, ℕ, List, Result, Ok, Err, OnErr, ap, arith, get_or, inl, inr, length, refl, rules, sym, take}
use Rattle.std.proofs.lemmas.Bool.{cases_lt, eqb-true}
use Rattle.fq_column.specs.Validity.{marks}
use Rattle.fq_column.proofs.ValidityLemmas.{all-bits, mark-resized, marks-behind, marks-joined, same-marks}
use Rattle.fq_column.proofs.validity.Validity.append.Goals.{then-self-eq0+in_ok-resize+in_ok-extend_from_slice, else-self-eq0+in_ok-resize-2}
use Rattle.fq_column.proofs.validity.Validity.append.Goals as goal

on-err : {T E : Type 0} (r : Result T E) (P : Type 0) → P → OnErr r P
on-err (Ok x) P p = search rules
on-err (Err e) P p = p

-- the first n marks of words that were cut or filled up to k, if they lie in k words
resized : (old new : List ℕ) (n k : ℕ) → length new ≡ k → n ≤ k * 64 → ((q d : ℕ) → q < k → q < length old → get_or new q d ≡ get_or old q d)
    → ((q d : ℕ) → length old ≤ q → q < k → get_or new q d ≡ all-bits) → marks new n ≡ marks old n
resized old new n k size room same filled = same-marks old new n (λ i l. mark-resized old new k size same filled i (inl (omega (arith, l, room))))

pub returns-then-len-self-clause-ok : goal.returns-then-len-self-clause-ok
returns-then-len-self-clause-ok c =
    let words = c.self.inside.words in
    let others = c.other.inside.words in
    let n = c.self.inside.len in
    let m = c.other.inside.len in
    let behind : length words.items ≤ n / 64 = omega (arith, c.if-len-self.true, c.len.ensures, words.ok.0) in
    let none : length others.items ≡ 0 = let e = eqb-true _ 0 (sym c.is_empty.ensures ∙ c.if-is_empty.true) in omega (arith, e, others.ok.0) in
    ap (marks words.items) c.in-Some.ensures.1 ∙ marks-behind words.items others.items n m behind none
    ∙ ap (λ ms. ms ++ marks others.items m) c.self.view_is ∙ ap (λ ms. c.args.self.now ++ ms) c.other.view_is

pub returns-in_err-extend_from_slice-clause-err : goal.returns-in_err-extend_from_slice-clause-err
returns-in_err-extend_from_slice-clause-err c =
    let words = c.self.inside.words in
    let n = c.self.inside.len in
    let new = c.resize.new.self in
    let r = c.in_ok-resize.ensures in
    let kept = resized words.items new.items n (n / 64) (omega (arith, r.len, new.ok.0)) (omega (arith, c.if-self-eq0.true))
    (λ q d l o. r.by_index.0 q d l (omega (arith, o, words.ok.0))) (λ q d o l. r.by_index.1 q d refl (omega (arith, o, words.ok.0)) l) in
    on-err c.from_residual-in_err-extend_from_slice.result _ (ap (λ ws. marks ws n) c.in_err-extend_from_slice.ensures.items ∙ kept ∙ c.self.view_is)

pub returns-clause-ok : goal.returns-clause-ok
returns-clause-ok c =
    let words = c.self.inside.words in
    let others = c.other.inside.words in
    let n = c.self.inside.len in
    let m = c.other.inside.len in
    let whole = c.in-Some.ensures.1 in
    elim c.if-self-eq0.branch [
      | then-self-eq0+in_ok-resize+in_ok-extend_from_slice w ↦
          let new = w.resize.new.self in
          let r = w.in_ok-resize.ensures in
          let size : length new.items ≡ n / 64 = omega (arith, r.len, new.ok.0) in
          let kept = resized words.items new.items n (n / 64) size (omega (arith, w.if-self-eq0.true))
          (λ q d l o. r.by_index.0 q d l (omega (arith, o, words.ok.0))) (λ q d o l. r.by_index.1 q d refl (omega (arith, o, words.ok.0)) l) in
          let k = w.min-count.result in
          let least = w.min-count.ensures in
          let count = w.len-then-self-eq0.ensures in
          let few : k ≤ length others.items = omega (arith, least, count, others.ok.0) in
          let all : (m ≤ k * 64) ⊎ (length others.items ≤ k) = elim (cases_lt w.div_ceil.result (length others.items)) [
            | inl l ↦ inl (omega (arith, least, count, others.ok.0, l, w.div_ceil.ensures))
            | inr l ↦ inr (omega (arith, least, count, others.ok.0, l))
          ] in
          let items = w.in_ok-extend_from_slice.ensures.items ∙ ap (λ os. new.items ++ take k os) w.as_slice.ensures.value in
          ap (λ v. marks v.words.items c.in-Some.len) w.self-inside-is ∙ ap (marks w.extend_from_slice.new.self.items) whole ∙ ap (λ ws. marks ws (n + m)) items
          ∙ marks-joined new.items others.items n m k (omega (arith, size, w.if-self-eq0.true)) few all
          ∙ ap (λ ms. ms ++ marks others.items m) (kept ∙ c.self.view_is) ∙ ap (λ ms. c.args.self.now ++ ms) c.other.view_is
      | else-self-eq0+in_ok-resize-2 w ↦
          let new = w.resize-else-self-eq0.new.self in
          let r = w.in_ok-resize-2.ensures in
          let k = w.div_ceil-else-self-eq0.result in
          let kept = resized words.items new.items n k (omega (arith, r.len, new.ok.0)) (omega (arith, w.div_ceil-else-self-eq0.ensures, whole))
          (λ q d l o. r.by_index.0 q d l (omega (arith, o, words.ok.0))) (λ q d o l. r.by_index.1 q d refl (omega (arith, o, words.ok.0)) l) in
          ap (λ v. marks v.words.items c.in-Some.len) w.self-inside-is ∙ ap (marks w.copy_marks.new.words.items) whole ∙ w.copy_marks.ensures
          ∙ ap (λ ms. ms ++ marks others.items m) (kept ∙ c.self.view_is) ∙ ap (λ ms. c.args.self.now ++ ms) c.other.view_is
    ]
