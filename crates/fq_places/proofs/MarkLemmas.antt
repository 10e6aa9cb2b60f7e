-- The marks of a file, one byte after another.
use Rattle.std.proofs.Common.{◌≡◌, ◌∙◌, ◌∷◌, ◌++◌, append_assoc, [], ℕ, ◌-◌, ◌<◌, arith, suc, zero, List, Option, Some, None, ap, false, true, inl, inr, refl, sym, if◌then◌else◌}
use Rattle.std.specs.Prelude.{MatchOption, is_some, slice_get}
use Rattle.std.proofs.lemmas.Bool.{cases_Bool}
use Rattle.csv.specs.Machine.{step}
use Rattle.csv.specs.Reading.{default_config}
use Rattle.csv.specs.declared.parser.State.{State}
use Rattle.csv.specs.declared.parser.State.TheVariants as st
use Rattle.fq_places.specs.Lines.{begins, line_after}
use Rattle.fq_places.specs.Marks.{flaw_at, mark_at, mark_at_end, marks_from, with_mark}
use Rattle.fq_places.specs.Places.{opens}
use Rattle.fq_places.specs.Records.{flaws_of, lines_of}
use Rattle.fq_places.specs.declared.marks.Mark.{Mark}

pub marks-step : (s : State) (line quote c : ℕ) (cs : List ℕ) → marks_from s line quote (c ∷ cs)
    ≡ with_mark (mark_at s line c) (marks_from (step default_config s c).0 (line_after line c) (if opens s c then line else quote) cs)
unfolding marks_from
marks-step s line quote c cs = refl

pub no-marks : (line quote : ℕ) → marks_from st.StartRecord line quote [] ≡ []
unfolding marks_from
no-marks line quote = refl

-- the marks that are left where a file ends
pub marks-at-end : (s : State) (line quote : ℕ) (mark : Option Mark) (marks rest : List Mark) → mark ≡ mark_at_end s line quote → marks ≡ marks_from s line quote [] → rest ≡ []
    → MatchOption mark ((marks ≡ []) × (rest ≡ [])) (λ m. marks ≡ m ∷ rest)
unfolding marks_from
marks-at-end s line quote None marks rest e m none = (m ∙ ap (λ o. with_mark o []) (sym e), none)
marks-at-end s line quote (Some mark) marks rest e m none = m ∙ ap (λ o. with_mark o []) (sym e) ∙ ap (λ r. mark ∷ r) (sym none)

-- ---- the lines of marks

module _ (mark : Mark) (rest : List Mark) where
  -- the first record begins here
  pub line-here : (n : ℕ) → mark.begins ≡ true → n ≡ 0 → slice_get (lines_of (mark ∷ rest)) n ≡ Some mark.line
  line-here n e z = rw (e, z) refl

  -- another record begins here
  pub line-later : (n : ℕ) → mark.begins ≡ true → 0 < n → slice_get (lines_of (mark ∷ rest)) n ≡ slice_get (lines_of rest) (n - 1)
  line-later zero e b = absurd (omega (arith, b))
  line-later (suc n) e b = rw e (ap (λ m. slice_get (lines_of rest) m) (let p : n ≡ suc n - 1 = omega arith in p))

  -- none does
  pub lines-on : mark.begins ≡ false → lines_of (mark ∷ rest) ≡ lines_of rest
  lines-on e = rw e refl

  pub lines-more : mark.begins ≡ true → lines_of (mark ∷ rest) ≡ mark.line ∷ lines_of rest
  lines-more e = rw e refl

lines-mark : (s : State) (line c : ℕ) (marks : List Mark) → lines_of (with_mark (mark_at s line c) marks) ≡ (if begins s c then line ∷ lines_of marks else lines_of marks)
lines-mark s line c marks = elim (cases_Bool (begins s c)) [
  | inl e ↦ rw e refl
  | inr e ↦ elim (cases_Bool (is_some (flaw_at s c))) [ inl f ↦ rw (e, f) refl | inr f ↦ rw (e, f) refl ]
]

pub lines-step : (s : State) (line quote c : ℕ) (cs : List ℕ) → lines_of (marks_from s line quote (c ∷ cs))
    ≡ (if begins s c then line ∷ lines_of (marks_from (step default_config s c).0 (line_after line c) (if opens s c then line else quote) cs)
    else lines_of (marks_from (step default_config s c).0 (line_after line c) (if opens s c then line else quote) cs))
lines-step s line quote c cs =
    ap lines_of (marks-step s line quote c cs) ∙ lines-mark s line c (marks_from (step default_config s c).0 (line_after line c) (if opens s c then line else quote) cs)

pub lines-at-end : (s : State) (line quote : ℕ) → lines_of (marks_from s line quote []) ≡ []
unfolding marks_from
lines-at-end st.StartRecord line quote = refl
lines-at-end st.StartField line quote = refl
lines-at-end st.InField line quote = refl
lines-at-end st.InQuoted line quote = refl
lines-at-end st.AfterQuote line quote = refl
lines-at-end st.InEscape line quote = refl
lines-at-end st.InComment line quote = refl
lines-at-end st.AfterCr line quote = refl

-- ---- the flaws of marks

pub flaws-more : (mark : Mark) (rest old new : List Mark) → new ≡ (if is_some mark.flaw then old ++ mark ∷ [] else old) → old ++ flaws_of (mark ∷ rest) ≡ new ++ flaws_of rest
flaws-more mark rest old new e = elim (cases_Bool (is_some mark.flaw)) [
  | inl t ↦ let same : new ≡ old ++ mark ∷ [] = rw t at e in rw (t, same) (sym (append_assoc old (mark ∷ []) (flaws_of rest)))
  | inr f ↦ let same : new ≡ old = rw f at e in rw (f, same) refl
]
