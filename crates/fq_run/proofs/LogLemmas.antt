-- The log of a run lists the files before those of the main source first, so the tail that takes it stands for the sources that take it.
use Rattle.std.proofs.Common.{◌≡◌, ℕ, suc, ◌+◌, ◌-◌, ◌<◌, ◌≤◌, Bool, true, false, nat_lt, cond, List, [], ◌∷◌, ◌++◌, length, sum_by, Some, None, refl, ap, sym, ◌∙◌, subst, arith, inl, inr}
use Rattle.std.specs.Prelude.{◌⊎◌}
use Rattle.std.proofs.lemmas.Bool.Decides.{nat_tests}
use Rattle.std.proofs.lemmas.List.Sums.{sum_by-cons}
use Rattle.fq_column.specs.Frame.{Fields, Row}
use Rattle.fq_lanes.specs.Engine.{IsWorked}
use Rattle.fq_lanes.specs.Beside.{Each}
use Rattle.fq_lanes.specs.Numbering.{numbered, numbered_file}
use Rattle.fq_lanes.specs.TailTaking.{Took}
use Rattle.fq_run.specs.Gathering.{gathered, taken_in}
use Rattle.fq_run.specs.Kept.{Takes}
use Rattle.fq_run.specs.Stages.{Fit}
use Rattle.fq_run.specs.Standing.{FitOver, Stands, TailTakes, Waits}
use Rattle.fq_run.specs.declared.gathering.SideSource.{SideSource}
use Rattle.fq_run.specs.TailState.{TailState}
use Rattle.fq_run.specs.declared.stages.Stage.{Stage}
use Rattle.fq_run.specs.declared.leading_steps.Worked.{Worked}
use Rattle.fq_run.proofs.EngineLemmas.{answers_in}
use Rattle.fq_run.proofs.GatheringLemmas.{all_taken}
use Rattle.fq_run.proofs.KeptSourceLemmas.{columns-taken}

-- ---- files by their place

module _ {A : Type 0} (low high : ℕ) where
  -- all are files from the one number to before the other
  abbrev pub AllFrom : List (ℕ × ℕ × A) → Type 0
  AllFrom [] = Unit {0}
  AllFrom (e ∷ es) = (low ≤ e.0) × (e.0 < high) × AllFrom es

  -- files below the one number, and then only files from there to before the other
  abbrev pub InOrder : List (ℕ × ℕ × A) → Type 0
  InOrder [] = Unit {0}
  InOrder (e ∷ es) = ((e.0 < low) × InOrder es) ⊎ AllFrom (e ∷ es)

  file-from : (k s : ℕ) (xs : List A) (es : List (ℕ × ℕ × A)) → low ≤ k → k < high → AllFrom es → AllFrom (numbered_file k s xs ++ es)
  file-from k s [] es l h all = all
  file-from k s (x ∷ xs) es l h all = (l, h, file-from k (suc s) xs es l h all)

  all-from : (k : ℕ) (items : List (List A)) → low ≤ k → k + length items ≤ high → AllFrom (numbered k items)
  all-from k [] l h = tt
  all-from k (xs ∷ items) l h = file-from k 0 xs (numbered (suc k) items) l (omega (arith, h)) (all-from (suc k) items (omega (arith, l)) (omega (arith, h)))

  file-below : (k s : ℕ) (xs : List A) (es : List (ℕ × ℕ × A)) → k < low → InOrder es → InOrder (numbered_file k s xs ++ es)
  file-below k s [] es l order = order
  file-below k s (x ∷ xs) es l order = inl (l, file-below k (suc s) xs es l order)

  from-order : (es : List (ℕ × ℕ × A)) → AllFrom es → InOrder es
  from-order [] all = tt
  from-order (e ∷ es) all = inr all

  pub in-order : (k : ℕ) (items : List (List A)) → k + length items ≤ high → InOrder (numbered k items)
  in-order k [] h = tt
  in-order k (xs ∷ items) h = go (in-order (suc k) items (omega (arith, h))) (nat_lt k low) refl
    where
      go : InOrder (numbered (suc k) items) → (b : Bool) → nat_lt k low ≡ b → InOrder (numbered k (xs ∷ items))
      go rest true e = file-below k 0 xs (numbered (suc k) items) (grind (arith, nat_tests, e)) rest
      go rest false e = from-order (numbered k (xs ∷ items)) (all-from k (xs ∷ items) (grind (arith, nat_tests, e)) h)

module _ {X O : Type 0} (low high : ℕ) (works : ℕ → X → O → Type 0) where
  worked-from : (es : List (ℕ × ℕ × X)) (log : List (ℕ × ℕ × O)) → Each (IsWorked works) es log → AllFrom low high es → AllFrom low high log
  worked-from [] [] h all = tt
  worked-from [] (r ∷ rs) h all = absurd h
  worked-from (e ∷ es) [] h all = absurd h
  worked-from (e ∷ es) (r ∷ rs) h all = (
    subst (λ n. low ≤ n) (sym h.0.0) all.0,
    subst (λ n. n < high) (sym h.0.0) all.1,
    worked-from es rs h.1 all.2,
  )

  pub worked-order : (es : List (ℕ × ℕ × X)) (log : List (ℕ × ℕ × O)) → Each (IsWorked works) es log → InOrder low high es → InOrder low high log
  worked-order [] [] h order = tt
  worked-order [] (r ∷ rs) h order = absurd h
  worked-order (e ∷ es) [] h order = absurd h
  worked-order (e ∷ es) (r ∷ rs) h (inl both) = inl (subst (λ n. n < low) (sym h.0.0) both.0, worked-order es rs h.1 both.1)
  worked-order (e ∷ es) (r ∷ rs) h (inr all) = inr (worked-from (e ∷ es) (r ∷ rs) h all)

-- ---- an item of the sources before the last, and one of the last

abbrev pub file_count : List SideSource → ℕ
file_count gs = sum_by (λ (g : SideSource). g.files) gs

taken-before : (file : ℕ) (out : Worked) (sides : List SideSource) (main : SideSource) → file < file_count sides → taken_in file out (sides ++ main ∷ []) ≡ taken_in file out sides ++ main ∷ []
taken-before file out [] main h = absurd (omega (arith, h))
taken-before file out (g ∷ gs) main h = go (taken-before (file - g.files) out gs main) (nat_lt file g.files) refl
  where
    go : (file - g.files < file_count gs → taken_in (file - g.files) out (gs ++ main ∷ []) ≡ taken_in (file - g.files) out gs ++ main ∷ []) → (b : Bool) → nat_lt file g.files ≡ b → cond b (gathered g out ∷ gs ++ main ∷ []) (g ∷ taken_in (file - g.files) out (gs ++ main ∷ [])) ≡ cond b (gathered g out ∷ gs) (g ∷ taken_in (file - g.files) out gs) ++ main ∷ []
    go more true e = refl
    go more false e = ap (λ xs. g ∷ xs) (more (grind (arith, nat_tests, e, h, sum_by-cons (λ (g : SideSource). g.files) g gs)))

taken-last : (file : ℕ) (out : Worked) (sides : List SideSource) (main : SideSource) → file_count sides ≤ file → file < file_count sides + main.files →
    taken_in file out (sides ++ main ∷ []) ≡ sides ++ gathered main out ∷ []
taken-last file out [] main l h =
    let e : nat_lt file main.files ≡ true = grind (arith, nat_tests, h) in
    ap (λ b. cond b (gathered main out ∷ []) (main ∷ [])) e
taken-last file out (g ∷ gs) main l h =
    let e : nat_lt file g.files ≡ false = grind (arith, nat_tests, l, sum_by-cons (λ (g : SideSource). g.files) g gs) in
    ap (λ b. cond b (gathered g out ∷ gs ++ main ∷ []) (g ∷ taken_in (file - g.files) out (gs ++ main ∷ []))) e
    ∙ ap (λ xs. g ∷ xs) (taken-last (file - g.files) out gs main (omega (arith, l, sum_by-cons (λ (g : SideSource). g.files) g gs)) (omega (arith, l, h, sum_by-cons (λ (g : SideSource). g.files) g gs)))

count-taken : (file : ℕ) (out : Worked) (gs : List SideSource) → file_count (taken_in file out gs) ≡ file_count gs
count-taken file out [] = refl
count-taken file out (g ∷ gs) = go (count-taken (file - g.files) out gs) (nat_lt file g.files)
  where
    go : file_count (taken_in (file - g.files) out gs) ≡ file_count gs → (b : Bool) → file_count (cond b (gathered g out ∷ gs) (g ∷ taken_in (file - g.files) out gs)) ≡ file_count (g ∷ gs)
    go more true = sum_by-cons (λ (g : SideSource). g.files) (gathered g out) gs ∙ sym (sum_by-cons (λ (g : SideSource). g.files) g gs)
    go more false = sum_by-cons (λ (g : SideSource). g.files) g (taken_in (file - g.files) out gs) ∙ ap (λ n. g.files + n) more ∙ sym (sum_by-cons (λ (g : SideSource). g.files) g gs)

-- ---- the log, item by item

pub took-sources : (log : List (ℕ × ℕ × Worked)) (gs : List SideSource) → Took Takes gs log (all_taken (answers_in log) gs)
took-sources [] gs = refl
took-sources (e ∷ es) gs = (taken_in e.0 e.2 gs, refl, took-sources es (taken_in e.0 e.2 gs))

-- what is taken in one way is taken in each that follows from it
pub took-weaker : {S O : Type 0} (P Q : S → ℕ → ℕ → O → S → Type 0) → ((old : S) (file serial : ℕ) (out : O) (new : S) → P old file serial out new → Q old file serial out new) →
    (log : List (ℕ × ℕ × O)) (t u : S) → Took P t log u → Took Q t log u
took-weaker P Q weaker [] t u took = took
took-weaker P Q weaker (e ∷ es) t u took = (took.0, weaker t e.0 e.1 e.2 took.0 took.1, took-weaker P Q weaker es took.0 u took.2)

-- below, `has` says which rows a tail's sink has taken
module _ {S : Type 0} (has : S → Fields → List Row → Type 0) (stages : List Stage) (after : Fields) where
  -- a tail stands for these sources
  pub record StandsFor (t : TailState S) (gs : List SideSource) : Type 0 where
    pub sides : List SideSource
    pub main : SideSource
    pub sources : gs ≡ sides ++ main ∷ []
    pub fits : FitOver stages after sides main
    pub stands : Stands has stages after sides main t

  waits-stands : (sides : List SideSource) (main : SideSource) (t : TailState S) → Waits has stages after sides main t → Stands has stages after sides main t
  waits-stands sides main t h = record {
    settled = λ f e. absurd (let z : None ≡ Some f = sym h.going ∙ e in cc);
    waiting = λ _ _. h.is;
    streaming = λ p e. absurd (let z : None ≡ Some p = sym h.closed ∙ e in cc);
  }

  abbrev pub Takes-one : TailState S → ℕ → ℕ → Worked → TailState S → Type 0
  Takes-one old file serial out new = TailTakes has old file out new

  main-log : (high : ℕ) (log : List (ℕ × ℕ × Worked)) (t u : TailState S) (sides : List SideSource) (main : SideSource) → Took Takes-one t log u → AllFrom t.side_files high log →
      t.side_files ≡ file_count sides → high ≡ file_count sides + main.files → FitOver stages after sides main → Stands has stages after sides main t →
      StandsFor u (all_taken (answers_in log) (sides ++ main ∷ []))
  main-log high [] t u sides main took all low top leads stands = record {
    sides = sides;
    main = main;
    sources = refl;
    fits = leads;
    stands = subst (λ (t : TailState S). Stands has stages after sides main t) (sym took) stands;
  }
  main-log high (e ∷ es) t u sides main took all low top leads stands =
      let next : TailState S = took.0 in
      let one : Takes-one t e.0 e.1 e.2 next = took.1 in
      subst (λ (gs : List SideSource). StandsFor u (all_taken (answers_in es) gs)) (sym (taken-last e.0 e.2 sides main (subst (λ k. k ≤ e.0) low all.0) (subst (λ k. e.0 < k) top all.1)))
      (main-log high es next u sides (gathered main e.2) took.2 (subst (λ k. AllFrom k high es) (sym one.same) all.2) (one.same ∙ low) top leads
      (one.on_main all.0 stages after sides main leads stands))

  pub whole-log : (high : ℕ) (log : List (ℕ × ℕ × Worked)) (t u : TailState S) (sides : List SideSource) (main : SideSource) → Took Takes-one t log u → InOrder t.side_files high log →
      t.side_files ≡ file_count sides → high ≡ file_count sides + main.files → FitOver stages after sides main → Waits has stages after sides main t →
      StandsFor u (all_taken (answers_in log) (sides ++ main ∷ []))
  whole-log high [] t u sides main took order low top leads waits = main-log high [] t u sides main took tt low top leads (waits-stands sides main t waits)
  whole-log high (e ∷ es) t u sides main took (inr all) low top leads waits = main-log high (e ∷ es) t u sides main took all low top leads (waits-stands sides main t waits)
  whole-log high (e ∷ es) t u sides main took (inl both) low top leads waits =
      let next : TailState S = took.0 in
      let one : Takes-one t e.0 e.1 e.2 next = took.1 in
      let count : file_count (taken_in e.0 e.2 sides) ≡ file_count sides = count-taken e.0 e.2 sides in
      subst (λ (gs : List SideSource). StandsFor u (all_taken (answers_in es) gs)) (sym (taken-before e.0 e.2 sides main (subst (λ k. e.0 < k) low both.0)))
      (whole-log high es next u (taken_in e.0 e.2 sides) main took.2 (subst (λ k. InOrder k high es) (sym one.same) both.1) (one.same ∙ low ∙ sym count) (top ∙ ap (λ k. k + main.files) (sym count))
      (subst (λ (fs : List Fields). Fit fs main.batch.fields stages after) (sym (columns-taken e.0 e.2 sides)) leads) (one.before_main both.0 stages after sides main waits))
