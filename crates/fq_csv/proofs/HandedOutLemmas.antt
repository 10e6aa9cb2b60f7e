-- A stream's rows in runs, one at a time, and the calls that hand them out.
use Rattle.std.proofs.Common.{◌≡◌, ◌<◌, ◌≤◌, ◌+◌, ◌-◌, ◌*◌, ◌⊎◌, ◌∙◌, inl, inr, ℕ, zero, suc, List, [], ◌∷◌, Option, Some, length, map, take, drop, refl, sym, ap, subst, arith, length-take}
use Rattle.std.specs.List.{range_with_len}
use Rattle.std.specs.Int.{div_ceil}
use Rattle.std.proofs.lemmas.Grind.{div_ceil_times}
use Rattle.std.proofs.lemmas.List.{drop-drop, length-drop}
use Rattle.std.proofs.Math.Nat.{mul-le-mul_left, eq-or-lt_of_le}
use Rattle.fq_column.specs.Frame.{Fields, Row}
use Rattle.fq_column.specs.Lists.{pieces}
use Rattle.fq_column.specs.Stream.{Stream}
use Rattle.fq_csv.proofs.BlockLemmas.{le-or-lt}
use Rattle.fq_csv.specs.HandedOut.{Follows, IsRun, answers, answers_from, framed}
use Rattle.fq_csv.specs.Scan.{IsFailed, IsLastWord, IsNextBatch, Scanning}
use Rattle.fq_csv.specs.Stage.{ended, without}
use Rattle.fq_csv.specs.declared.cells.layouts.Layout.{Layout}
use Rattle.fq_csv.specs.declared.faults.ScanFault.{ScanFault}
use Rattle.fq_csv.specs.declared.scanning.scans.Scan.{Scan}
use Rattle.fq_csv.specs.declared.scanning.scans.Scan.TheVariants.{Batch, End}

-- one run fewer
fewer : (n b q r : ℕ) → 0 < b → 0 < n → n - b ≤ q * b → q * b < (n - b) + b → n ≤ r * b → r * b < n + b → r ≡ suc q
fewer n b zero zero hb hn a c d e = absurd (omega (arith, d, hn))
fewer n b zero (suc zero) hb hn a c d e = refl
fewer n b zero (suc (suc r)) hb hn a c d e = absurd (grind (arith, mul-le-mul_left b (let h : 2 ≤ suc (suc r) = omega arith in h)))
fewer n b (suc q) zero hb hn a c d e = absurd (omega (arith, d, hn))
fewer n b (suc q) (suc r) hb hn a c d e = elim (le-or-lt r q) [
  | inl h ↦ absurd (few h)
  | inr h ↦ elim (eq-or-lt_of_le (let g : suc q ≤ r = omega (arith, h) in g)) [
    | inl same ↦ ap suc (sym same)
    | inr more ↦ absurd (many more)
  ]
]
  where
    few : r ≤ q → ⊥
    few h = let m = mul-le-mul_left b (let g : suc r ≤ suc q = omega (arith, h) in g) in let w = mul-le-mul_left b (let g : 1 ≤ suc q = omega arith in g) in omega (arith, m, w, a, c, d, e, hb, hn)

    many : suc q < r → ⊥
    many h = let m = mul-le-mul_left b (let g : suc (suc (suc q)) ≤ suc r = omega (arith, h) in g) in omega (arith, m, a, c, d, e, hb, hn)

div_ceil-step : (n b : ℕ) → 0 < b → 0 < n → div_ceil n b ≡ suc (div_ceil (n - b) b)
div_ceil-step n b hb hn =
    let p = div_ceil_times (n - b) b hb in
    let q = div_ceil_times n b hb in
    fewer n b (div_ceil (n - b) b) (div_ceil n b) hb hn p.0 p.1 q.0 q.1

module _ {X : Type 0} where
  shifted : (b : ℕ) (xs : List X) (a k : ℕ) → map (λ i. take b (drop (i * b) xs)) (range_with_len (a + 1) k) ≡ map (λ i. take b (drop (i * b) (drop b xs))) (range_with_len a k)
  shifted b xs a zero = refl
  shifted b xs a (suc k) =
      ap (λ ys. ys ∷ map (λ i. take b (drop (i * b) xs)) (range_with_len (a + 1 + 1) k)) (ap (take b) (ap (λ n. drop n xs) (let e : (a + 1) * b ≡ b + a * b = grind arith in e) ∙ sym (drop-drop (a * b) b xs)))
      ∙ ap (λ yss. take b (drop (a * b) (drop b xs)) ∷ yss) (shifted b xs (a + 1) k)

  pub pieces-more : (b : ℕ) (xs : List X) → 0 < b → 0 < length xs → pieces b xs ≡ take b xs ∷ pieces b (drop b xs)
  pieces-more b xs hb hx =
      ap (λ n. map (λ i. take b (drop (i * b) xs)) (range_with_len 0 n)) (div_ceil-step (length xs) b hb hx ∙ ap (λ n. suc (div_ceil n b)) (sym (length-drop b xs)))
      ∙ ap (λ n. take b (drop n xs) ∷ map (λ i. take b (drop (i * b) xs)) (range_with_len 1 (div_ceil (length (drop b xs)) b))) (let e : 0 * b ≡ 0 = grind arith in e)
      ∙ ap (λ yss. take b xs ∷ yss) (shifted b xs 0 (div_ceil (length (drop b xs)) b))

  pub pieces-none : (b : ℕ) → pieces {X = X} b [] ≡ []
  pieces-none b = ap (λ n. map (λ i. take b (drop (i * b) (let none : List X = [] in none))) (range_with_len 0 n)) (let e : div_ceil 0 b ≡ 0 = grind arith in e)

module _ (file size : ℕ) (fields : Fields) where
  pub answers-next : (serial : ℕ) (u : Stream ScanFault) → 0 < size → 0 < length u.rows
      → answers file fields size serial u ≡ Batch file serial (framed fields (take size u.rows)) ∷ answers file fields size (serial + 1) (without size u)
  answers-next serial u hs hu =
      let more = pieces-more size u.rows hs hu in
      let rest = pieces size (drop size u.rows) in
      ap (λ ps. answers_from file fields serial ps (End file (serial + length ps) u.fault)) more
      ∙ ap (λ n. Batch file serial (framed fields (take size u.rows)) ∷ answers_from file fields (serial + 1) rest (End file n u.fault)) (let e : serial + suc (length rest) ≡ serial + 1 + length rest = omega arith in e)

  pub answers-last : (serial : ℕ) (fault : Option ScanFault) → answers file fields size serial (ended fault) ≡ End file serial fault ∷ []
  answers-last serial fault =
      ap (λ ps. answers_from file fields serial ps (End file (serial + length ps) fault)) (pieces-none {X = Row} size)
      ∙ ap (λ n. End file n fault ∷ []) (let e : serial + 0 ≡ serial = omega arith in e)

-- ---- a run of calls

moved : (f g size n m : ℕ) (fs gs : Fields) (k : ℕ) (u : Stream ScanFault) (xs : List Scan) → f ≡ g → fs ≡ gs → size ≡ k → n ≡ m → Follows f (answers f fs size n u) xs → Follows g (answers g gs k m u) xs
moved f g size n m fs gs k u xs a b c d h = rw (← a, ← b, ← c, ← d) h

failed : (file serial number batches : ℕ) (fields : Fields) (fault : Option ScanFault) (pieces : List (List Row)) (end : Scan) (xs : List Scan) → IsFailed file fault
    → Follows file (answers_from file fields serial pieces end) (End number batches fault ∷ xs)
failed file serial number batches fields fault [] end xs h = inr h
failed file serial number batches fields fault (p ∷ ps) end xs h = inr h

pub run-follows : (xs : List Scan) (old new : Scanning) (u : Stream ScanFault) → 0 < old.batch_size → old.upcoming ≡ Some u → IsRun old xs new
    → Follows old.file (answers old.file old.layout.schema old.batch_size old.serial u) xs
run-follows [] old new u hs e r = tt
run-follows (Batch number serial batch ∷ xs) old new u hs e r =
    let mid : Scanning = r.0 in
    let form : IsNextBatch old number serial batch mid = r.1 in
    let out : (batch.rows ≡ take old.batch_size u.rows) × (mid.upcoming ≡ Some (without old.batch_size u)) = r.2 u e in
    let some : 0 < length u.rows = omega (arith, form.some, ap length out.0, length-take old.batch_size u.rows) in
    let step = answers-next old.file old.batch_size old.layout.schema old.serial u hs some in
    let same : batch ≡ framed old.layout.schema (take old.batch_size u.rows) = λ i. record { fields = form.schema i; rows = out.0 i } in
    let first : ◌≡◌ {A = Scan} (Batch old.file old.serial (framed old.layout.schema (take old.batch_size u.rows))) (Batch number serial batch) =
    ap (λ f. Batch f old.serial (framed old.layout.schema (take old.batch_size u.rows))) (sym form.number) ∙ ap (λ n. Batch number n (framed old.layout.schema (take old.batch_size u.rows))) (sym form.in_order) ∙ ap (Batch number serial) (sym same) in
    let more = run-follows xs mid new (without old.batch_size u) (omega (arith, hs, form.same.size)) out.1 r.3 in
    let rest = moved mid.file old.file mid.batch_size mid.serial (old.serial + 1) mid.layout.schema old.layout.schema old.batch_size (without old.batch_size u) xs form.same.file (ap (λ (l : Layout). l.schema) form.same.layout) form.same.size form.counted more in
    subst (λ (ys : List Scan). Follows old.file ys (Batch number serial batch ∷ xs)) (sym step) (first, rest)
run-follows (End number batches fault ∷ xs) old new u hs e r =
    let form : IsLastWord old number batches fault r.0 = r.1 in
    let out : ((u ≡ ended fault) × (r.0.upcoming ≡ Some u)) ⊎ IsFailed old.file fault = r.2 u e in
    elim out [
      | inl h ↦
          let step = ap (answers old.file old.layout.schema old.batch_size old.serial) h.0 ∙ answers-last old.file old.batch_size old.layout.schema old.serial fault in
          let first : ◌≡◌ {A = Scan} (End old.file old.serial fault) (End number batches fault) = ap (λ f. End f old.serial fault) (sym form.number) ∙ ap (λ n. End number n fault) (sym form.counted) in
          subst (λ (ys : List Scan). Follows old.file ys (End number batches fault ∷ xs)) (sym step) (inl first)
      | inr h ↦ failed old.file old.serial number batches old.layout.schema fault (pieces old.batch_size u.rows) _ xs h
    ]
