-- A scale that is read is the only one: if it is so on both sides, it is so of their sum, their product and their quotient.
use Rattle.std.proofs.Common.{◌≡◌, ◌∙◌, ◌+◌, ◌-◌, ◌≤◌, ℕ, Bool, true, false, cond, max, min, Option, Some, None, ap, arith, refl, sym, subst, eqb-true, nat_le, leb-true, le-leb}
use Rattle.std.specs.Prelude.{◌&&◌, ◌==◌}
use Rattle.std.proofs.lemmas.Bool.{and_from, and_parts}
use Rattle.std.proofs.lemmas.Option.{cond_some, none-some, same_Some}
use Rattle.fq_notation.specs.Scales.{ScaleRange, are_read_alike, between, common, is_possible, is_read_between, only, product, quotient, read_of_product, read_of_quotient, read_on, up_to}

-- a scale that is read is the only one
abbrev pub IsReadAlone : ScaleRange → Type 0
IsReadAlone scales = (n : ℕ) → scales.read ≡ Some n → scales ≡ only n

pub alone-only : (m : ℕ) → IsReadAlone (only m)
alone-only m n e = ap only (same_Some m n e)

pub alone-up_to : (m : ℕ) → IsReadAlone (up_to m)
alone-up_to m n e = absurd (none-some n e)

-- the only scale is possible, and no other is
pub possible-only : (scales : ScaleRange) (n : ℕ) → scales ≡ only n → is_possible scales n ≡ true
possible-only scales n e = ap (λ s. is_possible s n) e ∙ and_from (nat_le n n) (nat_le n n) (le-leb n n (omega arith)) (le-leb n n (omega arith))

pub other-only : (scales : ScaleRange) (n m : ℕ) → scales ≡ only n → is_possible scales m ≡ true → m ≡ n
other-only scales n m e h =
    let p = and_parts (nat_le n m) (nat_le m n) (ap (λ s. is_possible s m) (sym e) ∙ h) in
    omega (arith, leb-true n m p.0, leb-true m n p.1)

-- ---- scales between two

-- if there are some, they are these
between-are : (least most : ℕ) (read : Option ℕ) (scales : ScaleRange) → between least most read ≡ Some scales →
    (least ≤ min most 18) × (record { least = least; most = min most 18; read = read } ≡ scales)
between-are least most read scales e =
    let p = cond_some (nat_le least (min most 18)) (record { least = least; most = min most 18; read = read }) scales e in
    (leb-true least (min most 18) p.0, p.1)

same-range : (least most n : ℕ) (read : Option ℕ) → least ≡ n → most ≡ n → read ≡ Some n → record { least = least; most = most; read = read } ≡ only n
same-range least most n read l m e = λ i. record { least = l i; most = m i; read = e i }

-- a scale that is read and bounds them is the only one
between-alone : (least most : ℕ) (read : Option ℕ) (scales : ScaleRange) → ((n : ℕ) → read ≡ Some n → (n ≤ least) × (most ≤ n)) → between least most read ≡ Some scales → IsReadAlone scales
between-alone least most read scales bounds e =
    let p = between-are least most read scales e in
    subst IsReadAlone p.1 (λ n f. let b = bounds n f in same-range least (min most 18) n read (omega (arith, p.0, b.0, b.1)) (omega (arith, p.0, b.0, b.1)) f)

-- ---- operations

pub alone-common : (a b scales : ScaleRange) → IsReadAlone a → IsReadAlone b → common a b ≡ Some scales → IsReadAlone scales
alone-common a b scales f g e = go (are_read_alike a.read b.read && is_read_between (max a.least b.least) (min a.most b.most) (read_on a.read b.read)) e
  where
    bounds : (o p : Option ℕ) → a.read ≡ o → b.read ≡ p → (n : ℕ) → read_on o p ≡ Some n → (n ≤ max a.least b.least) × (min a.most b.most ≤ n)
    bounds (Some l) p s t n r = let h = f n (s ∙ r) in let low : a.least ≡ n = ap (λ x. x.least) h in let high : a.most ≡ n = ap (λ x. x.most) h in (omega (arith, low), omega (arith, high))
    bounds None p s t n r = let h = g n (t ∙ r) in let low : b.least ≡ n = ap (λ x. x.least) h in let high : b.most ≡ n = ap (λ x. x.most) h in (omega (arith, low), omega (arith, high))

    go : (t : Bool) → cond t (between (max a.least b.least) (min a.most b.most) (read_on a.read b.read)) None ≡ Some scales → IsReadAlone scales
    go true h = between-alone _ _ _ scales (bounds a.read b.read refl refl) h
    go false h = absurd (none-some scales h)

pub alone-product : (a b scales : ScaleRange) → IsReadAlone a → IsReadAlone b → product a b ≡ Some scales → IsReadAlone scales
alone-product a b scales f g e = between-alone (a.least + b.least) (a.most + b.most) (read_of_product a.read b.read) scales (bounds a.read b.read refl refl) e
  where
    bounds : (o p : Option ℕ) → a.read ≡ o → b.read ≡ p → (n : ℕ) → read_of_product o p ≡ Some n → (n ≤ a.least + b.least) × (a.most + b.most ≤ n)
    bounds (Some l) (Some r) s t n h =
        let k : l + r ≡ n = (cond_some (nat_le (l + r) 18) (l + r) n h).1 in
        let x = f l s in
        let y = g r t in
        (omega (arith, k, ap (λ z. z.least) x, ap (λ z. z.least) y), omega (arith, k, ap (λ z. z.most) x, ap (λ z. z.most) y))
    bounds (Some l) None s t n h = absurd (none-some n h)
    bounds None p s t n h = absurd (none-some n h)

pub alone-quotient : (a b scales : ScaleRange) → IsReadAlone a → IsReadAlone b → quotient a b ≡ Some scales → IsReadAlone scales
alone-quotient a b scales f g e = go (nat_le b.least a.most) e
  where
    bounds : (o p : Option ℕ) → a.read ≡ o → b.read ≡ p → (n : ℕ) → read_of_quotient o p ≡ Some n → (n ≤ a.least - b.most) × (a.most - b.least ≤ n)
    bounds (Some l) (Some r) s t n h =
        let k : l - r ≡ n = (cond_some (nat_le r l) (l - r) n h).1 in
        let x = f l s in
        let y = g r t in
        (omega (arith, k, ap (λ z. z.least) x, ap (λ z. z.most) y), omega (arith, k, ap (λ z. z.most) x, ap (λ z. z.least) y))
    bounds (Some l) None s t n h = absurd (none-some n h)
    bounds None p s t n h = absurd (none-some n h)

    go : (t : Bool) → cond t (between (a.least - b.most) (a.most - b.least) (read_of_quotient a.read b.read)) None ≡ Some scales → IsReadAlone scales
    go true h = between-alone _ _ _ scales (bounds a.read b.read refl refl) h
    go false h = absurd (none-some scales h)

-- ---- of one scale each

pub common-only : (l r : ℕ) (scales : ScaleRange) → common (only l) (only r) ≡ Some scales → (l ≡ r) × (scales ≡ only l)
common-only l r scales e = go (l == r) refl (is_read_between (max l r) (min l r) (Some l)) e
  where
    go : (s : Bool) → (l == r) ≡ s → (t : Bool) → cond (s && t) (between (max l r) (min l r) (Some l)) None ≡ Some scales → (l ≡ r) × (scales ≡ only l)
    go true s true h = let p = between-are (max l r) (min l r) (Some l) scales h in (eqb-true l r s, sym p.1 ∙ same-range (max l r) (min (min l r) 18) l (Some l) (omega (arith, p.0)) (omega (arith, p.0)) refl)
    go true s false h = absurd (none-some scales h)
    go false s t h = absurd (none-some scales h)

pub product-only : (l r : ℕ) (scales : ScaleRange) → product (only l) (only r) ≡ Some scales → scales ≡ only (l + r)
product-only l r scales e =
    let p = between-are (l + r) (l + r) (read_of_product (Some l) (Some r)) scales e in
    let t : nat_le (l + r) 18 ≡ true = le-leb (l + r) 18 (omega (arith, p.0)) in
    sym p.1 ∙ same-range (l + r) (min (l + r) 18) (l + r) _ refl (omega (arith, p.0)) (ap (λ b. cond b (Some (l + r)) None) t)

pub quotient-only : (n : ℕ) (scales : ScaleRange) → quotient (only n) (only n) ≡ Some scales → scales ≡ only 0
quotient-only n scales e = go (nat_le n n) e
  where
    go : (t : Bool) → cond t (between (n - n) (n - n) (cond t (Some (n - n)) None)) None ≡ Some scales → scales ≡ only 0
    go true h = let p = between-are (n - n) (n - n) (Some (n - n)) scales h in sym p.1 ∙ same-range (n - n) (min (n - n) 18) 0 (Some (n - n)) (omega arith) (omega arith) (ap Some (let none : n - n ≡ 0 = omega arith in none))
    go false h = absurd (none-some scales h)
