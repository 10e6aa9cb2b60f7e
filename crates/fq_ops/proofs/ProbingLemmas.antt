-- The pairs of a join in parts.
use Rattle.std.proofs.Common.{◌≡◌, ◌<◌, ◌≤◌, ◌+◌, ◌-◌, ◌++◌, ◌∙◌, ◌⊎◌, inl, inr, Bool, true, false, nat_le, ℕ, List, [], ◌∷◌, Option, Some, None, length, take, drop, map, ap, sym, refl, arith}
use Rattle.std.specs.Prelude.{min}
use Rattle.std.proofs.lemmas.Bool.Decides.{nat_tests}
use Rattle.std.specs.List.{range_with_len}
use Rattle.std.proofs.lemmas.List.{append_assoc, drop-append-le, drop-drop, drop-map, drop_all, length-drop, take-append-drop, take-append-le, take-map, take_all}
use Rattle.fq_ops.specs.Pairs.{Pair, pairs_of, pairs_within}
use Rattle.fq_ops.specs.Probing.{IsCursor, pairs_from}
use Rattle.fq_ops.specs.declared.joins.How.{How}
use Rattle.fq_ops.specs.declared.joins.How.TheVariants.{Inner, Left}
use Rattle.fq_ops.specs.declared.probes.Cursor.{Cursor}
use Rattle.fq_ops.proofs.PairLemmas.{pairs-step, pairs-stop}

-- what was given, and what is left, from one place to another
abbrev pub Gives : (ℕ → List Pair) → ℕ → Cursor → List Pair → Cursor → Type 0
Gives output count c ps d = IsCursor output count d × ((pairs_from output count c).0 ≡ ps ++ (pairs_from output count d).0) × ((pairs_from output count c).1 ≡ (pairs_from output count d).1)

pub gives-more : (output : ℕ → List Pair) (count : ℕ) (a b c : Cursor) (ps qs : List Pair) → Gives output count a ps b → Gives output count b qs c → Gives output count a (ps ++ qs) c
gives-more output count a b c ps qs g h = (
  h.0,
  g.1 ∙ ap (λ xs. ps ++ xs) h.1 ∙ sym (append_assoc ps qs (pairs_from output count c).0),
  g.2 ∙ h.2,
)

-- no pair is left
module _ (output : ℕ → List Pair) (count : ℕ) (c : Cursor) where
  pub ends : count ≤ c.row → pairs_from output count c ≡ ([], None)
  ends past =
      ap (λ n. let u = pairs_within output c.room (range_with_len c.row n) in let v : List Pair × Option ℕ = (drop c.given u.0, u.1) in v) (let z : count - c.row ≡ 0 = omega (arith, past) in z)
      ∙ ap (λ xs. let v : List Pair × Option ℕ = (xs, None) in v) (drop_all c.given [] (omega arith))

module _ (output : ℕ → List Pair) (count : ℕ) (c : Cursor) (w : ℕ) (low : c.row < count) (at : w ≡ length (output c.row)) where
  pub stops : c.room < w → pairs_from output count c ≡ ([], Some c.row)
  stops past =
      ap (λ (u : List Pair × Option ℕ). let v : List Pair × Option ℕ = (drop c.given u.0, u.1) in v) (pairs-stop output c.room c.row count w low at past)
      ∙ ap (λ xs. let v : List Pair × Option ℕ = (xs, Some c.row) in v) (drop_all c.given [] (omega arith))

  module _ (fits : w ≤ c.room) (is : IsCursor output count c) where
    abbrev rest : List Pair × Option ℕ
    rest = pairs_within output (c.room - w) (range_with_len (c.row + 1) (count - (c.row + 1)))

    inside : c.given ≤ length (output c.row)
    inside = elim is [ inl none ↦ omega (arith, none) | inr h ↦ h.1 ]

    begun : pairs_from output count c ≡ (drop c.given (output c.row) ++ rest.0, rest.1)
    begun =
        ap (λ (u : List Pair × Option ℕ). let v : List Pair × Option ℕ = (drop c.given u.0, u.1) in v) (pairs-step output c.room c.row count w low at fits)
        ∙ ap (λ xs. let v : List Pair × Option ℕ = (xs, rest.1) in v) (drop-append-le c.given (output c.row) rest.0 inside)

    -- the other pairs of a left place, all of them
    pub gives-row : (space : ℕ) → w - c.given ≤ space → Gives output count c (take space (drop c.given (output c.row))) (record { row = c.row + 1; given = 0; room = c.room - w })
    gives-row space all =
        let whole : take space (drop c.given (output c.row)) ≡ drop c.given (output c.row) = take_all space (drop c.given (output c.row)) (omega (arith, all, at, length-drop c.given (output c.row))) in (
          inl refl,
          ap (λ (u : List Pair × Option ℕ). u.0) begun ∙ sym (ap (λ xs. xs ++ rest.0) whole),
          ap (λ (u : List Pair × Option ℕ). u.1) begun,
        )

    -- some of the other pairs of a left place
    pub gives-some : (space : ℕ) → space < w - c.given → Gives output count c (take space (drop c.given (output c.row))) (record { row = c.row; given = c.given + space; room = c.room })
    gives-some space fewer =
        let all = (pairs_within output c.room (range_with_len c.row (count - c.row))).0 in
        let first : take space (drop c.given all) ≡ take space (drop c.given (output c.row)) =
        ap (λ (u : List Pair × Option ℕ). take space u.0) begun ∙ take-append-le space (drop c.given (output c.row)) rest.0 (omega (arith, fewer, at, length-drop c.given (output c.row))) in (
          inr (low, omega (arith, fewer, at), omega (arith, fits, at)),
          sym (take-append-drop space (drop c.given all)) ∙ ap (λ xs. xs ++ drop space (drop c.given all)) first ∙ ap (λ xs. take space (drop c.given (output c.row)) ++ xs) (drop-drop space c.given all),
          refl,
        )

-- ---- the pairs of one left place

module _ {X Y : Type 0} (f : X → Y) where
  -- some of the matches, after those that were given
  pub some-matches : (xs : List X) (given most count first part : ℕ) → count ≡ length xs → first ≡ min given count → part ≡ min most (count - first) → 0 < part →
      map f (take (first + part - first) (drop first xs)) ≡ take most (drop given (map f xs))
  some-matches xs given most count first part c a b some =
      let same : first ≡ given = omega (arith, a, b, some) in
      let size : length (drop first xs) ≡ count - first = length-drop first xs ∙ ap (λ n. n - first) (sym c) in
      ap (λ n. map f (take n (drop first xs))) (let z : first + part - first ≡ part = omega arith in z)
      ∙ ap (λ n. map f (take n (drop first xs))) b
      ∙ ap (map f) (take-least most (count - first) (drop first xs) size)
      ∙ ap (λ n. map f (take most (drop n xs))) same
      ∙ sym (take-map f most (drop given xs))
      ∙ ap (take most) (sym (drop-map f given xs))
    where
      le-or-lt : (n k : ℕ) → (n ≤ k) ⊎ (k < n)
      le-or-lt n k = by (nat_le n k) refl
        where
          by : (b : Bool) → nat_le n k ≡ b → (n ≤ k) ⊎ (k < n)
          by true e = inl (grind (arith, nat_tests, e))
          by false e = inr (grind (arith, nat_tests, e))

      take-least : (n k : ℕ) (ys : List X) → length ys ≡ k → take (min n k) ys ≡ take n ys
      take-least n k ys e = elim (le-or-lt n k) [
        | inl low ↦ ap (λ m. take m ys) (let z : min n k ≡ n = omega (arith, low) in z)
        | inr high ↦ ap (λ m. take m ys) (let z : min n k ≡ k = omega (arith, high) in z) ∙ take_all k ys (omega (arith, e)) ∙ sym (take_all n ys (omega (arith, e, high)))
      ]

-- a left place with matches gives a pair for each of them
pub each-match : (how : How) (l : ℕ) (ms : List ℕ) → (how ≡ Inner) ⊎ (how ≡ Left) → 0 < length ms → pairs_of how l ms ≡ map (λ r. (l, Some r)) ms
each-match how l [] is some = absurd (omega (arith, some))
each-match how l (m ∷ ms) (inl e) some = ap (λ h. pairs_of h l (m ∷ ms)) e
each-match how l (m ∷ ms) (inr e) some = ap (λ h. pairs_of h l (m ∷ ms)) e
