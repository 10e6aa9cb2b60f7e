-- The entries of lists of notations.
use Rattle.std.proofs.Common.{◌≡◌, ◌<◌, ◌+◌, ℕ, suc, Bool, true, false, cond, drop, get_or, List, [], ◌∷◌, ◌++◌, length, map, take, zero, Option, Some, None, refl, ap, sym, ◌∙◌, arith}
use Rattle.std.proofs.Math.Seq.{take-suc}
use Rattle.std.proofs.lemmas.List.{map-append}
use Rattle.std.specs.Prelude.{◌==◌, not, option_and_then, option_map}
use Rattle.std.specs.List.{after_first, before_first, position_or_len}
use Rattle.clap.specs.Words.{Text}
use Rattle.fq_notation.specs.Notation.{Named}
use Rattle.fq_shell.specs.Notations.{decimal_entries, decimal_entry, entries_of, put_first}

abbrev is_comma : ℕ → Bool
is_comma b = b == 44

abbrev place : Text → ℕ
place list = position_or_len is_comma list

-- the place of the first comma, by whether that is the first byte
place-by : (b : ℕ) (bs : Text) (comma : Bool) → is_comma b ≡ comma → place (b ∷ bs) ≡ cond (not comma) (1 + place bs) 0
place-by b bs comma e = ap (λ c. cond (not c) (1 + place bs) 0) e

entries-by : (b : ℕ) (bs : Text) (comma : Bool) → is_comma b ≡ comma → entries_of (b ∷ bs) ≡ cond comma ([] ∷ entries_of bs) (put_first b (entries_of bs))
entries-by b bs comma e = ap (λ c. cond c ([] ∷ entries_of bs) (put_first b (entries_of bs))) e

-- a list without a comma is one entry
pub one-entry : (list : Text) → place list ≡ length list → entries_of list ≡ list ∷ []
one-entry [] none = refl
one-entry (b ∷ bs) none = go (is_comma b) refl (one-entry bs)
  where
    go : (comma : Bool) → is_comma b ≡ comma → (place bs ≡ length bs → entries_of bs ≡ bs ∷ []) → entries_of (b ∷ bs) ≡ (b ∷ bs) ∷ []
    go true e later = absurd (omega (arith, none, place-by b bs true e))
    go false e later = entries-by b bs false e ∙ ap (put_first b) (later (omega (arith, none, place-by b bs false e)))

-- before the first comma stands the first entry, behind it the others
pub first-entry : (list : Text) → place list < length list → entries_of list ≡ before_first is_comma list ∷ entries_of (after_first is_comma list)
first-entry [] some = absurd (omega (arith, some))
first-entry (b ∷ bs) some = go (is_comma b) refl (first-entry bs)
  where
    go : (comma : Bool) → is_comma b ≡ comma → (place bs < length bs → entries_of bs ≡ before_first is_comma bs ∷ entries_of (after_first is_comma bs)) →
        entries_of (b ∷ bs) ≡ before_first is_comma (b ∷ bs) ∷ entries_of (after_first is_comma (b ∷ bs))
    go true e later =
        let here : place (b ∷ bs) ≡ 0 = place-by b bs true e in
        let behind : place (b ∷ bs) + 1 ≡ 1 = omega (arith, here) in
        entries-by b bs true e ∙ sym (λ i. take (here i) (b ∷ bs) ∷ entries_of (drop (behind i) (b ∷ bs)))
    go false e later =
        let here : place (b ∷ bs) ≡ suc (place bs) = omega (arith, place-by b bs false e) in
        let behind : place (b ∷ bs) + 1 ≡ suc (place bs + 1) = omega (arith, here) in
        entries-by b bs false e
        ∙ ap (put_first b) (later (omega (arith, some, place-by b bs false e)))
        ∙ sym (λ i. take (here i) (b ∷ bs) ∷ entries_of (drop (behind i) (b ∷ bs)))

-- ---- decimals

abbrev then_entries : Option Named → List Text → Option (List Named)
then_entries first rest = option_and_then (λ first. option_map (λ rest. first ∷ rest) (decimal_entries rest)) first

-- one entry more
pub entries-further : (xs : List Text) (x : Text) (before : List Named) (entry : Named) → decimal_entries xs ≡ Some before → decimal_entry x ≡ Some entry →
    decimal_entries (xs ++ x ∷ []) ≡ Some (before ++ entry ∷ [])
entries-further [] x before entry right this = let none : [] ≡ before = cc in ap (λ first. then_entries first []) this ∙ ap (λ before. Some (before ++ entry ∷ [])) none
entries-further (y ∷ xs) x before entry right this = go (decimal_entry y) (decimal_entries xs) (λ rest. entries-further xs x rest entry) right
  where
    go : (first : Option Named) (later : Option (List Named)) → ((rest : List Named) → later ≡ Some rest → decimal_entry x ≡ Some entry → decimal_entries (xs ++ x ∷ []) ≡ Some (rest ++ entry ∷ [])) →
        option_and_then (λ first. option_map (λ rest. first ∷ rest) later) first ≡ Some before →
        then_entries first (xs ++ x ∷ []) ≡ Some (before ++ entry ∷ [])
    go None later ih e = absurd (cc)
    go (Some first) None ih e = absurd (cc)
    go (Some first) (Some rest) ih e =
        let all : first ∷ rest ≡ before = cc in
        ap (option_map (λ rest. first ∷ rest)) (ih rest refl this) ∙ ap (λ before. Some (before ++ entry ∷ [])) all

-- of texts by their places: one more, and a wrong one
module _ {N : Type 0} (text : N → Text) where
  pub further-at : (ns : List N) (i : ℕ) (d : N) (before : List Named) (entry : Named) → i < length ns → decimal_entries (map text (take i ns)) ≡ Some before →
      Some entry ≡ decimal_entry (text (get_or ns i d)) → decimal_entries (map text (take (i + 1) ns)) ≡ Some (before ++ entry ∷ [])
  further-at ns i d before entry below right this =
      ap (λ n. decimal_entries (map text (take n ns))) (let up : i + 1 ≡ suc i = omega arith in up)
      ∙ ap (λ ns. decimal_entries (map text ns)) (take-suc ns i d below)
      ∙ ap decimal_entries (map-append text (take i ns) (get_or ns i d ∷ []))
      ∙ entries-further (map text (take i ns)) (text (get_or ns i d)) before entry right (sym this)

  pub wrong-at : (ns : List N) (i : ℕ) (d : N) → i < length ns → None ≡ decimal_entry (text (get_or ns i d)) → decimal_entries (map text ns) ≡ None
  wrong-at [] i d below wrong = absurd (omega (arith, below))
  wrong-at (n ∷ ns) zero d below wrong = ap (λ first. then_entries first (map text ns)) (sym wrong)
  wrong-at (n ∷ ns) (suc i) d below wrong = ap (λ later. option_and_then (λ first. option_map (λ rest. first ∷ rest) later) (decimal_entry (text n))) (wrong-at ns i d (omega (arith, below)) wrong) ∙ go (decimal_entry (text n))
    where
      go : (first : Option Named) → option_and_then (λ first. option_map (λ rest. first ∷ rest) None) first ≡ None
      go None = refl
      go (Some first) = refl
