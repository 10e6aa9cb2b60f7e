-- The items of several files, and their numbers: file and serial, both from 0.
use Rattle.std.specs.Prelude.{ℕ, zero, suc, List, [], ◌∷◌, ◌++◌, map, Option, None}
use Rattle.std.specs.List.{slice_get}

module _ {A : Type 0} where
  -- the items of file f, with their numbers, from serial s on
  abbrev pub numbered_file : ℕ → ℕ → List A → List (ℕ × ℕ × A)
  numbered_file f s [] = []
  numbered_file f s (x ∷ xs) = (f, s, x) ∷ numbered_file f (suc s) xs

  -- the items of all files from f on, with their numbers, by file, then serial
  abbrev pub numbered : ℕ → List (List A) → List (ℕ × ℕ × A)
  numbered f [] = []
  numbered f (xs ∷ items) = numbered_file f zero xs ++ numbered (suc f) items

  -- the files and serials alone
  abbrev pub numbers : List (ℕ × ℕ × A) → List (ℕ × ℕ)
  numbers es = map (λ e. (e.0, e.1)) es

  -- the item of file f with serial s
  abbrev pub item_at : List (List A) → ℕ → ℕ → Option A
  item_at [] f s = None
  item_at (xs ∷ items) zero s = slice_get xs s
  item_at (xs ∷ items) (suc f) s = item_at items f s

  -- P holds of each item, at its numbers
  abbrev pub AllNumbered : (ℕ → ℕ → A → Type 0) → List (ℕ × ℕ × A) → Type 0
  AllNumbered P [] = Unit {0}
  AllNumbered P (e ∷ es) = P e.0 e.1 e.2 × AllNumbered P es
