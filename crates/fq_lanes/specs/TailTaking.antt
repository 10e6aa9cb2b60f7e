-- What a tail has taken.
use Rattle.std.specs.Prelude.{◌≡◌, ℕ, List, [], ◌∷◌, ◌⊎◌}

module _ {S O : Type 0} where
  -- its state is the one that its own step gives along the list, call by call
  abbrev pub Took : (S → ℕ → ℕ → O → S → Type 0) → S → List (ℕ × ℕ × O) → S → Type 0
  Took takes a [] b = b ≡ a
  Took takes a (e ∷ es) b = (m : S) × takes a e.0 e.1 e.2 m × Took takes m es b

  -- it took the list, and then it refused at most one call
  abbrev pub TookUntilRefused : (S → ℕ → ℕ → O → S → Type 0) → (S → S → Type 0) → S → List (ℕ × ℕ × O) → S → Type 0
  TookUntilRefused takes refuses a es b = Took takes a es b ⊎ ((m : S) × Took takes a es m × refuses m b)
