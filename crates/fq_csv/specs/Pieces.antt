-- Bytes in pieces.
use Rattle.std.specs.Prelude.{◌≡◌, ℕ, ◌<◌, ◌≤◌, List, [], length, All, flat_map, Vec}

-- the bytes of pieces, one after the other
abbrev pub bytes_of : {A : Type 0} → List (Vec ℕ A) → List ℕ
bytes_of pieces = flat_map (λ piece. piece.items) pieces

-- none of them is empty
abbrev pub AreFilled : {A : Type 0} → List (Vec ℕ A) → Type 0
AreFilled pieces = All (λ piece. 0 < length piece.items) pieces

-- some bytes of the first piece were read, and if all of them were, no other follows
pub record IsSound {A : Type 0} (first : List ℕ) (at : ℕ) (rest : List (Vec ℕ A)) : Type 0 where
  pub inside : at ≤ length first
  pub over : length first ≤ at → bytes_of rest ≡ []
  pub filled : AreFilled rest
