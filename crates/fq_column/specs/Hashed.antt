-- What a hasher is fed of a value: one write, whose bytes tell the values of a column apart. A hasher mixes in how long a write is.
use Rattle.std.specs.Prelude.{◌≡◌, true, false, refl, ℕ, List, [], ◌∷◌}
use Rattle.std.proofs.Common.{ap, sym, ◌∙◌, rules}
use Rattle.std.specs.Hash as fed
use Rattle.std.specs.Cmp.{signed_Decides}
use Rattle.std.specs.Cmp.Lexicographic.{bytes_decides}
use Rattle.fq_column.specs.declared.cells.Cell.{Cell}
use Rattle.fq_column.specs.declared.cells.Cell.TheVariants.{Null, Whole, Text, Truth}
use Rattle.fq_column.specs.Cell.{same_cell}
use Rattle.fq_column.specs.contracts.cells.CellPartialEq.TheImpl.{eq-value}

abbrev pub cell_writes : Cell → List (List ℕ)
cell_writes Null = fed.u8 2
cell_writes (Whole n) = fed.i64 n
cell_writes (Text t) = t ∷ []
cell_writes (Truth b) = fed.bool b

same-alike : (a b : Cell) → same_cell a b ≡ true → cell_writes a ≡ cell_writes b
same-alike Null Null e = refl
same-alike (Whole m) (Whole n) e = ap fed.i64 ((signed_Decides m n).0 e)
same-alike (Text s) (Text t) e = ap (λ u. u ∷ []) ((bytes_decides s t).0 e)
same-alike (Truth true) (Truth true) e = refl
same-alike (Truth false) (Truth false) e = refl
same-alike a b e = absurd (cc)

derived : (a b : Cell) → eq-value.it a b ≡ same_cell a b
derived a b = search rules

-- values that are equal are fed alike
pub alike : (a b : Cell) → eq-value.it a b ≡ true → cell_writes a ≡ cell_writes b
alike a b e = same-alike a b (sym (derived a b) ∙ e)
