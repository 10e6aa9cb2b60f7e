-- The values of a row in the key columns.
use Rattle.std.proofs.Common.{◌≡◌, ℕ, zero, suc, ◌+◌, ◌<◌, List, [], ◌∷◌, ◌++◌, take, length, get_or, set, Some, sym, ap, ◌∙◌, arith}
use Rattle.std.specs.Prelude.{slice_get}
use Rattle.std.proofs.lemmas.List.{map-append}
use Rattle.std.proofs.Math.Seq.{take-suc, take-suc-set}
use Rattle.fq_column.specs.declared.cells.Cell.{Cell}
use Rattle.fq_column.specs.Frame.{Row, value_at, column_at}
use Rattle.fq_ops.specs.Grouping.{key_at}

-- the cell of a column in a row
pub cell-read : (rows : List Row) (row p : ℕ) (cells : List Cell) (x : Cell) → cells ≡ column_at p rows → slice_get cells row ≡ Some x → x ≡ value_at p (get_or rows row [])
cell-read rows row p cells x e g = read rows row (sym (ap (λ l. slice_get l row) e) ∙ g)
  where
    read : (rows : List Row) (row : ℕ) → slice_get (column_at p rows) row ≡ Some x → x ≡ value_at p (get_or rows row [])
    read [] row g = absurd (cc)
    read (r ∷ rows) zero g = cc
    read (r ∷ rows) (suc row) g = read rows row g

-- one more cell of a key
pub key-more : (cells : List Cell) (places : List ℕ) (i : ℕ) (x : Cell) (row : Row) → i < length places → length cells ≡ length places → take i cells ≡ key_at (take i places) row → x ≡ value_at (get_or places i 0) row →
    take (i + 1) (set cells i x) ≡ key_at (take (i + 1) places) row
key-more cells places i x row low size before at =
    ap (λ j. take j (set cells i x)) (let e : i + 1 ≡ suc i = omega arith in e)
    ∙ take-suc-set cells i x (omega (arith, low, size))
    ∙ (λ k. before k ++ at k ∷ [])
    ∙ sym (ap (λ j. key_at (take j places) row) (let e : i + 1 ≡ suc i = omega arith in e) ∙ ap (λ l. key_at l row) (take-suc places i 0 low) ∙ map-append (λ p. value_at p row) (take i places) (get_or places i 0 ∷ []))
