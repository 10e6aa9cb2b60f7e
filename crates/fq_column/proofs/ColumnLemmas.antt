-- The cells of a column, and those of its values.
use Rattle.std.proofs.Common.{◌≡◌, ℕ, zero, suc, Bool, true, List, [], ◌∷◌, map, refl, ap, arith, Option, Some, None}
use Rattle.std.specs.List.{AllPass}
use Rattle.fq_column.specs.declared.cells.Cell.{Cell}
use Rattle.fq_column.specs.declared.cells.Cell.TheVariants as cell
use Rattle.fq_column.specs.declared.cells.Kind.TheVariants as kind
use Rattle.fq_column.specs.declared.columns.Values.{Values}
use Rattle.fq_column.specs.declared.columns.Values.TheVariants.{Whole, Text, Truth}
use Rattle.std.specs.Prelude.{slice_index_or}
use Rattle.std.specs.Option.{option_and_then, option_map_or}
use Rattle.fq_column.specs.Cell.{has_kind}
use Rattle.fq_column.specs.Column.{AreOfKind, cells_of, nullable}
use Rattle.fq_column.specs.Frame.{value_at}

-- a test that null and each value pass holds of all the cells
pub AllPass-nullable : {X : Type 0} (has : Cell → Bool) (make : X → Cell) → has cell.Null ≡ true → ((x : X) → has (make x) ≡ true) → (xs : List (Option X)) → AllPass has (map (nullable make) xs)
AllPass-nullable has make h f [] k d below = absurd (omega (arith, below))
AllPass-nullable has make h f (None ∷ xs) zero d below = h
AllPass-nullable has make h f (Some x ∷ xs) zero d below = f x
AllPass-nullable has make h f (x ∷ xs) (suc k) d below = AllPass-nullable has make h f xs k d (omega (arith, below))

-- the cells of values are of their kind
pub AreOfKind-values : (v : Values) → AreOfKind (cells_of v)
AreOfKind-values (Whole array) = AllPass-nullable (has_kind kind.Whole) cell.Whole refl (λ _. refl) array
AreOfKind-values (Text array) = AllPass-nullable (has_kind kind.Text) cell.Text refl (λ _. refl) array
AreOfKind-values (Truth array) = AllPass-nullable (has_kind kind.Truth) cell.Truth refl (λ _. refl) array

-- ---- cells at places

at-nullable : {X : Type 0} (make : X → Cell) (array : List (Option X)) (i : ℕ) → nullable make (slice_index_or array i None) ≡ value_at i (map (nullable make) array)
at-nullable make [] zero = refl
at-nullable make [] (suc i) = refl
at-nullable make (x ∷ array) zero = refl
at-nullable make (x ∷ array) (suc i) = at-nullable make array i

pub nullable-gather : {X : Type 0} (make : X → Cell) (array : List (Option X)) (places : List ℕ) →
    map (nullable make) (map (λ p. slice_index_or array p None) places) ≡ map (λ p. value_at p (map (nullable make) array)) places
nullable-gather make array [] = refl
nullable-gather make array (p ∷ places) = λ i. at-nullable make array p i ∷ nullable-gather make array places i

pub nullable-gather_optional : {X : Type 0} (make : X → Cell) (array : List (Option X)) (places : List (Option ℕ)) →
    map (nullable make) (map (λ p. option_and_then (λ i. slice_index_or array i None) p) places) ≡ map (λ p. option_map_or (λ i. value_at i (map (nullable make) array)) p cell.Null) places
nullable-gather_optional make array [] = refl
nullable-gather_optional make array (None ∷ places) = ap (λ cs. cell.Null ∷ cs) (nullable-gather_optional make array places)
nullable-gather_optional make array (Some p ∷ places) = λ i. at-nullable make array p i ∷ nullable-gather_optional make array places i
