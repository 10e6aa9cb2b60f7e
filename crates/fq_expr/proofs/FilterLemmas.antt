-- A filter on a list of rows, by the mask of its predicate.
use Rattle.std.proofs.Common.{◌≡◌, ℕ, zero, suc, ◌+◌, Bool, true, false, cond, not, nat_lt, List, [], ◌∷◌, ◌++◌, length, map, take, drop, append_assoc, refl, ap, sym, ◌∙◌, arith, Option, Some, None, Ok, Err, Result}
use Rattle.std.specs.Prelude.{slice_get, unwrap_or, if◌then◌else◌}
use Rattle.std.specs.Bool.{then_some}
use Rattle.std.specs.List.{list_any}
use Rattle.std.proofs.lemmas.Bool.Decides.{nat_tests}
use mathlib.Core.Bool.{beq}
use Rattle.fq_column.specs.declared.cells.Cell.{Cell}
use Rattle.fq_column.specs.declared.cells.Cell.TheVariants as cell
use Rattle.fq_column.specs.declared.cells.Kind.{Kind}
use Rattle.fq_column.specs.declared.cells.Kind.TheVariants as kind
use Rattle.fq_column.specs.declared.faults.StepFault.{StepFault}
use Rattle.fq_column.specs.declared.faults.StepFault.TheVariants.{NotBool}
use Rattle.fq_column.specs.Cell.{same_kind}
use Rattle.fq_column.specs.Column.{nullable}
use Rattle.fq_column.specs.Frame.{Fields, Row}
use Rattle.fq_column.specs.Lists.{keep, before_missing}
use Rattle.fq_column.specs.Refusal.{and_then, refuse_if, unless_refused}
use Rattle.fq_column.specs.Stream.{Stream, done, faulted, then_stream, one_by_one}
use Rattle.fq_expr.specs.Expression.{Expression, filter_by}
use Rattle.fq_expr.specs.Steps.{is_true, rows_after}
use Rattle.fq_expr.specs.Value.{value_of}

-- a mask that marks all keeps all
pub keep-all : {X : Type 0} (mask : List Bool) (xs : List X) → list_any (λ b. beq b false) mask ≡ false → length mask ≡ length xs → xs ≡ keep mask xs
keep-all [] [] h e = refl
keep-all [] (x ∷ xs) h e = absurd (omega (arith, e))
keep-all (b ∷ mask) [] h e = absurd (omega (arith, e))
keep-all (true ∷ mask) (x ∷ xs) h e = ap (λ l. x ∷ l) (keep-all mask xs h (omega (arith, e)))
keep-all (false ∷ mask) (x ∷ xs) h e = absurd (cc)

-- a truth value that may be missing
pub is_true-nullable : (v : Option Bool) → unwrap_or v false ≡ is_true (nullable cell.Truth v)
is_true-nullable None = refl
is_true-nullable (Some b) = refl

-- a predicate that is not refused is a truth value, and its filter leaves the columns
abbrev judged : Fields → Result Kind StepFault → Result Fields StepFault
judged fields r = and_then r (λ k. unless_refused (refuse_if (not (same_kind k kind.Truth)) NotBool ∷ []) fields)

-- what a row gives, then what the others do
abbrev streamed : Result (List Row) ℕ → Stream ℕ → Stream ℕ
streamed r u = elim r [ Ok rows ↦ then_stream (done rows) u | Err f ↦ faulted f ]

-- the rows that a filter keeps, and the item that faults
one_more : (m n : ℕ) → nat_lt (suc m) (suc n) ≡ nat_lt m n
one_more m n = grind (arith, nat_tests)

some-left : (n : ℕ) → nat_lt 0 (suc n) ≡ true
some-left n = grind (arith, nat_tests)

module _ (fields : Fields) (e : Expression) where
  pub filter-rows : (rows : List Row) → keep (map is_true (before_missing (map (value_of fields e) rows))) (take (length (map is_true (before_missing (map (value_of fields e) rows)))) rows)
      ≡ (one_by_one (rows_after fields (filter_by e)) rows).rows
  filter-rows [] = refl
  filter-rows (r ∷ rs) = go (value_of fields e r) (filter-rows rs)
    where
      pick : (b : Bool) (xs ys : List Row) → xs ≡ ys → cond b (r ∷ xs) xs ≡ cond b (r ∷ []) [] ++ ys
      pick true xs ys h = ap (λ l. r ∷ l) h
      pick false xs ys h = h

      go : (o : Option Cell) → keep (map is_true (before_missing (map (value_of fields e) rs))) (take (length (map is_true (before_missing (map (value_of fields e) rs)))) rs) ≡ (one_by_one (rows_after fields (filter_by e)) rs).rows →
          keep (map is_true (before_missing (o ∷ map (value_of fields e) rs))) (take (length (map is_true (before_missing (o ∷ map (value_of fields e) rs)))) (r ∷ rs))
          ≡ (streamed (elim o [ Some c ↦ Ok (if is_true c then r ∷ [] else []) | None ↦ Err 0 ]) (one_by_one (rows_after fields (filter_by e)) rs)).rows
      go None h = refl
      go (Some c) h = pick (is_true c) _ _ h

  pub filter-item : (rows : List Row) → then_some (nat_lt (length (map is_true (before_missing (map (value_of fields e) rows)))) (length rows)) 0 ≡ (one_by_one (rows_after fields (filter_by e)) rows).fault
  filter-item [] = ap (λ b. then_some b 0) (let h : nat_lt 0 0 ≡ false = grind (arith, nat_tests) in h)
  filter-item (r ∷ rs) = go (value_of fields e r) (filter-item rs)
    where
      go : (o : Option Cell) → then_some (nat_lt (length (map is_true (before_missing (map (value_of fields e) rs)))) (length rs)) 0 ≡ (one_by_one (rows_after fields (filter_by e)) rs).fault →
          then_some (nat_lt (length (map is_true (before_missing (o ∷ map (value_of fields e) rs)))) (suc (length rs))) 0
          ≡ (streamed (elim o [ Some c ↦ Ok (if is_true c then r ∷ [] else []) | None ↦ Err 0 ]) (one_by_one (rows_after fields (filter_by e)) rs)).fault
      go None h = ap (λ b. then_some b 0) (some-left (length rs))
      go (Some c) h = ap (λ b. then_some b 0) (one_more (length (map is_true (before_missing (map (value_of fields e) rs)))) (length rs)) ∙ h

-- the next item of a list
drop-at : {X : Type 0} (xs : List X) (i : ℕ) (x : X) → slice_get xs i ≡ Some x → drop i xs ≡ x ∷ drop (suc i) xs
drop-at [] i x e = absurd (cc)
drop-at (y ∷ xs) zero x e = ap (λ z. z ∷ xs) (let g : y ≡ x = cc in g)
drop-at (y ∷ xs) (suc i) x e = drop-at xs i x e

-- a list of marks, one further
pub marks-step : {X : Type 0} (f : X → Bool) (xs : List X) (i : ℕ) (x : X) (b : Bool) (made : List Bool) → slice_get xs i ≡ Some x → b ≡ f x →
    made ++ map f (drop i xs) ≡ map f xs → (made ++ b ∷ []) ++ map f (drop (i + 1) xs) ≡ map f xs
marks-step f xs i x b made e g inv =
    append_assoc made (b ∷ []) (map f (drop (i + 1) xs))
    ∙ ap (λ n. made ++ (b ∷ map f (drop n xs))) (let h : i + 1 ≡ suc i = omega arith in h)
    ∙ ap (λ c. made ++ (c ∷ map f (drop (suc i) xs))) g
    ∙ ap (λ l. made ++ map f l) (sym (drop-at xs i x e))
    ∙ inv
