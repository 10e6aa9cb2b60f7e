-- Rows on which items are evaluated one after the other.
use Rattle.std.proofs.Common.{◌≡◌, ℕ, zero, suc, ◌<◌, ◌≤◌, List, [], ◌∷◌, ◌++◌, length, map, take, get_or, refl, ap, sym, ◌∙◌, arith, Option, Some, None, Result, Ok, Err, is_ok}
use Rattle.std.specs.Prelude.{IsOk, unwrap_or}
use Rattle.std.specs.Result.{result_map_both}
use Rattle.fq_column.specs.declared.cells.Cell.{Cell}
use Rattle.fq_column.specs.declared.cells.Cell.TheVariants as cell
use Rattle.fq_column.specs.declared.cells.Kind.{Kind}
use Rattle.fq_column.specs.declared.faults.StepFault.{StepFault}
use Rattle.fq_column.specs.Frame.{Fields, Row}
use Rattle.fq_column.specs.Lists.{before_missing, all_or_missing}
use Rattle.fq_column.specs.Refusal.{and_then}
use Rattle.fq_column.specs.Stream.{Stream, done, faulted, then_stream, one_by_one}
use Rattle.fq_expr.specs.Expression.{Expression, Item}
use Rattle.fq_expr.specs.Kinds.{kind_of}
use Rattle.fq_expr.specs.Outputs.{all_kinds, fault_of, item_fault, one_more_unless, fault_or, rows_before_fault, first_fault, value_or_null}
use Rattle.fq_expr.specs.Steps.{item_values}
use Rattle.fq_expr.specs.Value.{value_of}

-- ---- one item more

-- the kinds of one item more
pub all_kinds-snoc : (fields : Fields) (items : List Item) (x : Item) (ks : List Kind) (k : Kind) → all_kinds fields items ≡ Ok ks → kind_of fields x.1 ≡ Ok k → all_kinds fields (items ++ x ∷ []) ≡ Ok (ks ++ k ∷ [])
all_kinds-snoc fields [] x ks k e g = ap (λ r. and_then r (λ k. Ok (k ∷ []))) g ∙ ap (λ l. Ok (l ++ k ∷ [])) (let h : [] ≡ ks = cc in h)
all_kinds-snoc fields (i ∷ items) x ks k e g = go (kind_of fields i.1) (all_kinds fields items) ks (λ js f. all_kinds-snoc fields items x js k f g) e
  where
    go : (a : Result Kind StepFault) (r : Result (List Kind) StepFault) (ks : List Kind) → ((js : List Kind) → r ≡ Ok js → all_kinds fields (items ++ x ∷ []) ≡ Ok (js ++ k ∷ [])) →
        and_then a (λ k. and_then r (λ ks. Ok (k ∷ ks))) ≡ Ok ks → and_then a (λ k. and_then (all_kinds fields (items ++ x ∷ [])) (λ ks. Ok (k ∷ ks))) ≡ Ok (ks ++ k ∷ [])
    go (Err f) r ks h e = absurd (cc)
    go (Ok a) (Err f) ks h e = absurd (cc)
    go (Ok a) (Ok js) ks h e = ap (λ r. and_then r (λ ks. Ok (a ∷ ks))) (h js refl) ∙ ap (λ l. Ok (l ++ k ∷ [])) (let g : a ∷ js ≡ ks = cc in g)

-- each item has a kind, if all have
pub kind-at : (fields : Fields) (items : List Item) (i : ℕ) (x : Item) → IsOk (all_kinds fields items) → i < length items → x ≡ get_or items i x → IsOk (kind_of fields x.1)
kind-at fields [] i x h b e = absurd (omega (arith, b))
kind-at fields (y ∷ items) i x h b e = go (kind_of fields y.1) (all_kinds fields items) refl (λ j c f g. kind-at fields items j x f c g) i h b e
  where
    go : (a : Result Kind StepFault) (r : Result (List Kind) StepFault) → kind_of fields y.1 ≡ a → ((j : ℕ) → j < length items → IsOk r → x ≡ get_or items j x → IsOk (kind_of fields x.1)) → (i : ℕ) →
        IsOk (and_then a (λ k. and_then r (λ ks. Ok (k ∷ ks)))) → i < length (y ∷ items) → x ≡ get_or (y ∷ items) i x → IsOk (kind_of fields x.1)
    go (Err f) r q rest i h b e = absurd (cc)
    go (Ok a) (Err f) q rest i h b e = absurd (cc)
    go (Ok a) (Ok ks) q rest zero h b e = ap is_ok (ap (λ (z : Item). kind_of fields z.1) e ∙ q)
    go (Ok a) (Ok ks) q rest (suc i) h b e = rest i (omega (arith, b)) refl e

-- an item's own fault
abbrev own_fault : Option Cell → ℕ → Option ℕ
own_fault None n = Some n
own_fault (Some c) n = None

-- the fault of one item more: that of the items before it, else its own
pub item_fault-snoc : (fields : Fields) (items : List Item) (x : Item) (row : Row) → item_fault fields (items ++ x ∷ []) row ≡ fault_or (item_fault fields items row) (own_fault (value_of fields x.1 row) (length items))
item_fault-snoc fields [] x row = go (value_of fields x.1 row)
  where
    go : (o : Option Cell) → fault_of (all_or_missing (o ∷ [])) ≡ own_fault o 0
    go None = refl
    go (Some c) = refl
item_fault-snoc fields (i ∷ items) x row = go (value_of fields i.1 row) (map (λ i. value_of fields i.1 row) items) (map (λ i. value_of fields i.1 row) (items ++ x ∷ [])) (value_of fields x.1 row) (item_fault-snoc fields items x row)
  where
    inner : (c : Cell) (r s : Result (List Cell) ℕ) (v : Option Cell) → fault_of s ≡ fault_or (fault_of r) (own_fault v (length items)) →
        fault_of (result_map_both (λ rest. c ∷ rest) suc s) ≡ fault_or (fault_of (result_map_both (λ rest. c ∷ rest) suc r)) (own_fault v (suc (length items)))
    inner c (Ok vs) (Ok ws) None h = absurd (cc)
    inner c (Ok vs) (Ok ws) (Some d) h = refl
    inner c (Ok vs) (Err j) None h = ap Some (let g : suc j ≡ suc (length items) = cc in g)
    inner c (Ok vs) (Err j) (Some d) h = absurd (cc)
    inner c (Err i) (Ok ws) v h = absurd (cc)
    inner c (Err i) (Err j) v h = ap Some (let g : suc j ≡ suc i = cc in g)

    go : (o : Option Cell) (xs ys : List (Option Cell)) (v : Option Cell) → fault_of (all_or_missing ys) ≡ fault_or (fault_of (all_or_missing xs)) (own_fault v (length items)) →
        fault_of (all_or_missing (o ∷ ys)) ≡ fault_or (fault_of (all_or_missing (o ∷ xs))) (own_fault v (suc (length items)))
    go None xs ys v h = refl
    go (Some c) xs ys v h = inner c (all_or_missing xs) (all_or_missing ys) v h

-- the rows before the first that faults, with one item more
module _ (F G : Row → Option ℕ) (v : Row → Option Cell) (n : ℕ) (same : (row : Row) → G row ≡ fault_or (F row) (own_fault (v row) n)) where
  abbrev rows-of : Option ℕ → Option Cell → List Row → ℕ → List (Option Cell)
  rows-of None o rs m = o ∷ map v (take m rs)
  rows-of (Some i) o rs m = []

  taken : (a : Option ℕ) (m : ℕ) (r : Row) (rs : List Row) → map v (take (one_more_unless a m) (r ∷ rs)) ≡ rows-of a (v r) rs m
  taken None m r rs = refl
  taken (Some i) m r rs = refl

  pub rows_before-snoc : (rows : List Row) → rows_before_fault G rows ≡ length (before_missing (map v (take (rows_before_fault F rows) rows)))
  rows_before-snoc [] = refl
  rows_before-snoc (r ∷ rs) = ap (λ o. one_more_unless o (rows_before_fault G rs)) (same r) ∙ go (F r) (v r) (rows_before-snoc rs) ∙ ap (λ l. length (before_missing l)) (sym (taken (F r) (rows_before_fault F rs) r rs))
    where
      go : (a : Option ℕ) (o : Option Cell) → rows_before_fault G rs ≡ length (before_missing (map v (take (rows_before_fault F rs) rs))) →
          one_more_unless (fault_or a (own_fault o n)) (rows_before_fault G rs) ≡ length (before_missing (rows-of a o rs (rows_before_fault F rs)))
      go (Some i) o h = refl
      go None None h = refl
      go None (Some c) h = ap suc h

  -- no row fewer: the fault that was there; else the new item's
  pub first_fault-same : (rows : List Row) → rows_before_fault F rows ≤ rows_before_fault G rows → first_fault G rows ≡ first_fault F rows
  first_fault-same [] h = refl
  first_fault-same (r ∷ rs) h = ap (λ o. fault_or o (first_fault G rs)) (same r) ∙ go (F r) (v r) (λ e. first_fault-same rs e) (let le : one_more_unless (F r) (rows_before_fault F rs) ≤ one_more_unless (fault_or (F r) (own_fault (v r) n)) (rows_before_fault G rs) = rw (← same r) h in le)
    where
      go : (a : Option ℕ) (o : Option Cell) → (rows_before_fault F rs ≤ rows_before_fault G rs → first_fault G rs ≡ first_fault F rs) →
          one_more_unless a (rows_before_fault F rs) ≤ one_more_unless (fault_or a (own_fault o n)) (rows_before_fault G rs) →
          fault_or (fault_or a (own_fault o n)) (first_fault G rs) ≡ fault_or a (first_fault F rs)
      go (Some i) o rest h = refl
      go None None rest h = absurd (omega (arith, h))
      go None (Some c) rest h = rest (omega (arith, h))

  pub first_fault-new : (rows : List Row) → rows_before_fault G rows < rows_before_fault F rows → first_fault G rows ≡ Some n
  first_fault-new [] h = absurd (omega (arith, h))
  first_fault-new (r ∷ rs) h = ap (λ o. fault_or o (first_fault G rs)) (same r) ∙ go (F r) (v r) (λ e. first_fault-new rs e) (let le : one_more_unless (fault_or (F r) (own_fault (v r) n)) (rows_before_fault G rs) < one_more_unless (F r) (rows_before_fault F rs) = rw (← same r) h in le)
    where
      go : (a : Option ℕ) (o : Option Cell) → (rows_before_fault G rs < rows_before_fault F rs → first_fault G rs ≡ Some n) →
          one_more_unless (fault_or a (own_fault o n)) (rows_before_fault G rs) < one_more_unless a (rows_before_fault F rs) →
          fault_or (fault_or a (own_fault o n)) (first_fault G rs) ≡ Some n
      go (Some i) o rest h = absurd (omega (arith, h))
      go None None rest h = refl
      go None (Some c) rest h = rest (omega (arith, h))

-- with no item no row faults
pub rows_before-none : (fields : Fields) (rows : List Row) → rows_before_fault (item_fault fields []) rows ≡ length rows
rows_before-none fields [] = refl
rows_before-none fields (r ∷ rs) = ap suc (rows_before-none fields rs)

pub first_fault-none : (fields : Fields) (rows : List Row) → first_fault (item_fault fields []) rows ≡ None
first_fault-none fields [] = refl
first_fault-none fields (r ∷ rs) = first_fault-none fields rs

-- ---- the values of the rows before the first that faults

-- an item's values, with null for a fault, in the rows before its first fault
pub values-before : (fields : Fields) (e : Expression) (rows : List Row) → before_missing (map (value_of fields e) rows) ≡ map (value_or_null fields e) (take (length (before_missing (map (value_of fields e) rows))) rows)
values-before fields e [] = refl
values-before fields e (r ∷ rs) = go (value_of fields e r) refl (values-before fields e rs)
  where
    go : (o : Option Cell) → value_of fields e r ≡ o → before_missing (map (value_of fields e) rs) ≡ map (value_or_null fields e) (take (length (before_missing (map (value_of fields e) rs))) rs) →
        before_missing (o ∷ map (value_of fields e) rs) ≡ map (value_or_null fields e) (take (length (before_missing (o ∷ map (value_of fields e) rs))) (r ∷ rs))
    go None q h = refl
    go (Some c) q h = λ i. unwrap_or (sym q i) cell.Null ∷ h i

-- the items' values on a row without a fault
row-values : (fields : Fields) (items : List Item) (row : Row) (values : List Cell) → item_values fields items row ≡ Ok values → values ≡ map (λ i. value_or_null fields i.1 row) items
row-values fields [] row values e = let g : [] ≡ values = cc in sym g
row-values fields (i ∷ items) row values e = go (value_of fields i.1 row) refl (map (λ i. value_of fields i.1 row) items) values (λ vs f. row-values fields items row vs f) e
  where
    inner : (c : Cell) → value_of fields i.1 row ≡ Some c → (r : Result (List Cell) ℕ) (values : List Cell) → ((vs : List Cell) → r ≡ Ok vs → vs ≡ map (λ i. value_or_null fields i.1 row) items) →
        result_map_both (λ rest. c ∷ rest) suc r ≡ Ok values → values ≡ map (λ i. value_or_null fields i.1 row) (i ∷ items)
    inner c q (Err j) values h e = absurd (cc)
    inner c q (Ok vs) values h e = (let g : values ≡ c ∷ vs = cc in g) ∙ (λ i. unwrap_or (sym q i) cell.Null ∷ h vs refl i)

    go : (o : Option Cell) → value_of fields i.1 row ≡ o → (xs : List (Option Cell)) (values : List Cell) → ((vs : List Cell) → all_or_missing xs ≡ Ok vs → vs ≡ map (λ i. value_or_null fields i.1 row) items) →
        all_or_missing (o ∷ xs) ≡ Ok values → values ≡ map (λ i. value_or_null fields i.1 row) (i ∷ items)
    go None q xs values h e = absurd (cc)
    go (Some c) q xs values h e = inner c q (all_or_missing xs) values h e

-- items that make one row of each row: the rows before the first that faults, and its fault
module _ (fields : Fields) (items : List Item) (f : List Cell → Row → Row) where
  abbrev pub made_of : Row → Result (List Row) ℕ
  made_of row = result_map_both (λ values. f values row ∷ []) (λ i. i) (item_values fields items row)

  abbrev streamed : Result (List Row) ℕ → Stream ℕ → Stream ℕ
  streamed r u = elim r [ Ok rows ↦ then_stream (done rows) u | Err i ↦ faulted i ]

  pub made-rows : (rows : List Row) → (one_by_one made_of rows).rows ≡ map (λ row. f (map (λ i. value_or_null fields i.1 row) items) row) (take (rows_before_fault (item_fault fields items) rows) rows)
  made-rows [] = refl
  made-rows (r ∷ rs) = go (item_values fields items r) (row-values fields items r) (made-rows rs)
    where
      go : (a : Result (List Cell) ℕ) → ((values : List Cell) → a ≡ Ok values → values ≡ map (λ i. value_or_null fields i.1 r) items) →
          (one_by_one made_of rs).rows ≡ map (λ row. f (map (λ i. value_or_null fields i.1 row) items) row) (take (rows_before_fault (item_fault fields items) rs) rs) →
          (streamed (result_map_both (λ values. f values r ∷ []) (λ i. i) a) (one_by_one made_of rs)).rows
          ≡ map (λ row. f (map (λ i. value_or_null fields i.1 row) items) row) (take (one_more_unless (fault_of a) (rows_before_fault (item_fault fields items) rs)) (r ∷ rs))
      go (Err i) q h = refl
      go (Ok vs) q h = λ i. f (q vs refl i) r ∷ h i

  pub made-fault : (rows : List Row) → (one_by_one made_of rows).fault ≡ first_fault (item_fault fields items) rows
  made-fault [] = refl
  made-fault (r ∷ rs) = go (item_values fields items r) (made-fault rs)
    where
      go : (a : Result (List Cell) ℕ) → (one_by_one made_of rs).fault ≡ first_fault (item_fault fields items) rs →
          (streamed (result_map_both (λ values. f values r ∷ []) (λ i. i) a) (one_by_one made_of rs)).fault ≡ fault_or (fault_of a) (first_fault (item_fault fields items) rs)
      go (Err i) h = refl
      go (Ok vs) h = h
