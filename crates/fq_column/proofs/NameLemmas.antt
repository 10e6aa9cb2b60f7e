-- Columns by their names: the place of a name, its kind, and whether it is there.
use Rattle.std.proofs.Common.{◌≡◌, ℕ, zero, suc, Bool, true, false, cond, ◌||◌, List, [], ◌∷◌, Some, None, Ok, Err, refl, sym, ap, ◌∙◌}
use Rattle.std.specs.Prelude.{option_map, slice_get}
use Rattle.std.specs.List.{position}
use Rattle.fq_column.specs.declared.cells.Kind.{Kind}
use Rattle.fq_column.specs.declared.faults.StepFault.TheVariants.{NoSuchColumn}
use Rattle.fq_column.specs.Frame.{Fields, Name, has_name, names_of, kinds_of, position_of, same_name}
use Rattle.fq_column.specs.Schema.{kind_named}
use Rattle.fq_column.proofs.PutLemmas.{position-cons, some_under, none_under}

-- ---- the place of the first that passes

pub position-here : {X : Type 0} (p : X → Bool) (x : X) (xs : List X) → p x ≡ true → position p (x ∷ xs) ≡ Some 0
position-here p x xs e = position-cons p x xs ∙ ap (λ b. cond b (Some 0) (option_map suc (position p xs))) e

pub position-past : {X : Type 0} (p : X → Bool) (x : X) (xs : List X) → p x ≡ false → position p (x ∷ xs) ≡ option_map suc (position p xs)
position-past p x xs e = position-cons p x xs ∙ ap (λ b. cond b (Some 0) (option_map suc (position p xs))) e

-- ---- the kind of a named column, by the name's place

pub kind_named-at : (fields : Fields) (name : Name) (i : ℕ) (k : Kind) → position_of name (names_of fields) ≡ Some i → slice_get (kinds_of fields) i ≡ Some k → kind_named fields name ≡ Ok k
kind_named-at [] name i k e g = absurd (cc)
kind_named-at (f ∷ fields) name i k e g = go (λ j a b. kind_named-at fields name j k a b) (same_name name f.0) i (sym (position-cons (same_name name) f.0 (names_of fields)) ∙ e) g
  where
    go : ((j : ℕ) → position_of name (names_of fields) ≡ Some j → slice_get (kinds_of fields) j ≡ Some k → kind_named fields name ≡ Ok k) → (b : Bool) (i : ℕ) →
        cond b (Some 0) (option_map suc (position_of name (names_of fields))) ≡ Some i → slice_get (f.1 ∷ kinds_of fields) i ≡ Some k → cond b (Ok f.1) (kind_named fields name) ≡ Ok k
    go rest true zero a g = cc
    go rest true (suc i) a g = absurd (cc)
    go rest false i a g = let w = some_under (position_of name (names_of fields)) i a in rest w.0 w.1 (let h : slice_get (f.1 ∷ kinds_of fields) (suc w.0) ≡ Some k = ap (slice_get (f.1 ∷ kinds_of fields)) w.2 ∙ g in h)

pub kind_named-none : (fields : Fields) (name : Name) → position_of name (names_of fields) ≡ None → kind_named fields name ≡ Err NoSuchColumn
kind_named-none [] name e = refl
kind_named-none (f ∷ fields) name e = go (λ a. kind_named-none fields name a) (same_name name f.0) (sym (position-cons (same_name name) f.0 (names_of fields)) ∙ e)
  where
    go : (position_of name (names_of fields) ≡ None → kind_named fields name ≡ Err NoSuchColumn) → (b : Bool) →
        cond b (Some 0) (option_map suc (position_of name (names_of fields))) ≡ None → cond b (Ok f.1) (kind_named fields name) ≡ Err NoSuchColumn
    go rest true a = absurd (cc)
    go rest false a = rest (none_under (position_of name (names_of fields)) a)

-- ---- whether a name is there, by its place

pub named-at : (fields : Fields) (name : Name) (i : ℕ) → position_of name (names_of fields) ≡ Some i → has_name (names_of fields) name ≡ true
named-at [] name i e = absurd (cc)
named-at (f ∷ fields) name i e = go (λ j a. named-at fields name j a) (same_name name f.0) i (sym (position-cons (same_name name) f.0 (names_of fields)) ∙ e)
  where
    go : ((j : ℕ) → position_of name (names_of fields) ≡ Some j → has_name (names_of fields) name ≡ true) → (b : Bool) (i : ℕ) →
        cond b (Some 0) (option_map suc (position_of name (names_of fields))) ≡ Some i → (b || has_name (names_of fields) name) ≡ true
    go rest true i a = refl
    go rest false i a = let w = some_under (position_of name (names_of fields)) i a in rest w.0 w.1

pub unnamed : (fields : Fields) (name : Name) → position_of name (names_of fields) ≡ None → has_name (names_of fields) name ≡ false
unnamed [] name e = refl
unnamed (f ∷ fields) name e = go (λ a. unnamed fields name a) (same_name name f.0) (sym (position-cons (same_name name) f.0 (names_of fields)) ∙ e)
  where
    go : (position_of name (names_of fields) ≡ None → has_name (names_of fields) name ≡ false) → (b : Bool) →
        cond b (Some 0) (option_map suc (position_of name (names_of fields))) ≡ None → (b || has_name (names_of fields) name) ≡ false
    go rest true a = absurd (cc)
    go rest false a = rest (none_under (position_of name (names_of fields)) a)
