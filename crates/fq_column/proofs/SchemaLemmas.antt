-- The names and kinds of a schema's fields.
use Rattle.std.proofs.lemmas.List.Sums.{position_or_len_is}
use Rattle.std.specs.List.{position}
use Rattle.std.proofs.lemmas.Bool.Decides.{nat_tests}
use Rattle.std.proofs.Common.{◌≡◌, ℕ, zero, suc, ◌<◌, get_or, Some, None, Option, Bool, true, false, cond, nat_lt, List, [], ◌∷◌, length, map, refl, ap, sym, arith}
use Rattle.std.specs.Prelude.{slice_get}
use Rattle.fq_column.specs.declared.cells.Kind.{Kind}
use Rattle.std.proofs.Common.{◌∙◌, ◌&&◌, ◌||◌, not, String, string_bytes, Global}
use Rattle.std.specs.List.{list_any}
use Rattle.std.specs.String.{string_eq}
use Rattle.std.specs.Cmp.Lexicographic.{pointwise, nat_list_eq_equiv}
use Rattle.fq_column.specs.Cell.{same_kind}
use Rattle.fq_column.specs.Frame.{Name, names_of, same_name}
use Rattle.fq_column.specs.Lists.{is_distinct}
use Rattle.fq_column.specs.Schema.{fields_of, same_fields}

pub names_of-fields_of : (names : List Name) (kinds : List Kind) → length names ≡ length kinds → names_of (fields_of names kinds) ≡ names
names_of-fields_of [] kinds e = refl
names_of-fields_of (n ∷ names) [] e = absurd (omega (arith, e))
names_of-fields_of (n ∷ names) (k ∷ kinds) e = ap (λ ns. n ∷ ns) (names_of-fields_of names kinds (omega (arith, e)))

pub kinds_of-fields_of : (names : List Name) (kinds : List Kind) → length names ≡ length kinds → map (λ f. f.1) (fields_of names kinds) ≡ kinds
kinds_of-fields_of [] [] e = refl
kinds_of-fields_of [] (k ∷ kinds) e = absurd (omega (arith, e))
kinds_of-fields_of (n ∷ names) [] e = absurd (omega (arith, e))
kinds_of-fields_of (n ∷ names) (k ∷ kinds) e = ap (λ ks. k ∷ ks) (kinds_of-fields_of names kinds (omega (arith, e)))

pub length-fields_of : (names : List Name) (kinds : List Kind) → length names ≡ length kinds → length (fields_of names kinds) ≡ length names
length-fields_of [] kinds e = refl
length-fields_of (n ∷ names) [] e = absurd (omega (arith, e))
length-fields_of (n ∷ names) (k ∷ kinds) e = ap suc (length-fields_of names kinds (omega (arith, e)))

pub slice_get-at : {X : Type 0} (xs : List X) (i : ℕ) (x : X) → i < length xs → x ≡ get_or xs i x → slice_get xs i ≡ Some x
slice_get-at [] i x h e = absurd (omega (arith, h))
slice_get-at (y ∷ xs) zero x h e = ap Some (sym e)
slice_get-at (y ∷ xs) (suc i) x h e = slice_get-at xs i x (omega (arith, h)) e

nat_lt-true : (m n : ℕ) → m < n → nat_lt m n ≡ true
nat_lt-true m n h = grind (arith, nat_tests)

nat_lt_same : (m : ℕ) → nat_lt m m ≡ false
nat_lt_same m = grind (arith, nat_tests)

-- the first place that passes, and none
pub position-at : {X : Type 0} (p : X → Bool) (xs : List X) (i : ℕ) (d : X) → i < length xs → ((k : ℕ) → k < i → p (get_or xs k d) ≡ false) → p (get_or xs i d) ≡ true → position p xs ≡ Some i
position-at p xs i d h before here =
    ap (λ j. let none : Option ℕ = None in cond (nat_lt j (length xs)) (Some j) none) (position_or_len_is p xs i d (omega (arith, h)) before (λ _. here))
    ∙ ap (λ b. let none : Option ℕ = None in cond b (Some i) none) (nat_lt-true i (length xs) h)

pub position-none : {X : Type 0} (p : X → Bool) (xs : List X) (d : X) → ((k : ℕ) → k < length xs → p (get_or xs k d) ≡ false) → position p xs ≡ None
position-none p xs d before =
    ap (λ j. let none : Option ℕ = None in cond (nat_lt j (length xs)) (Some j) none) (position_or_len_is p xs (length xs) d (omega arith) before (λ h. absurd (omega (arith, h))))
    ∙ ap (λ b. let none : Option ℕ = None in cond b (Some (length xs)) none) (nat_lt_same (length xs))

-- ---- names that are equal

-- a name among others
pub list_any-same_name : (x : String Global) (ys : List (String Global)) → list_any (λ y. string_eq y x) ys ≡ list_any (same_name (string_bytes x)) (map string_bytes ys)
list_any-same_name x [] = refl
list_any-same_name x (y ∷ ys) = λ i. nat_list_eq_equiv.symm (string_bytes y) (string_bytes x) i || list_any-same_name x ys i

pub not-and : (a b : Bool) → not (not a && b) ≡ (a || not b)
not-and true b = refl
not-and false b = refl

-- one more name: it is among the rest, or two of the rest are equal
pub not-is_distinct : (x : String Global) (ys : List (String Global)) →
    not (is_distinct same_name (map string_bytes (x ∷ ys))) ≡ (list_any (λ y. string_eq y x) ys || not (is_distinct same_name (map string_bytes ys)))
not-is_distinct x ys = not-and (list_any (same_name (string_bytes x)) (map string_bytes ys)) (is_distinct same_name (map string_bytes ys))
    ∙ ap (λ b. b || not (is_distinct same_name (map string_bytes ys))) (sym (list_any-same_name x ys))

-- ---- fields that are equal

regroup : (a b p q : Bool) → ((a && b) && (p && q)) ≡ ((a && p) && (b && q))
regroup false b p q = refl
regroup true false false q = refl
regroup true false true q = refl
regroup true true p q = refl

pub same_fields-fields_of : (ns ms : List Name) (ks ls : List Kind) → length ns ≡ length ks → length ms ≡ length ls →
    same_fields (fields_of ns ks) (fields_of ms ls) ≡ (pointwise same_name ns ms && pointwise same_kind ks ls)
same_fields-fields_of [] [] [] [] e f = refl
same_fields-fields_of [] [] [] (l ∷ ls) e f = absurd (omega (arith, f))
same_fields-fields_of [] [] (k ∷ ks) ls e f = absurd (omega (arith, e))
same_fields-fields_of [] (m ∷ ms) ks [] e f = absurd (omega (arith, f))
same_fields-fields_of [] (m ∷ ms) ks (l ∷ ls) e f = refl
same_fields-fields_of (n ∷ ns) ms [] ls e f = absurd (omega (arith, e))
same_fields-fields_of (n ∷ ns) [] (k ∷ ks) ls e f = refl
same_fields-fields_of (n ∷ ns) (m ∷ ms) (k ∷ ks) [] e f = absurd (omega (arith, f))
same_fields-fields_of (n ∷ ns) (m ∷ ms) (k ∷ ks) (l ∷ ls) e f =
    ap (λ b. (same_name n m && same_kind k l) && b) (same_fields-fields_of ns ms ks ls (omega (arith, e)) (omega (arith, f)))
    ∙ regroup (same_name n m) (same_kind k l) (pointwise same_name ns ms) (pointwise same_kind ks ls)
