-- The schema that the items of a step make, item by item.
use Rattle.std.proofs.Common.{◌≡◌, ℕ, zero, suc, ◌+◌, ◌<◌, ◌≤◌, Bool, true, false, not, cond, ◌||◌, List, [], ◌∷◌, length, map, filter, take, drop, Option, Some, None, Result, Ok, Err, refl, ap, sym, ◌∙◌, arith, get_or}
use Rattle.std.specs.Prelude.{option_map}
use Rattle.std.specs.Option.{is_none}
use Rattle.std.specs.List.{position, list_any}
use Rattle.std.proofs.lemmas.List.Sums.{fold-append, fold_more}
use Rattle.std.proofs.lemmas.List.{take-append-drop}
use Rattle.std.specs.Cmp.Lexicographic.{bytes_decides}
use Rattle.fq_column.specs.declared.cells.Kind.{Kind}
use Rattle.fq_column.specs.declared.faults.StepFault.{StepFault}
use Rattle.fq_column.specs.Frame.{Fields, Field, Name, names_of, same_name, has_name, put_named, put_all}
use Rattle.fq_column.specs.Refusal.{and_then}
use Rattle.fq_column.specs.Schema.{fields_of}
use Rattle.fq_column.proofs.PutLemmas.{position-cons, length-put_named}
use Rattle.fq_expr.specs.Expression.{Item}
use Rattle.fq_expr.specs.Kinds.{kind_of, item_fields, item_names, count_new}
use Rattle.fq_expr.specs.Outputs.{all_kinds}

-- the items' fields are their names with their kinds
pub item_fields-all_kinds : (fields : Fields) (items : List Item) → item_fields fields items ≡ and_then (all_kinds fields items) (λ ks. Ok (fields_of (item_names items) ks))
item_fields-all_kinds fields [] = refl
item_fields-all_kinds fields (i ∷ items) = go (kind_of fields i.1) (all_kinds fields items) (item_fields fields items) (item_fields-all_kinds fields items)
  where
    inner : (k : Kind) (ks : Result (List Kind) StepFault) → and_then (and_then ks (λ ks. Ok (fields_of (item_names items) ks))) (λ rest. Ok ((i.0, k) ∷ rest))
        ≡ and_then (and_then ks (λ ks. Ok (k ∷ ks))) (λ ks. Ok (fields_of (item_names (i ∷ items)) ks))
    inner k (Ok ks) = refl
    inner k (Err e) = refl

    go : (k : Result Kind StepFault) (ks : Result (List Kind) StepFault) (fs : Result Fields StepFault) → fs ≡ and_then ks (λ ks. Ok (fields_of (item_names items) ks)) →
        and_then k (λ k. and_then fs (λ rest. Ok ((i.0, k) ∷ rest)))
        ≡ and_then (and_then k (λ k. and_then ks (λ ks. Ok (k ∷ ks)))) (λ ks. Ok (fields_of (item_names (i ∷ items)) ks))
    go (Err e) ks fs h = refl
    go (Ok k) ks fs h = ap (λ r. and_then r (λ rest. Ok ((i.0, k) ∷ rest))) h ∙ inner k ks

pub length-all_kinds : (fields : Fields) (items : List Item) (ks : List Kind) → all_kinds fields items ≡ Ok ks → length ks ≡ length items
length-all_kinds fields [] ks e = ap length (let f : ks ≡ [] = cc in f)
length-all_kinds fields (i ∷ items) ks e = go (kind_of fields i.1) (all_kinds fields items) (λ js f. length-all_kinds fields items js f) ks e
  where
    go : (k : Result Kind StepFault) (r : Result (List Kind) StepFault) → ((js : List Kind) → r ≡ Ok js → length js ≡ length items) → (ks : List Kind) →
        and_then k (λ k. and_then r (λ ks. Ok (k ∷ ks))) ≡ Ok ks → length ks ≡ suc (length items)
    go (Err e) r h ks f = absurd (cc)
    go (Ok k) (Err e) h ks f = absurd (cc)
    go (Ok k) (Ok js) h ks f = ap length (let g : ks ≡ k ∷ js = cc in g) ∙ ap suc (h js refl)

-- a name with no place is not among the names
pub is_none-position : {X : Type 0} (p : X → Bool) (xs : List X) → is_none (position p xs) ≡ not (list_any p xs)
is_none-position p [] = refl
is_none-position p (x ∷ xs) = ap (λ o. is_none o) (position-cons p x xs) ∙ go (is_none-position p xs) (p x)
  where
    under : (o : Option ℕ) → is_none (option_map suc o) ≡ is_none o
    under None = refl
    under (Some n) = refl

    go : is_none (position p xs) ≡ not (list_any p xs) → (b : Bool) → is_none (cond b (Some 0) (option_map suc (position p xs))) ≡ not (b || list_any p xs)
    go rest true = refl
    go rest false = under (position p xs) ∙ rest

-- ---- how many columns there are after outputs are put

-- no new column if the name is there, else one more
pub length-put_named-by : {X : Type 0} (ps : List (Name × X)) (x : Name × X) → length (put_named ps x) ≡ length ps + cond (has_name (map (λ p. p.0) ps) x.0) 0 1
length-put_named-by [] x = omega arith
length-put_named-by (p ∷ ps) x = go (length-put_named-by ps x) (same_name x.0 p.0)
  where
    go : length (put_named ps x) ≡ length ps + cond (has_name (map (λ p. p.0) ps) x.0) 0 1 → (b : Bool) →
        length (cond b (x ∷ ps) (p ∷ put_named ps x)) ≡ suc (length ps) + cond (b || has_name (map (λ p. p.0) ps) x.0) 0 1
    go rest true = omega arith
    go rest false = omega (arith, rest)

-- the names that were there still are
pub has_name-put_named : {X : Type 0} (ps : List (Name × X)) (x : Name × X) (n : Name) → has_name (map (λ p. p.0) ps) n ≡ true → has_name (map (λ p. p.0) (put_named ps x)) n ≡ true
has_name-put_named [] x n h = absurd (cc)
has_name-put_named (p ∷ ps) x n h = go (λ e. has_name-put_named ps x n e) (same_name x.0 p.0) refl
  where
    either : (b c d : Bool) → (c ≡ true → d ≡ true) → (b || c) ≡ true → (b || d) ≡ true
    either true c d f e = refl
    either false c d f e = f e

    go : (has_name (map (λ p. p.0) ps) n ≡ true → has_name (map (λ p. p.0) (put_named ps x)) n ≡ true) → (b : Bool) → same_name x.0 p.0 ≡ b →
        has_name (map (λ p. p.0) (cond b (x ∷ ps) (p ∷ put_named ps x))) n ≡ true
    go rest true e = ap (λ m. same_name n m || has_name (map (λ p. p.0) ps) n) ((bytes_decides x.0 p.0).0 e) ∙ h
    go rest false e = either (same_name n p.0) (has_name (map (λ p. p.0) ps) n) (has_name (map (λ p. p.0) (put_named ps x)) n) rest h

-- as many more columns as outputs with a new name, at most
length-put_all-from : (base ps outputs : Fields) → ((n : Name) → has_name (names_of base) n ≡ true → has_name (names_of ps) n ≡ true) →
    length (put_all ps outputs) ≤ length ps + count_new base (map (λ p. p.0) outputs)
length-put_all-from base ps [] h = omega arith
length-put_all-from base ps (o ∷ outputs) h =
    go (has_name (names_of base) o.0) (has_name (names_of ps) o.0) (h o.0) (length-put_named-by ps o)
    (length-put_all-from base (put_named ps o) outputs (λ n e. has_name-put_named ps o n (h n e)))
  where
    go : (b c : Bool) → (b ≡ true → c ≡ true) → length (put_named ps o) ≡ length ps + cond c 0 1 →
        length (put_all (put_named ps o) outputs) ≤ length (put_named ps o) + count_new base (map (λ p. p.0) outputs) →
        length (put_all (put_named ps o) outputs) ≤ length ps + length (cond (not b) (o.0 ∷ filter (λ n. not (has_name (names_of base) n)) (map (λ p. p.0) outputs)) (filter (λ n. not (has_name (names_of base) n)) (map (λ p. p.0) outputs)))
    go true true f e le = omega (arith, e, le)
    go true false f e le = absurd (let g : false ≡ true = f refl in cc)
    go false true f e le = omega (arith, e, le)
    go false false f e le = omega (arith, e, le)

pub length-put_all : (fields outputs : Fields) → length (put_all fields outputs) ≤ length fields + count_new fields (map (λ p. p.0) outputs)
length-put_all fields outputs = length-put_all-from fields fields outputs (λ n e. e)

-- columns are only added
pub length-put_all-more : {X : Type 0} (ps outputs : List (Name × X)) → length ps ≤ length (put_all ps outputs)
length-put_all-more ps [] = omega arith
length-put_all-more ps (o ∷ outputs) = omega (arith, length-put_named ps o, length-put_all-more (put_named ps o) outputs)

pub length-put_all-take : {X : Type 0} (ps outputs : List (Name × X)) (i : ℕ) → length (put_all ps (take i outputs)) ≤ length (put_all ps outputs)
length-put_all-take ps outputs i =
    let e : put_all ps outputs ≡ put_all (put_all ps (take i outputs)) (drop i outputs) = ap (put_all ps) (sym (take-append-drop i outputs)) ∙ fold-append put_named ps (take i outputs) (drop i outputs) in
    omega (arith, ap length e, length-put_all-more (put_all ps (take i outputs)) (drop i outputs))

-- one more name, which is new or not
pub count_new-cons : (base : Fields) (n : Name) (names : List Name) → count_new base (n ∷ names) ≡ cond (has_name (names_of base) n) 0 1 + count_new base names
count_new-cons base n names = elim (has_name (names_of base) n) as (λ b. length (cond (not b) (n ∷ filter (λ n. not (has_name (names_of base) n)) names) (filter (λ n. not (has_name (names_of base) n)) names)) ≡ cond b 0 1 + count_new base names)
    [ true ↦ omega arith | false ↦ omega arith ]

-- the field at a place
pub fields_of-at : (names : List Name) (kinds : List Kind) (i : ℕ) (n : Name) (k : Kind) → i < length names → i < length kinds → get_or names i n ≡ n → get_or kinds i k ≡ k →
    get_or (fields_of names kinds) i (n, k) ≡ (n, k)
fields_of-at [] kinds i n k h g e f = refl
fields_of-at (m ∷ names) [] i n k h g e f = refl
fields_of-at (m ∷ names) (l ∷ kinds) zero n k h g e f = λ i. (e i, f i)
fields_of-at (m ∷ names) (l ∷ kinds) (suc i) n k h g e f = fields_of-at names kinds i n k (omega (arith, h)) (omega (arith, g)) e f

-- the columns with one more put among them
pub put_all-step : (fields outputs : Fields) (i : ℕ) (o : Field) → i < length outputs → get_or outputs i o ≡ o → put_all fields (take (i + 1) outputs) ≡ put_named (put_all fields (take i outputs)) o
put_all-step fields outputs i o h e = fold_more put_named fields outputs i o h ∙ ap (put_named (put_all fields (take i outputs))) e

pub names-fields_of : (names : List Name) (kinds : List Kind) → length names ≡ length kinds → map (λ (f : Field). f.0) (fields_of names kinds) ≡ names
names-fields_of [] kinds e = refl
names-fields_of (n ∷ names) [] e = absurd (omega (arith, e))
names-fields_of (n ∷ names) (k ∷ kinds) e = ap (λ ns. n ∷ ns) (names-fields_of names kinds (omega (arith, e)))
