-- The groups of the groups of parts are the groups of all rows.
use Rattle.std.proofs.Common.{◌≡◌, ℕ, suc, ◌^◌, ◌<◌, ◌⊎◌, inl, inr, Bool, true, false, not, cond, ◌||◌, List, [], ◌∷◌, ◌++◌, map, filter, length, nat_lt, ◌==◌, pos, Option, Some, None, Result, Ok, Err, refl, sym, ap, subst, ◌∙◌, true≢false, arith, append_assoc, append-nil}
use Rattle.std.specs.Prelude.{All, IsOk, slice_index_or}
use Rattle.std.specs.List.{flat_map, list_any}
use Rattle.std.specs.Option.{option_map, option_map_or}
use Rattle.std.specs.Result.{result_map_both}
use Rattle.std.specs.Bool.{Decides}
use Rattle.std.specs.Cmp.{first_so, second_so, signed_Decides}
use Rattle.std.specs.Cmp.Lexicographic.{bytes_decides, pointwise_decides}
use Rattle.std.proofs.lemmas.List.{length-append, length-map, map-append}
use Rattle.std.proofs.lemmas.List.Elements.{filter-append}
use Rattle.std.proofs.lemmas.Bool.{not-false}
use Rattle.fq_column.specs.declared.cells.Cell.{Cell}
use Rattle.fq_column.specs.declared.cells.Cell.TheVariants.{Null, Whole, Text, Truth}
use Rattle.fq_column.specs.declared.faults.StepFault.{StepFault}
use Rattle.fq_column.specs.declared.faults.StepFault.TheVariants.{DoubleName, NoColumn, TooMany}
use Rattle.fq_column.specs.declared.schemas.TheConstants.{MAX_COLUMNS}
use Rattle.fq_column.specs.Cell.{same_cell}
use Rattle.fq_column.specs.Frame.{Fields, Name, Row, names_of, position_of, same_name, value_at, value_named}
use Rattle.fq_column.specs.Lists.{all_or_missing, is_distinct}
use Rattle.fq_column.specs.Refusal.{first_refusal, refuse_if, unless_refused}
use Rattle.fq_column.specs.Schema.{kind_named}
use Rattle.fq_column.proofs.NameLemmas.{position-here, position-past}
use Rattle.fq_ops.specs.declared.aggregates.Function.{Function}
use Rattle.fq_ops.specs.declared.aggregates.Function.TheVariants as function
use Rattle.fq_ops.specs.Aggregate.{Aggregate, len, over, Output, aggregated, first_seen, value_of}
use Rattle.fq_ops.specs.Fields.{Judged, refusals, settled}
use Rattle.fq_ops.specs.Group.{aggregate_kind, all_ok, group_of, group_row, group_schema, grouped, grouped_fields, grouped_kinds, grouped_names, key_of, keys_of_rows, same_key}
use Rattle.fq_ops.specs.Parts.{output_over_parts, over_parts}
use Rattle.fq_ops.proofs.CombinedLemmas.{IsPart, combined, length-filter}
use Rattle.fq_ops.proofs.GroupLemmas.{Distinct, Distinct-first_seen, any-first_seen, none_with, same_cell_laws, same_key_laws}
use Rattle.fq_ops.proofs.GroupedLemmas.{AllIn-from, AllIn-seen}
use Rattle.fq_ops.proofs.ProbeLemmas.{AllIn}
use Rattle.fq_ops.proofs.SeenPartLemmas.{seen-of_parts}

-- ---- keys that are the same

same-cells : (a b : Cell) → Decides (same_cell a b) (a ≡ b)
same-cells a b = (told a b, λ e. subst (λ c. same_cell a c ≡ true) e (same_cell_laws.refl a))
  where
    told : (a b : Cell) → same_cell a b ≡ true → a ≡ b
    told Null Null e = refl
    told (Whole m) (Whole n) e = ap Whole ((signed_Decides m n).0 e)
    told (Text s) (Text t) e = ap Text ((bytes_decides s t).0 e)
    told (Truth true) (Truth true) e = refl
    told (Truth false) (Truth false) e = refl
    told a b e = absurd (cc)

same-keys : (k l : List Cell) → same_key k l ≡ true → k ≡ l
same-keys k l e = (pointwise_decides {E = same_cell} same-cells k l).0 e

-- ---- lists of lists

flat-map : {A B P : Type 0} (f : A → B) (rows : P → List A) (parts : List P) → map f (flat_map rows parts) ≡ flat_map (λ p. map f (rows p)) parts
flat-map f rows [] = refl
flat-map f rows (p ∷ parts) = map-append f (rows p) (flat_map rows parts) ∙ ap (λ l. map f (rows p) ++ l) (flat-map f rows parts)

module _ {A P : Type 0} where
  flat-filter : (t : A → Bool) (rows : P → List A) (parts : List P) → filter t (flat_map rows parts) ≡ flat_map (λ p. filter t (rows p)) parts
  flat-filter t rows [] = refl
  flat-filter t rows (p ∷ parts) = filter-append t (rows p) (flat_map rows parts) ∙ ap (λ l. filter t (rows p) ++ l) (flat-filter t rows parts)

  flat-same : (f g : P → List A) (parts : List P) → AllIn (λ p. f p ≡ g p) parts → flat_map f parts ≡ flat_map g parts
  flat-same f g [] all = refl
  flat-same f g (p ∷ parts) (e, all) = λ i. e i ++ flat-same f g parts all i

AllIn-through : {P : Type 0} (Q R : P → Type 0) → ((p : P) → Q p → R p) → (parts : List P) → AllIn Q parts → AllIn R parts
AllIn-through Q R to [] all = tt
AllIn-through Q R to (p ∷ parts) (q, all) = (to p q, AllIn-through Q R to parts all)

-- ---- the columns of the groups

names-settled : (ps : List Judged) → names_of (settled ps) ≡ map (λ p. p.0) ps
names-settled [] = refl
names-settled (p ∷ ps) = ap (λ l. p.0 ∷ l) (names-settled ps)

names-grouped : (fields : Fields) (keys : List Name) (outputs : List Output) → names_of (grouped_fields fields keys outputs) ≡ grouped_names keys outputs
names-grouped fields keys outputs = names-settled (grouped_kinds fields keys outputs) ∙ of_keys keys
  where
    of_outputs : (os : List Output) → map (λ (p : Judged). p.0) (map (λ o. (o.0, aggregate_kind fields o.1)) os) ≡ map (λ o. o.0) os
    of_outputs [] = refl
    of_outputs (o ∷ os) = ap (λ l. o.0 ∷ l) (of_outputs os)

    of_keys : (ks : List Name) → map (λ (p : Judged). p.0) (map (λ n. (n, kind_named fields n)) ks ++ map (λ o. (o.0, aggregate_kind fields o.1)) outputs) ≡ ks ++ map (λ o. o.0) outputs
    of_keys [] = of_outputs outputs
    of_keys (k ∷ ks) = ap (λ l. k ∷ l) (of_keys ks)

none-first : {X : Type 0} (checks : List (Option StepFault)) (x : X) → IsOk (unless_refused checks x) → first_refusal checks ≡ None
none-first {X} checks x ok = by (first_refusal checks) ok
  where
    by : (o : Option StepFault) → IsOk (elim o as (λ _. Result X StepFault) [ None ↦ Ok x | Some fault ↦ Err fault ]) → o ≡ None
    by None h = refl
    by (Some f) h = absurd (cc)

none-behind : (xs ys : List (Option StepFault)) → first_refusal (xs ++ ys) ≡ None → first_refusal ys ≡ None
none-behind [] ys e = e
none-behind (None ∷ xs) ys e = none-behind xs ys e
none-behind (Some f ∷ xs) ys e = absurd (cc)

not-refused : (b : Bool) (f : StepFault) → first_refusal (refuse_if b f ∷ []) ≡ None → b ≡ false
not-refused true f e = absurd (cc)
not-refused false f e = refl

distinct-grouped : (fields : Fields) (keys : List Name) (outputs : List Output) → IsOk (group_schema fields keys outputs) → is_distinct same_name (grouped_names keys outputs) ≡ true
distinct-grouped fields keys outputs ok =
    let names = grouped_names keys outputs in
    let last : List (Option StepFault) = refuse_if (not (is_distinct same_name names)) DoubleName ∷ [] in
    let many : List (Option StepFault) = refuse_if (nat_lt MAX_COLUMNS (length names)) TooMany ∷ [] in
    let none = none-first (refuse_if (length keys == 0) NoColumn ∷ (refusals (grouped_kinds fields keys outputs) ++ (refuse_if (nat_lt MAX_COLUMNS (length names)) TooMany ∷ last))) (grouped_fields fields keys outputs) ok in
    let none_after = none-behind (refusals (grouped_kinds fields keys outputs)) (many ++ last) (none-behind (refuse_if (length keys == 0) NoColumn ∷ []) (refusals (grouped_kinds fields keys outputs) ++ (many ++ last)) none) in
    not-false (is_distinct same_name names) (not-refused (not (is_distinct same_name names)) DoubleName (none-behind many last none_after))

-- ---- a row's values under names

any-among : (n : Name) (after l : List Name) → list_any (same_name n) (l ++ n ∷ after) ≡ true
any-among n after [] = ap (λ b. b || list_any (same_name n) after) ((bytes_decides n n).1 refl)
any-among n after (x ∷ l) = by (same_name n x) (any-among n after l)
  where
    by : (b : Bool) → list_any (same_name n) (l ++ n ∷ after) ≡ true → (b || list_any (same_name n) (l ++ n ∷ after)) ≡ true
    by true e = refl
    by false e = e

position-behind : (before : List Name) (n : Name) (after : List Name) → is_distinct same_name (before ++ n ∷ after) ≡ true → position_of n (before ++ n ∷ after) ≡ Some (length before)
position-behind [] n after d = position-here (same_name n) n after ((bytes_decides n n).1 refl)
position-behind (m ∷ before) n after d =
    position-past (same_name n) m (before ++ n ∷ after) (apart (same_name n m) refl)
    ∙ ap (option_map suc) (position-behind before n after (second_so (not (list_any (same_name m) (before ++ n ∷ after))) (is_distinct same_name (before ++ n ∷ after)) d))
  where
    apart : (b : Bool) → same_name n m ≡ b → same_name n m ≡ false
    apart false e = e
    apart true e =
        let first = first_so (not (list_any (same_name m) (before ++ n ∷ after))) (is_distinct same_name (before ++ n ∷ after)) d in
        let here : list_any (same_name m) (before ++ n ∷ after) ≡ true = ap (λ x. list_any (same_name x) (before ++ n ∷ after)) (sym ((bytes_decides n m).0 e)) ∙ any-among n after before in
        absurd (true≢false (sym first ∙ ap not here))

at-length : (pre : List Cell) (x : Cell) (post : List Cell) → slice_index_or (pre ++ x ∷ post) (length pre) Null ≡ x
at-length [] x post = refl
at-length (c ∷ pre) x post = at-length pre x post

-- the values under names that follow others are the cells that follow as many others
reads : (fields : Fields) (before names after : List Name) (pre xs post : List Cell) → names_of fields ≡ before ++ (names ++ after) → is_distinct same_name (before ++ (names ++ after)) ≡ true →
    length pre ≡ length before → length xs ≡ length names → map (λ n. value_named fields n (pre ++ (xs ++ post))) names ≡ xs
reads fields before [] after pre [] post e d l m = refl
reads fields before [] after pre (x ∷ xs) post e d l m = absurd (omega (arith, m))
reads fields before (n ∷ names) after pre [] post e d l m = absurd (omega (arith, m))
reads fields before (n ∷ names) after pre (x ∷ xs) post e d l m =
    let rest = reads fields (before ++ n ∷ []) names after (pre ++ x ∷ []) xs post (e ∙ sym (append_assoc before (n ∷ []) (names ++ after)))
    (ap (is_distinct same_name) (append_assoc before (n ∷ []) (names ++ after)) ∙ d) (omega (arith, l, length-append pre (x ∷ []), length-append before (n ∷ []))) (omega (arith, m)) in
    λ i. here i ∷ (moved ∙ rest) i
  where
    here : value_named fields n (pre ++ (x ∷ (xs ++ post))) ≡ x
    here =
        ap (λ ns. option_map_or (λ i. value_at i (pre ++ (x ∷ (xs ++ post)))) (position_of n ns) Null) e
        ∙ ap (λ o. option_map_or (λ i. value_at i (pre ++ (x ∷ (xs ++ post)))) o Null) (position-behind before n (names ++ after) d)
        ∙ ap (λ i. value_at i (pre ++ (x ∷ (xs ++ post)))) (sym l)
        ∙ at-length pre x (xs ++ post)

    moved : map (λ k. value_named fields k (pre ++ (x ∷ (xs ++ post)))) names ≡ map (λ k. value_named fields k ((pre ++ x ∷ []) ++ (xs ++ post))) names
    moved = ap (λ row. map (λ k. value_named fields k row) names) (sym (append_assoc pre (x ∷ []) (xs ++ post)))

-- ---- the rows of a grouping

all-made : (os : List (Option Cell)) (cells : List Cell) → all_or_missing os ≡ Ok cells → map Some cells ≡ os
all-made [] [] e = refl
all-made [] (c ∷ cells) e = absurd (cc)
all-made (None ∷ os) cells e = absurd (cc)
all-made (Some x ∷ os) cells e = by (all_or_missing os) refl e (λ rest. all-made os rest)
  where
    by : (r : Result (List Cell) ℕ) → all_or_missing os ≡ r → result_map_both (λ rest. x ∷ rest) suc r ≡ Ok cells → ((rest : List Cell) → all_or_missing os ≡ Ok rest → map Some rest ≡ os) → map Some cells ≡ Some x ∷ os
    by (Err n) q h ih = absurd (cc)
    by (Ok rest) q h ih = let is : x ∷ rest ≡ cells = cc in ap (map Some) (sym is) ∙ ap (λ l. Some x ∷ l) (ih rest q)

module _ (fields : Fields) (keys : List Name) (outputs : List Output) (ok : IsOk (group_schema fields keys outputs)) where
  abbrev made : Fields
  made = grouped_fields fields keys outputs

  abbrev names : List Name
  names = map (λ o. o.0) outputs

  distinct : is_distinct same_name (keys ++ names) ≡ true
  distinct = distinct-grouped fields keys outputs ok

  -- the row of a key, by its cells
  pub record IsRowOf (rows : List Row) (key : List Cell) (row : Row) : Type 0 where
    pub cells : List Cell
    pub is : row ≡ key ++ cells
    pub values : map Some cells ≡ map (λ o. aggregated fields o.1 (group_of fields keys rows key)) outputs

  row-of : (rows : List Row) (key : List Cell) (row : Row) → group_row fields keys outputs rows key ≡ Ok row → IsRowOf rows key row
  row-of rows key row e = by (all_or_missing (map (λ o. aggregated fields o.1 (group_of fields keys rows key)) outputs)) refl e
    where
      by : (r : Result (List Cell) ℕ) → all_or_missing (map (λ o. aggregated fields o.1 (group_of fields keys rows key)) outputs) ≡ r → result_map_both (λ cells. key ++ cells) (λ i. i) r ≡ Ok row → IsRowOf rows key row
      by (Err n) q h = absurd (cc)
      by (Ok cells) q h = record { cells = cells; is = cc; values = all-made _ cells q }

  module _ (rows : List Row) (key : List Cell) (row : Row) (of : IsRowOf rows key row) (long : length key ≡ length keys) where
    counted : length of.cells ≡ length names
    counted = sym (length-map of.cells Some) ∙ ap length of.values ∙ length-map outputs (λ o. aggregated fields o.1 (group_of fields keys rows key)) ∙ sym (length-map outputs (λ o. o.0))

    key-read : key_of made keys row ≡ key
    key-read =
        ap (key_of made keys) of.is
        ∙ reads made [] keys names [] key of.cells (names-grouped fields keys outputs) distinct refl long

    cells-read : map (λ n. value_named made n row) names ≡ of.cells
    cells-read =
        ap (λ r. map (λ n. value_named made n r) names) (of.is ∙ ap (λ l. key ++ l) (sym (append-nil of.cells)))
        ∙ reads made keys names [] key of.cells [] (names-grouped fields keys outputs ∙ ap (λ l. keys ++ l) (sym (append-nil names)))
        (ap (λ l. is_distinct same_name (keys ++ l)) (append-nil names) ∙ distinct) long counted

    value-read : (before : List Output) (o : Output) (after : List Output) → outputs ≡ before ++ o ∷ after → Some (value_named made o.0 row) ≡ aggregated fields o.1 (group_of fields keys rows key)
    value-read before o after e = at before outputs e (sym (mapped outputs) ∙ ap (map Some) cells-read ∙ of.values)
      where
        mapped : (os : List Output) → map Some (map (λ n. value_named made n row) (map (λ o. o.0) os)) ≡ map (λ o. Some (value_named made o.0 row)) os
        mapped [] = refl
        mapped (p ∷ os) = ap (λ l. Some (value_named made p.0 row) ∷ l) (mapped os)

        at : (before os : List Output) → os ≡ before ++ o ∷ after → map (λ p. Some (value_named made p.0 row)) os ≡ map (λ p. aggregated fields p.1 (group_of fields keys rows key)) os →
            Some (value_named made o.0 row) ≡ aggregated fields o.1 (group_of fields keys rows key)
        at [] [] q h = absurd (cc)
        at [] (p ∷ os) q h = let is : p ≡ o = cc in let one : Some (value_named made p.0 row) ≡ aggregated fields p.1 (group_of fields keys rows key) = cc in
            subst (λ z. Some (value_named made z.0 row) ≡ aggregated fields z.1 (group_of fields keys rows key)) is one
        at (b ∷ before) [] q h = absurd (cc)
        at (b ∷ before) (p ∷ os) q h = at before os (cc) (cc)

  -- the rows of the groups of some rows, by their keys
  module _ (rows : List Row) where
    all-rows : (keyed : List (List Cell)) (groups : List Row) → all_ok (map (group_row fields keys outputs rows) keyed) ≡ Ok groups → AllIn (λ l. length l ≡ length keys) keyed → map (key_of made keys) groups ≡ keyed
    all-rows [] groups e long = ap (map (key_of made keys)) (let is : groups ≡ [] = cc in is)
    all-rows (l ∷ keyed) groups e (one, long) = by (group_row fields keys outputs rows l) refl (all_ok (map (group_row fields keys outputs rows) keyed)) refl e (λ rest h. all-rows keyed rest h long)
      where
        by : (r : Result Row ℕ) → group_row fields keys outputs rows l ≡ r → (q : Result (List Row) ℕ) → all_ok (map (group_row fields keys outputs rows) keyed) ≡ q → all_ok (group_row fields keys outputs rows l ∷ map (group_row fields keys outputs rows) keyed) ≡ Ok groups →
            ((rest : List Row) → all_ok (map (group_row fields keys outputs rows) keyed) ≡ Ok rest → map (key_of made keys) rest ≡ keyed) → map (key_of made keys) groups ≡ l ∷ keyed
        by (Err i) h q j e ih = absurd (let z : Err i ≡ Ok groups = ap (λ (r : Result Row ℕ). all_ok (r ∷ map (group_row fields keys outputs rows) keyed)) (sym h) ∙ e in cc)
        by (Ok row) h (Err i) j e ih = absurd (let z : Err i ≡ Ok groups = ap (result_map_both (λ xs. row ∷ xs) (λ e. e)) (sym j) ∙ ap (λ (r : Result Row ℕ). all_ok (r ∷ map (group_row fields keys outputs rows) keyed)) (sym h) ∙ e in cc)
        by (Ok row) h (Ok rest) j e ih =
            let z : Ok (row ∷ rest) ≡ Ok groups = ap (result_map_both (λ xs. row ∷ xs) (λ e. e)) (sym j) ∙ ap (λ (r : Result Row ℕ). all_ok (r ∷ map (group_row fields keys outputs rows) keyed)) (sym h) ∙ e in
            let is : row ∷ rest ≡ groups = cc in
            ap (map (key_of made keys)) (sym is) ∙ (λ i. key-read rows l row (row-of rows l row h) one i ∷ ih rest j i)

    abbrev hits : List Cell → Row → Bool
    hits key row = same_key key (key_of made keys row)

    -- a key has no row there, or one
    abbrev IsAlone : List Cell → List (List Cell) → List Row → Type 0
    IsAlone key keyed groups =
        ((list_any (same_key key) keyed ≡ false) × (filter (λ row. same_key key (key_of made keys row)) groups ≡ []))
        ⊎ ((row : Row) × (list_any (same_key key) keyed ≡ true) × (filter (λ row. same_key key (key_of made keys row)) groups ≡ row ∷ []) × IsRowOf rows key row × (length key ≡ length keys))

    alone : (key : List Cell) (keyed : List (List Cell)) → Distinct same_key keyed → (groups : List Row) → all_ok (map (group_row fields keys outputs rows) keyed) ≡ Ok groups → AllIn (λ l. length l ≡ length keys) keyed → IsAlone key keyed groups
    alone key [] d groups e long = inl (refl, ap (filter (λ row. same_key key (key_of made keys row))) (let is : groups ≡ [] = cc in is))
    alone key (l ∷ keyed) (first, d) groups e (one, long) =
        by (group_row fields keys outputs rows l) refl (all_ok (map (group_row fields keys outputs rows) keyed)) refl e (λ rest h. alone key keyed d rest h long)
      where
        here : (row : Row) (rest : List Row) → group_row fields keys outputs rows l ≡ Ok row → IsAlone key keyed rest → (b : Bool) → same_key key l ≡ b → IsAlone key (l ∷ keyed) (row ∷ rest)
        here row rest h (inl (none, nothing)) true k =
            let is : l ≡ key = sym (same-keys key l k) in
            inr (
              row,
              ap (λ b. b || list_any (same_key key) keyed) k,
              ap (λ x. cond (same_key key x) (row ∷ filter (hits key) rest) (filter (hits key) rest)) (key-read rows l row (row-of rows l row h) one)
                  ∙ ap (λ b. cond b (row ∷ filter (hits key) rest) (filter (hits key) rest)) k ∙ ap (λ xs. row ∷ xs) nothing,
              subst (λ x. IsRowOf rows x row) is (row-of rows l row h),
              ap length (sym is) ∙ one,
            )
        here row rest h (inr (other, there, only, of, long)) true k =
            absurd (true≢false (sym there ∙ ap (λ x. list_any (same_key x) keyed) (same-keys key l k) ∙ first))
        here row rest h (inl (none, nothing)) false k =
            inl (
              ap (λ b. b || list_any (same_key key) keyed) k ∙ none,
              ap (λ x. cond (same_key key x) (row ∷ filter (hits key) rest) (filter (hits key) rest)) (key-read rows l row (row-of rows l row h) one)
                  ∙ ap (λ b. cond b (row ∷ filter (hits key) rest) (filter (hits key) rest)) k ∙ nothing,
            )
        here row rest h (inr (other, there, only, of, long)) false k =
            inr (
              other,
              ap (λ b. b || list_any (same_key key) keyed) k ∙ there,
              ap (λ x. cond (same_key key x) (row ∷ filter (hits key) rest) (filter (hits key) rest)) (key-read rows l row (row-of rows l row h) one)
                  ∙ ap (λ b. cond b (row ∷ filter (hits key) rest) (filter (hits key) rest)) k ∙ only,
              of,
              long,
            )

        by : (r : Result Row ℕ) → group_row fields keys outputs rows l ≡ r → (q : Result (List Row) ℕ) → all_ok (map (group_row fields keys outputs rows) keyed) ≡ q → all_ok (group_row fields keys outputs rows l ∷ map (group_row fields keys outputs rows) keyed) ≡ Ok groups →
            ((rest : List Row) → all_ok (map (group_row fields keys outputs rows) keyed) ≡ Ok rest → IsAlone key keyed rest) → IsAlone key (l ∷ keyed) groups
        by (Err i) h q j e ih = absurd (let z : Err i ≡ Ok groups = ap (λ (r : Result Row ℕ). all_ok (r ∷ map (group_row fields keys outputs rows) keyed)) (sym h) ∙ e in cc)
        by (Ok row) h (Err i) j e ih = absurd (let z : Err i ≡ Ok groups = ap (result_map_both (λ xs. row ∷ xs) (λ e. e)) (sym j) ∙ ap (λ (r : Result Row ℕ). all_ok (r ∷ map (group_row fields keys outputs rows) keyed)) (sym h) ∙ e in cc)
        by (Ok row) h (Ok rest) j e ih =
            let z : Ok (row ∷ rest) ≡ Ok groups = ap (result_map_both (λ xs. row ∷ xs) (λ e. e)) (sym j) ∙ ap (λ (r : Result Row ℕ). all_ok (r ∷ map (group_row fields keys outputs rows) keyed)) (sym h) ∙ e in
            let is : row ∷ rest ≡ groups = cc in
            subst (IsAlone key (l ∷ keyed)) is (here row rest h (ih rest j) (same_key key l) refl)

    long-keys : (some : List Row) → AllIn (λ l. length l ≡ length keys) (map (key_of fields keys) some)
    long-keys [] = tt
    long-keys (row ∷ some) = (length-map keys (λ n. value_named fields n row), long-keys some)

    long-seen : AllIn (λ l. length l ≡ length keys) (keys_of_rows fields keys rows)
    long-seen = AllIn-seen (λ l. length l ≡ length keys) same_key (map (key_of fields keys) rows) (long-keys rows)

    some-with : (key : List Cell) (some : List Row) → list_any (same_key key) (map (key_of fields keys) some) ≡ true → (row : Row) × (rest : List Row) × (group_of fields keys some key ≡ row ∷ rest)
    some-with key [] e = absurd (true≢false (sym e))
    some-with key (row ∷ some) e = by (same_key key (key_of fields keys row)) refl (λ h. some-with key some h)
      where
        by : (b : Bool) → same_key key (key_of fields keys row) ≡ b → (list_any (same_key key) (map (key_of fields keys) some) ≡ true → (r : Row) × (rest : List Row) × (group_of fields keys some key ≡ r ∷ rest)) →
            (r : Row) × (rest : List Row) × (group_of fields keys (row ∷ some) key ≡ r ∷ rest)
        by true k ih = (row, group_of fields keys some key, ap (λ b. cond b (row ∷ group_of fields keys some key) (group_of fields keys some key)) k)
        by false k ih =
            let later = ih (sym (ap (λ b. b || list_any (same_key key) (map (key_of fields keys) some)) k) ∙ e) in
            (later.0, later.1, ap (λ b. cond b (row ∷ group_of fields keys some key) (group_of fields keys some key)) k ∙ later.2)

  -- ---- each output

  -- an aggregate as a function of cells
  abbrev function_of : Aggregate → Function
  function_of len = function.Len
  function_of (over f n) = f

  abbrev cell_of : Aggregate → Row → Cell
  cell_of len row = value_at 0 row
  cell_of (over f n) row = value_named fields n row

  as-function : (a : Aggregate) (rows : List Row) → aggregated fields a rows ≡ value_of (function_of a) (map (cell_of a) rows)
  as-function len rows = ap (λ n. Some (Whole (pos n))) (sym (length-map rows (value_at 0)))
  as-function (over f n) rows = refl

  again-is : (o a : Output) → output_over_parts o ≡ Some a → (g : Function) × (over_parts (function_of o.1) ≡ Some g) × (a ≡ (o.0, over g o.0))
  again-is (n, len) a e = (function.Sum, refl, cc)
  again-is (n, over f c) a e = by (over_parts f) refl e
    where
      by : (r : Option Function) → over_parts f ≡ r → option_map (λ g. (n, over g n)) r ≡ Some a → (g : Function) × (over_parts f ≡ Some g) × (a ≡ (n, over g n))
      by None q h = absurd (cc)
      by (Some g) q h = (g, q, cc)

  module _ (before : List Output) (o : Output) (after : List Output) (at : outputs ≡ before ++ o ∷ after) (key : List Cell) where
    part : (rows groups : List Row) → grouped fields keys outputs rows ≡ Ok groups →
        IsPart (function_of o.1) (map (cell_of o.1) (group_of fields keys rows key)) (map (value_named made o.0) (group_of made keys groups key))
    part rows groups e = by (alone rows key (keys_of_rows fields keys rows) (Distinct-first_seen same_key (map (key_of fields keys) rows)) groups e (long-seen rows))
      where
        by : IsAlone rows key (keys_of_rows fields keys rows) groups → IsPart (function_of o.1) (map (cell_of o.1) (group_of fields keys rows key)) (map (value_named made o.0) (group_of made keys groups key))
        by (inl (none, nothing)) =
            inl (
              ap (map (cell_of o.1)) (none_with same_key same_key_laws (key_of fields keys) key rows (sym (any-first_seen same_key same_key_laws key (map (key_of fields keys) rows)) ∙ none)),
              ap (map (value_named made o.0)) nothing,
            )
        by (inr (row, there, only, of, long)) =
            let some = some-with rows key rows (sym (any-first_seen same_key same_key_laws key (map (key_of fields keys) rows)) ∙ there) in
            inr (
              cell_of o.1 some.0,
              map (cell_of o.1) some.1,
              value_named made o.0 row,
              ap (map (cell_of o.1)) some.2,
              ap (map (value_named made o.0)) only,
              sym (as-function o.1 (group_of fields keys rows key)) ∙ sym (value-read rows key row of long before o after at),
            )

    one-output : (a : Output) → output_over_parts o ≡ Some a → (parts : List (List Row × List Row)) → AllIn (λ (p : List Row × List Row). grouped fields keys outputs p.0 ≡ Ok p.1) parts → length (flat_map (λ (p : List Row × List Row). p.0) parts) < 2 ^ 63 →
        aggregated made a.1 (group_of made keys (flat_map (λ p. p.1) parts) key) ≡ aggregated fields o.1 (group_of fields keys (flat_map (λ p. p.0) parts) key)
    one-output a again parts all few =
        let of = again-is o a again in
        let cells = λ (p : List Row × List Row). map (cell_of o.1) (group_of fields keys p.0 key) in
        let values = λ (p : List Row × List Row). map (value_named made o.0) (group_of made keys p.1 key) in
        let flat : map (cell_of o.1) (group_of fields keys (flat_map (λ (p : List Row × List Row). p.0) parts) key) ≡ flat_map cells parts =
        ap (map (cell_of o.1)) (flat-filter (λ row. same_key key (key_of fields keys row)) (λ (p : List Row × List Row). p.0) parts)
        ∙ flat-map (cell_of o.1) (λ (p : List Row × List Row). group_of fields keys p.0 key) parts in
        let flat_values : map (value_named made o.0) (group_of made keys (flat_map (λ (p : List Row × List Row). p.1) parts) key) ≡ flat_map values parts =
        ap (map (value_named made o.0)) (flat-filter (λ row. same_key key (key_of made keys row)) (λ (p : List Row × List Row). p.1) parts)
        ∙ flat-map (value_named made o.0) (λ (p : List Row × List Row). group_of made keys p.1 key) parts in
        ap (λ (b : Output). aggregated made b.1 (group_of made keys (flat_map (λ (p : List Row × List Row). p.1) parts) key)) of.2
        ∙ ap (value_of of.0) flat_values
        ∙ combined (function_of o.1) cells values of.0 of.1 parts (AllIn-through (λ (p : List Row × List Row). grouped fields keys outputs p.0 ≡ Ok p.1) (λ p. IsPart (function_of o.1) (cells p) (values p)) (λ p e. part p.0 p.1 e) parts all)
        (omega (arith, few, ap length (sym flat), length-map (group_of fields keys (flat_map (λ (p : List Row × List Row). p.0) parts) key) (cell_of o.1), length-filter (λ row. same_key key (key_of fields keys row)) (flat_map (λ (p : List Row × List Row). p.0) parts)))
        ∙ ap (value_of (function_of o.1)) (sym flat)
        ∙ sym (as-function o.1 (group_of fields keys (flat_map (λ (p : List Row × List Row). p.0) parts) key))

  all-outputs : (key : List Cell) (parts : List (List Row × List Row)) → AllIn (λ (p : List Row × List Row). grouped fields keys outputs p.0 ≡ Ok p.1) parts → length (flat_map (λ (p : List Row × List Row). p.0) parts) < 2 ^ 63 →
      (before rest again : List Output) → outputs ≡ before ++ rest → map output_over_parts rest ≡ map Some again →
      map (λ a. aggregated made a.1 (group_of made keys (flat_map (λ (p : List Row × List Row). p.1) parts) key)) again ≡ map (λ o. aggregated fields o.1 (group_of fields keys (flat_map (λ (p : List Row × List Row). p.0) parts) key)) rest
  all-outputs key parts all few before [] [] at e = refl
  all-outputs key parts all few before [] (a ∷ again) at e = absurd (cc)
  all-outputs key parts all few before (o ∷ rest) [] at e = absurd (cc)
  all-outputs key parts all few before (o ∷ rest) (a ∷ again) at e =
      λ i. one-output before o rest at key a (cc) parts all few i ∷ all-outputs key parts all few (before ++ o ∷ []) rest again (at ∙ sym (append_assoc before (o ∷ []) rest)) (cc) i

  same-keys-seen : (parts : List (List Row × List Row)) → AllIn (λ (p : List Row × List Row). grouped fields keys outputs p.0 ≡ Ok p.1) parts →
      keys_of_rows made keys (flat_map (λ (p : List Row × List Row). p.1) parts) ≡ keys_of_rows fields keys (flat_map (λ (p : List Row × List Row). p.0) parts)
  same-keys-seen parts all =
      ap (first_seen same_key) (
      flat-map (key_of made keys) (λ (p : List Row × List Row). p.1) parts
      ∙ flat-same (λ (p : List Row × List Row). map (key_of made keys) p.1) (λ (p : List Row × List Row). keys_of_rows fields keys p.0) parts
      (AllIn-through (λ (p : List Row × List Row). grouped fields keys outputs p.0 ≡ Ok p.1) (λ p. map (key_of made keys) p.1 ≡ keys_of_rows fields keys p.0) (λ p e. all-rows p.0 (keys_of_rows fields keys p.0) p.1 e (long-seen p.0)) parts all))
      ∙ seen-of_parts same_key same_key_laws (λ (p : List Row × List Row). map (key_of fields keys) p.0) parts
      ∙ ap (first_seen same_key) (sym (flat-map (key_of fields keys) (λ (p : List Row × List Row). p.0) parts))

pub groups-of_parts : (fields : Fields) (keys : List Name) (outputs again : List Output) (parts : List (List Row × List Row)) → IsOk (group_schema fields keys outputs) → map output_over_parts outputs ≡ map Some again →
    All (λ (p : List Row × List Row). grouped fields keys outputs p.0 ≡ Ok p.1) parts → length (flat_map (λ (p : List Row × List Row). p.0) parts) < 2 ^ 63 →
    grouped (grouped_fields fields keys outputs) keys again (flat_map (λ p. p.1) parts) ≡ grouped fields keys outputs (flat_map (λ p. p.0) parts)
groups-of_parts fields keys outputs again parts ok outs made few =
    let all = AllIn-from (λ (p : List Row × List Row). grouped fields keys outputs p.0 ≡ Ok p.1) parts made in
    let rows = flat_map (λ (p : List Row × List Row). p.0) parts in
    let groups = flat_map (λ (p : List Row × List Row). p.1) parts in
    let row : (key : List Cell) → group_row (grouped_fields fields keys outputs) keys again groups key ≡ group_row fields keys outputs rows key =
    λ key. ap (λ os. result_map_both (λ cells. key ++ cells) (λ i. i) (all_or_missing os)) (all-outputs fields keys outputs ok key parts all few [] outputs again refl outs) in
    λ i. all_ok (map (λ key. row key i) (same-keys-seen fields keys outputs ok parts all i))
