-- Expressions and row-wise steps on rows that agree in the columns that they need.
use Rattle.std.proofs.Common.{◌≡◌, ℕ, suc, Bool, true, false, cond, not, List, [], ◌∷◌, ◌++◌, length, map, filter, Option, Some, None, Result, Ok, Err, refl, ap, sym, ◌∙◌, subst, nat_lt}
use Rattle.std.specs.Prelude.{option_and_then, if◌then◌else◌}
use Rattle.std.specs.Result.{result_map_both}
use Rattle.std.proofs.lemmas.List.{length-map}
use Rattle.fq_column.specs.declared.cells.Cell.{Cell}
use Rattle.fq_column.specs.declared.cells.Kind.{Kind}
use Rattle.fq_column.specs.declared.cells.Kind.TheVariants as kind
use Rattle.fq_column.specs.declared.faults.StepFault.{StepFault}
use Rattle.fq_column.specs.declared.faults.StepFault.TheVariants.{TooMany, DoubleName, NotBool}
use Rattle.fq_column.specs.Agreement.{marked, AgreeOn, AllAgreeOn, StreamsAgreeOn}
use Rattle.fq_column.specs.Cell.{same_kind}
use Rattle.fq_column.specs.Frame.{Fields, Name, Row, has_name, names_of, put_all, put_named, same_name}
use Rattle.fq_column.specs.Lists.{all_or_missing, is_distinct}
use Rattle.fq_column.specs.Refusal.{and_then, refuse_if, unless_refused}
use Rattle.fq_column.specs.Schema.{fields_of}
use Rattle.fq_column.specs.Stream.{Stream}
use Rattle.fq_column.proofs.AgreementLemmas.{GiveAlike, agree-fewer, agree-same, has_name-filter, has_name-left, has_name-right, has_name-self, one_by_one-agree, put_all-agree, step_on-agree, value_named-agree}
use Rattle.fq_column.proofs.PutLemmas.{is_distinct-put_named}
use Rattle.fq_expr.specs.Expression.{Expression, column, null, whole, text, truth, unary, binary, Item, Step, filter_by, with_columns, select}
use Rattle.fq_expr.specs.Kinds.{item_names, kind_of, step_schema}
use Rattle.fq_expr.specs.Needed.{names_read, names_read_by, needed_before}
use Rattle.fq_expr.specs.Steps.{apply_step, is_true, item_values, rows_after, with_values}
use Rattle.fq_expr.specs.Value.{unary_value, binary_value, value_of}
use Rattle.fq_expr.proofs.JudgementLemmas.{select-names, select-ok, with_columns-ok}
use Rattle.fq_expr.proofs.OutputLemmas.{length-all_kinds, names-fields_of}

-- ---- expressions

-- rows that agree in columns among which are those that an expression reads give it the same value
pub value_of-agree : (names : List Name) (fields : Fields) (e : Expression) → ((n : Name) → has_name (names_read e) n ≡ true → has_name names n ≡ true) →
    (row other : Row) → AgreeOn (marked names fields) row other → value_of fields e row ≡ value_of fields e other
value_of-agree names fields (column n) reads row other h = ap Some (value_named-agree names fields n (reads n (has_name-self n [])) row other h)
value_of-agree names fields (null k) reads row other h = refl
value_of-agree names fields (whole n) reads row other h = refl
value_of-agree names fields (text t) reads row other h = refl
value_of-agree names fields (truth b) reads row other h = refl
value_of-agree names fields (unary op e) reads row other h = ap (option_and_then (unary_value op)) (value_of-agree names fields e reads row other h)
value_of-agree names fields (binary op d e) reads row other h =
    let left = value_of-agree names fields d (λ n k. reads n (has_name-left (names_read d) (names_read e) n k)) row other h in
    let right = value_of-agree names fields e (λ n k. reads n (has_name-right (names_read d) (names_read e) n k)) row other h in
    λ i. option_and_then (λ a. option_and_then (binary_value op a) (right i)) (left i)

values-agree : (names : List Name) (fields : Fields) (items : List Item) → ((n : Name) → has_name (names_read_by items) n ≡ true → has_name names n ≡ true) →
    (row other : Row) → AgreeOn (marked names fields) row other → map (λ (i : Item). value_of fields i.1 row) items ≡ map (λ (i : Item). value_of fields i.1 other) items
values-agree names fields [] reads row other h = refl
values-agree names fields (x ∷ items) reads row other h =
    let first = value_of-agree names fields x.1 (λ n k. reads n (has_name-left (names_read x.1) (names_read_by items) n k)) row other h in
    let rest = values-agree names fields items (λ n k. reads n (has_name-right (names_read x.1) (names_read_by items) n k)) row other h in
    λ i. first i ∷ rest i

pub length-all_or_missing : {X : Type 0} (xs : List (Option X)) (ys : List X) → all_or_missing xs ≡ Ok ys → length ys ≡ length xs
length-all_or_missing [] ys e = ap length (let f : ys ≡ [] = cc in f)
length-all_or_missing (None ∷ xs) ys e = absurd (cc)
length-all_or_missing (Some x ∷ xs) ys e = go (all_or_missing xs) (λ zs f. length-all_or_missing xs zs f) e
  where
    go : (r : Result (List _) ℕ) → ((zs : List _) → r ≡ Ok zs → length zs ≡ length xs) → result_map_both (λ rest. x ∷ rest) suc r ≡ Ok ys → length ys ≡ suc (length xs)
    go (Ok zs) h f = ap length (let g : ys ≡ x ∷ zs = cc in g) ∙ ap suc (h zs refl)
    go (Err j) h f = absurd (cc)

-- ---- steps

-- a filter leaves the columns
filter-after : (fields : Fields) (e : Expression) (after : Fields) → step_schema fields (filter_by e) ≡ Ok after → fields ≡ after
filter-after fields e after h = go (kind_of fields e) h
  where
    by : (b : Bool) → unless_refused (refuse_if b NotBool ∷ []) fields ≡ Ok after → fields ≡ after
    by true f = absurd (cc)
    by false f = cc

    go : (r : Result Kind StepFault) → and_then r (λ k. unless_refused (refuse_if (not (same_kind k kind.Truth)) NotBool ∷ []) fields) ≡ Ok after → fields ≡ after
    go (Ok k) f = by (not (same_kind k kind.Truth)) f
    go (Err x) f = absurd (cc)

filtered-agree : (marks : List Bool) (row other : Row) → AgreeOn marks row other → (o : Option Cell) →
    GiveAlike {F = ℕ} marks (elim o [ Some c ↦ Ok (if is_true c then row ∷ [] else []) | None ↦ Err 0 ]) (elim o [ Some c ↦ Ok (if is_true c then other ∷ [] else []) | None ↦ Err 0 ])
filtered-agree marks row other h None = refl
filtered-agree marks row other h (Some c) = go (is_true c)
  where
    go : (b : Bool) → AllAgreeOn marks (cond b (row ∷ []) []) (cond b (other ∷ []) [])
    go true = (h, tt)
    go false = tt

-- rows that are made of the same values
made-agree : (marks : List Bool) (f g : List Cell → Row) (count : ℕ) → ((cells : List Cell) → length cells ≡ count → AgreeOn marks (f cells) (g cells)) →
    (o : Result (List Cell) ℕ) → ((cells : List Cell) → o ≡ Ok cells → length cells ≡ count) →
    GiveAlike {F = ℕ} marks (result_map_both (λ cells. f cells ∷ []) (λ i. i) o) (result_map_both (λ cells. g cells ∷ []) (λ i. i) o)
made-agree marks f g count alike (Ok cells) long = (alike cells (long cells refl), tt)
made-agree marks f g count alike (Err i) long = refl

-- what a step makes of two rows that agree in the columns that it needs
pub rows_after-agree : (fields after : Fields) (step : Step) (needed : List Name) → is_distinct same_name (names_of fields) ≡ true → step_schema fields step ≡ Ok after →
    (row other : Row) → AgreeOn (marked (needed_before step needed) fields) row other → GiveAlike (marked needed after) (rows_after fields step row) (rows_after fields step other)
rows_after-agree fields after (filter_by e) needed d judged row other h =
    let marks = marked needed fields in
    let all = names_read e ++ needed in
    let same = value_of-agree all fields e (λ n k. has_name-left (names_read e) needed n k) row other h in
    let kept = agree-fewer (has_name all) (has_name needed) (names_of fields) (λ n k. has_name-right (names_read e) needed n k) row other h in
    subst (λ (fs : Fields). GiveAlike (marked needed fs) (rows_after fields (filter_by e) row) (rows_after fields (filter_by e) other)) (filter-after fields e after judged)
    (subst (λ (o : Option Cell). GiveAlike {F = ℕ} marks (rows_after fields (filter_by e) row) (elim o [ Some c ↦ Ok (if is_true c then other ∷ [] else []) | None ↦ Err 0 ])) same
    (filtered-agree marks row other kept (value_of fields e row)))
rows_after-agree fields after (with_columns items) needed d judged row other h =
    let outs = item_names items in
    let rest = filter (λ n. not (has_name outs n)) needed in
    let all = names_read_by items ++ rest in
    let s = with_columns-ok fields items after judged in
    let same = ap all_or_missing (values-agree all fields items (λ n k. has_name-left (names_read_by items) rest n k) row other h) in
    let named : length outs ≡ length items = length-map items (λ i. i.0) in
    let alike = λ (cells : List Cell) (long : length cells ≡ length items). put_all-agree needed outs s.0 cells (length-all_kinds fields items s.0 s.1.kinds ∙ sym named) (long ∙ sym named)
    (has_name all) (λ m q r. has_name-right (names_read_by items) rest m (has_name-filter (λ n. not (has_name outs n)) needed m q (ap not r))) fields d row other h in
    subst (λ (fs : Fields). GiveAlike (marked needed fs) (rows_after fields (with_columns items) row) (rows_after fields (with_columns items) other)) s.1.columns
    (subst (λ (o : Result (List Cell) ℕ). GiveAlike {F = ℕ} (marked needed (put_all fields (fields_of outs s.0))) (rows_after fields (with_columns items) row) (result_map_both (λ values. with_values fields items values other ∷ []) (λ i. i) o)) same
    (made-agree (marked needed (put_all fields (fields_of outs s.0))) (λ values. with_values fields items values row) (λ values. with_values fields items values other) (length items) alike (item_values fields items row)
    (λ cells e. length-all_or_missing (map (λ (i : Item). value_of fields i.1 row) items) cells e ∙ length-map items (λ i. value_of fields i.1 row))))
rows_after-agree fields after (select items) needed d judged row other h =
    let s = select-ok fields items after judged in
    let same = ap all_or_missing (values-agree (names_read_by items) fields items (λ n k. k) row other h) in
    let kinds = length-all_kinds fields items s.0 s.1.kinds in
    let named : length (item_names items) ≡ length items = length-map items (λ i. i.0) in
    let wide : length (marked needed (fields_of (item_names items) s.0)) ≡ length items =
    length-map (names_of (fields_of (item_names items) s.0)) (has_name needed) ∙ ap length (names-fields_of (item_names items) s.0 (named ∙ sym kinds)) ∙ named in
    subst (λ (fs : Fields). GiveAlike (marked needed fs) (rows_after fields (select items) row) (rows_after fields (select items) other)) s.1.columns
    (subst (λ (o : Result (List Cell) ℕ). GiveAlike {F = ℕ} (marked needed (fields_of (item_names items) s.0)) (rows_after fields (select items) row) (result_map_both (λ values. values ∷ []) (λ i. i) o)) same
    (made-agree (marked needed (fields_of (item_names items) s.0)) (λ values. values) (λ values. values) (length items) (λ cells long. agree-same (marked needed (fields_of (item_names items) s.0)) cells (long ∙ sym wide)) (item_values fields items row)
    (λ cells e. length-all_or_missing (map (λ (i : Item). value_of fields i.1 row) items) cells e ∙ length-map items (λ i. value_of fields i.1 row))))

-- the same of streams
pub apply_step-agree : {F : Type 0} (overflow : ℕ → ℕ → F) (n : ℕ) (fields after : Fields) (step : Step) (needed : List Name) → is_distinct same_name (names_of fields) ≡ true → step_schema fields step ≡ Ok after →
    (u v : Stream F) → StreamsAgreeOn (marked (needed_before step needed) fields) u v → StreamsAgreeOn (marked needed after) (apply_step overflow n fields step u) (apply_step overflow n fields step v)
apply_step-agree overflow n fields after step needed d judged u v h =
    step_on-agree (marked (needed_before step needed) fields) (marked needed after) _ (overflow n)
    (one_by_one-agree (marked (needed_before step needed) fields) (marked needed after) (rows_after fields step) (rows_after-agree fields after step needed d judged)) u v h

-- the names after a step still differ
pub step-distinct : (fields after : Fields) (step : Step) → is_distinct same_name (names_of fields) ≡ true → step_schema fields step ≡ Ok after → is_distinct same_name (names_of after) ≡ true
step-distinct fields after (filter_by e) d judged = ap (λ (fs : Fields). is_distinct same_name (names_of fs)) (sym (filter-after fields e after judged)) ∙ d
step-distinct fields after (with_columns items) d judged =
    let s = with_columns-ok fields items after judged in
    ap (λ (fs : Fields). is_distinct same_name (names_of fs)) (sym s.1.columns) ∙ all fields (fields_of (item_names items) s.0) d
  where
    all : (fs outs : Fields) → is_distinct same_name (names_of fs) ≡ true → is_distinct same_name (names_of (put_all fs outs)) ≡ true
    all fs [] e = e
    all fs (o ∷ outs) e = all (put_named fs o) outs (is_distinct-put_named fs o e)
step-distinct fields after (select items) d judged =
    let s = select-ok fields items after judged in
    ap (λ (fs : Fields). is_distinct same_name (names_of fs)) (sym s.1.columns)
    ∙ ap (is_distinct same_name) (names-fields_of (item_names items) s.0 (length-map items (λ i. i.0) ∙ sym (length-all_kinds fields items s.0 s.1.kinds)))
    ∙ go (nat_lt 64 (length items)) (is_distinct same_name (item_names items)) (fields_of (item_names items) s.0) (sym (select-names fields items s.0 s.1.some s.1.kinds) ∙ judged)
  where
    go : (a b : Bool) (x : Fields) → unless_refused (refuse_if a TooMany ∷ refuse_if (not b) DoubleName ∷ []) x ≡ Ok after → b ≡ true
    go true b x e = absurd (cc)
    go false true x e = refl
    go false false x e = absurd (cc)
