-- The judgement of a step, by the kinds of its items and the checks of its names.
use Rattle.std.proofs.Common.{◌≡◌, ℕ, ◌+◌, ◌<◌, ◌≤◌, Bool, true, false, not, List, [], ◌∷◌, length, map, Option, Some, None, Result, Ok, Err, refl, ap, sym, ◌∙◌, arith, nat_lt, inl, inr, ◌⊎◌}
use Rattle.std.specs.Prelude.{IfOk, IfErr, IsOk, MatchResult}
use Rattle.std.specs.Bool.{◌==◌}
use Rattle.std.proofs.lemmas.Bool.Decides.{nat_tests}
use Rattle.fq_column.specs.declared.cells.Kind.{Kind}
use Rattle.fq_column.specs.declared.faults.StepFault.{StepFault}
use Rattle.fq_column.specs.declared.faults.StepFault.TheVariants.{Memory, TooMany, DoubleName, NoColumn}
use Rattle.fq_column.specs.Frame.{Field, Fields, Name, same_name, put_all}
use Rattle.fq_column.specs.Lists.{is_distinct}
use Rattle.fq_column.specs.Refusal.{and_then, refuse_if, first_refusal, refusal_of, unless_refused, IsJudgement}
use Rattle.fq_column.specs.Schema.{fields_of, schema_checks}
use Rattle.std.specs.Result.{result_unwrap_or}
use Rattle.fq_expr.specs.Expression.{Item, Step, with_columns, select}
use Rattle.fq_expr.specs.Steps.{fields_after}
use Rattle.fq_expr.specs.Kinds.{item_fields, item_names, count_new, step_schema}
use Rattle.fq_expr.specs.Outputs.{all_kinds}
use Rattle.std.proofs.lemmas.List.{length-map}
use Rattle.std.proofs.lemmas.Bool.{not-false}
use Rattle.fq_expr.proofs.DistinctLemmas.{outputs-le}
use Rattle.fq_expr.proofs.OutputLemmas.{item_fields-all_kinds, length-all_kinds, length-put_all, names-fields_of}

-- a refusal that is the judgement's, or `Memory`
pub refused : {X : Type 0} (expected : Result X StepFault) (fault : StepFault) → (expected ≡ Err fault) ⊎ (fault ≡ Memory) → IsJudgement expected (Err fault)
refused expected fault (inl e) = inl (sym e)
refused expected fault (inr e) = inr (ap Err e)

-- what a list of checks says, by its first refusal
pub unless_refused-by : {X : Type 0} (checks : List (Option StepFault)) (x : X) (o : Option StepFault) → first_refusal checks ≡ o → unless_refused checks x ≡ elim o [ None ↦ Ok x | Some fault ↦ Err fault ]
unless_refused-by checks x o e = ap (λ o. elim o [ None ↦ Ok x | Some fault ↦ Err fault ]) e

module _ (fields : Fields) (items : List Item) where
  -- a refusal of an item is that of the whole
  pub with_columns-refused : (fault : StepFault) → all_kinds fields items ≡ Err fault → step_schema fields (with_columns items) ≡ Err fault
  with_columns-refused fault e =
      ap (λ r. and_then r (λ outputs. unless_refused (refuse_if (nat_lt 64 (length fields + count_new fields (item_names items))) TooMany
      ∷ refuse_if (not (is_distinct same_name (item_names items))) DoubleName ∷ []) (put_all fields outputs)))
      (item_fields-all_kinds fields items ∙ ap (λ r. and_then r (λ ks. Ok (fields_of (item_names items) ks))) e)

  pub with_columns-item : (fault : StepFault) → (all_kinds fields items ≡ Err fault) ⊎ (fault ≡ Memory) → (step_schema fields (with_columns items) ≡ Err fault) ⊎ (fault ≡ Memory)
  with_columns-item fault (inr e) = inr e
  with_columns-item fault (inl e) = inl (with_columns-refused fault e)

  -- else the names decide
  pub with_columns-names : (ks : List Kind) → all_kinds fields items ≡ Ok ks → step_schema fields (with_columns items)
      ≡ unless_refused (refuse_if (nat_lt 64 (length fields + count_new fields (item_names items))) TooMany ∷ refuse_if (not (is_distinct same_name (item_names items))) DoubleName ∷ [])
      (put_all fields (fields_of (item_names items) ks))
  with_columns-names ks e =
      ap (λ r. and_then r (λ outputs. unless_refused (refuse_if (nat_lt 64 (length fields + count_new fields (item_names items))) TooMany
      ∷ refuse_if (not (is_distinct same_name (item_names items))) DoubleName ∷ []) (put_all fields outputs)))
      (item_fields-all_kinds fields items ∙ ap (λ r. and_then r (λ ks. Ok (fields_of (item_names items) ks))) e)

  -- too many columns; two of one name; neither
  pub with_columns-too_many : (ks : List Kind) → all_kinds fields items ≡ Ok ks → 64 < length fields + count_new fields (item_names items) → step_schema fields (with_columns items) ≡ Err TooMany
  with_columns-too_many ks e h = with_columns-names ks e ∙ go (nat_lt 64 (length fields + count_new fields (item_names items))) (grind (arith, nat_tests, h))
    where
      go : (b : Bool) → b ≡ true → unless_refused (refuse_if b TooMany ∷ refuse_if (not (is_distinct same_name (item_names items))) DoubleName ∷ []) (put_all fields (fields_of (item_names items) ks)) ≡ Err TooMany
      go true f = refl
      go false f = cc

  pub with_columns-double : (ks : List Kind) → all_kinds fields items ≡ Ok ks → length fields + count_new fields (item_names items) ≤ 64 → not (is_distinct same_name (item_names items)) ≡ true → step_schema fields (with_columns items) ≡ Err DoubleName
  with_columns-double ks e h d = with_columns-names ks e ∙ go (nat_lt 64 (length fields + count_new fields (item_names items))) (not (is_distinct same_name (item_names items))) (grind (arith, nat_tests, h)) d
    where
      go : (b d : Bool) → b ≡ false → d ≡ true → unless_refused (refuse_if b TooMany ∷ refuse_if d DoubleName ∷ []) (put_all fields (fields_of (item_names items) ks)) ≡ Err DoubleName
      go true d f g = cc
      go false true f g = refl
      go false false f g = cc

  pub with_columns-judged : (ks : List Kind) → all_kinds fields items ≡ Ok ks → length fields + count_new fields (item_names items) ≤ 64 → not (is_distinct same_name (item_names items)) ≡ false → step_schema fields (with_columns items) ≡ Ok (put_all fields (fields_of (item_names items) ks))
  with_columns-judged ks e h d = with_columns-names ks e ∙ go (nat_lt 64 (length fields + count_new fields (item_names items))) (not (is_distinct same_name (item_names items))) (grind (arith, nat_tests, h)) d
    where
      go : (b d : Bool) → b ≡ false → d ≡ false → unless_refused (refuse_if b TooMany ∷ refuse_if d DoubleName ∷ []) (put_all fields (fields_of (item_names items) ks)) ≡ Ok (put_all fields (fields_of (item_names items) ks))
      go true d f g = cc
      go false true f g = cc
      go false false f g = refl

  nonzero : (n : ℕ) → 0 < n → (n == 0) ≡ false
  nonzero n h = grind (arith, nat_tests)

  select-nonempty : 0 < length items → step_schema fields (select items) ≡ and_then (item_fields fields items) (λ outputs.
      unless_refused (refuse_if (nat_lt 64 (length items)) TooMany ∷ refuse_if (not (is_distinct same_name (item_names items))) DoubleName ∷ []) outputs)
  select-nonempty h = ap (λ b. and_then (unless_refused (refuse_if b NoColumn ∷ []) items) (λ items.
      and_then (item_fields fields items) (λ outputs.
      unless_refused (refuse_if (nat_lt 64 (length items)) TooMany ∷ refuse_if (not (is_distinct same_name (item_names items))) DoubleName ∷ []) outputs))) (nonzero (length items) h)

  pub select-refused : 0 < length items → (fault : StepFault) → all_kinds fields items ≡ Err fault → step_schema fields (select items) ≡ Err fault
  select-refused h fault e = (select-nonempty h ∙
      ap (λ r. and_then r (λ outputs. unless_refused (refuse_if (nat_lt 64 (length items)) TooMany ∷ refuse_if (not (is_distinct same_name (item_names items))) DoubleName ∷ []) outputs))
      (item_fields-all_kinds fields items ∙ ap (λ r. and_then r (λ ks. Ok (fields_of (item_names items) ks))) e))

  pub select-item : 0 < length items → (fault : StepFault) → (all_kinds fields items ≡ Err fault) ⊎ (fault ≡ Memory) → (step_schema fields (select items) ≡ Err fault) ⊎ (fault ≡ Memory)
  select-item h fault (inr e) = inr e
  select-item h fault (inl e) = inl (select-refused h fault e)

  pub select-names : (ks : List Kind) → 0 < length items → all_kinds fields items ≡ Ok ks → step_schema fields (select items)
      ≡ unless_refused (refuse_if (nat_lt 64 (length items)) TooMany ∷ refuse_if (not (is_distinct same_name (item_names items))) DoubleName ∷ []) (fields_of (item_names items) ks)
  select-names ks h e = select-nonempty h
      ∙ ap (λ r. and_then r (λ outputs. unless_refused (refuse_if (nat_lt 64 (length items)) TooMany ∷ refuse_if (not (is_distinct same_name (item_names items))) DoubleName ∷ []) outputs))
      (item_fields-all_kinds fields items ∙ ap (λ r. and_then r (λ ks. Ok (fields_of (item_names items) ks))) e)

  -- too many outputs; two of one name; neither
  pub select-too_many : (ks : List Kind) → 0 < length items → all_kinds fields items ≡ Ok ks → 64 < length items → step_schema fields (select items) ≡ Err TooMany
  select-too_many ks h e m = select-names ks h e ∙ go (nat_lt 64 (length items)) (grind (arith, nat_tests, m))
    where
      go : (b : Bool) → b ≡ true → unless_refused (refuse_if b TooMany ∷ refuse_if (not (is_distinct same_name (item_names items))) DoubleName ∷ []) (fields_of (item_names items) ks) ≡ Err TooMany
      go true f = refl
      go false f = cc

  pub select-double : (ks : List Kind) → 0 < length items → all_kinds fields items ≡ Ok ks → length items ≤ 64 → not (is_distinct same_name (item_names items)) ≡ true → step_schema fields (select items) ≡ Err DoubleName
  select-double ks h e m d = select-names ks h e ∙ go (nat_lt 64 (length items)) (not (is_distinct same_name (item_names items))) (grind (arith, nat_tests, m)) d
    where
      go : (b d : Bool) → b ≡ false → d ≡ true → unless_refused (refuse_if b TooMany ∷ refuse_if d DoubleName ∷ []) (fields_of (item_names items) ks) ≡ Err DoubleName
      go true d f g = cc
      go false true f g = refl
      go false false f g = cc

  pub select-settled : (ks : List Kind) → 0 < length items → all_kinds fields items ≡ Ok ks → length items ≤ 64 → not (is_distinct same_name (item_names items)) ≡ false → step_schema fields (select items) ≡ Ok (fields_of (item_names items) ks)
  select-settled ks h e m d = select-names ks h e ∙ go (nat_lt 64 (length items)) (not (is_distinct same_name (item_names items))) (grind (arith, nat_tests, m)) d
    where
      go : (b d : Bool) → b ≡ false → d ≡ false → unless_refused (refuse_if b TooMany ∷ refuse_if d DoubleName ∷ []) (fields_of (item_names items) ks) ≡ Ok (fields_of (item_names items) ks)
      go true d f g = cc
      go false true f g = cc
      go false false f g = refl

  -- the checks of a schema's names are those of the outputs, of which there is one
  checks-same : (names : List Name) → names ≡ item_names items → length (item_names items) ≡ length items → 0 < length items →
      first_refusal (schema_checks names) ≡ first_refusal (refuse_if (nat_lt 64 (length items)) TooMany ∷ refuse_if (not (is_distinct same_name (item_names items))) DoubleName ∷ [])
  checks-same names e l h =
      ap (λ ns. first_refusal (schema_checks ns)) e
      ∙ ap (λ b. first_refusal (refuse_if b NoColumn ∷ refuse_if (nat_lt 64 (length (item_names items))) TooMany ∷ refuse_if (not (is_distinct same_name (item_names items))) DoubleName ∷ []))
      (nonzero (length (item_names items)) (omega (arith, l, h)))
      ∙ ap (λ n. first_refusal (refuse_if (nat_lt 64 n) TooMany ∷ refuse_if (not (is_distinct same_name (item_names items))) DoubleName ∷ [])) l

  pub select-judged : (names : List Name) (ks : List Kind) (r : Result Fields StepFault) → 0 < length items → names ≡ item_names items → length (item_names items) ≡ length items →
      all_kinds fields items ≡ Ok ks → IfOk r (λ s. s ≡ fields_of names ks) →
      MatchResult r (λ s. first_refusal (schema_checks names) ≡ None) (λ fault. first_refusal (schema_checks names) ≡ Some fault) → IsJudgement (step_schema fields (select items)) r
  select-judged names ks r h e l k ok ref = inl (sym (select-nonempty h
      ∙ ap (λ r. and_then r (λ outputs. unless_refused (refuse_if (nat_lt 64 (length items)) TooMany ∷ refuse_if (not (is_distinct same_name (item_names items))) DoubleName ∷ []) outputs))
      (item_fields-all_kinds fields items ∙ ap (λ r. and_then r (λ ks. Ok (fields_of (item_names items) ks))) k)
      ∙ go r ok ref))
    where
      go : (r : Result Fields StepFault) → IfOk r (λ s. s ≡ fields_of names ks) → MatchResult r (λ s. first_refusal (schema_checks names) ≡ None) (λ fault. first_refusal (schema_checks names) ≡ Some fault) →
          unless_refused (refuse_if (nat_lt 64 (length items)) TooMany ∷ refuse_if (not (is_distinct same_name (item_names items))) DoubleName ∷ []) (fields_of (item_names items) ks) ≡ r
      go (Ok s) ok ref = unless_refused-by (refuse_if (nat_lt 64 (length items)) TooMany ∷ refuse_if (not (is_distinct same_name (item_names items))) DoubleName ∷ []) (fields_of (item_names items) ks) None (sym (checks-same names e l h) ∙ ref) ∙ ap (λ ns. Ok (fields_of ns ks)) (sym e) ∙ ap Ok (sym ok)
      go (Err fault) ok ref = unless_refused-by (refuse_if (nat_lt 64 (length items)) TooMany ∷ refuse_if (not (is_distinct same_name (item_names items))) DoubleName ∷ []) (fields_of (item_names items) ks) (Some fault) (sym (checks-same names e l h) ∙ ref)

-- ---- what a step that is not refused says of its items

checks-pass : {X : Type 0} (a b : Bool) (x s : X) → unless_refused (refuse_if a TooMany ∷ refuse_if b DoubleName ∷ []) x ≡ Ok s → (a ≡ false) × (b ≡ false) × (x ≡ s)
checks-pass true b x s e = absurd (cc)
checks-pass false true x s e = absurd (cc)
checks-pass false false x s e = (refl, refl, cc)

not_below : (m n : ℕ) → nat_lt m n ≡ false → n ≤ m
not_below m n e = grind (arith, nat_tests)

pub record Adds (fields : Fields) (items : List Item) (after : Fields) (ks : List Kind) : Type 0 where
  pub kinds : all_kinds fields items ≡ Ok ks
  pub columns : put_all fields (fields_of (item_names items) ks) ≡ after
  pub room : length fields + count_new fields (item_names items) ≤ 64
  pub distinct : is_distinct same_name (item_names items) ≡ true

pub with_columns-ok : (fields : Fields) (items : List Item) (after : Fields) → step_schema fields (with_columns items) ≡ Ok after → (ks : List Kind) × Adds fields items after ks
with_columns-ok fields items after e = go (all_kinds fields items) refl
  where
    go : (r : Result (List Kind) StepFault) → all_kinds fields items ≡ r → (ks : List Kind) × Adds fields items after ks
    go (Err f) k = absurd (let h = sym (with_columns-refused fields items f k) ∙ e in cc)
    go (Ok ks) k = let p = checks-pass (nat_lt 64 (length fields + count_new fields (item_names items))) (not (is_distinct same_name (item_names items))) (put_all fields (fields_of (item_names items) ks)) after (sym (with_columns-names fields items ks k) ∙ e) in
        (ks, record { kinds = k; columns = p.2; room = not_below 64 (length fields + count_new fields (item_names items)) p.0; distinct = not-false (is_distinct same_name (item_names items)) p.1 })

pub record Selects (fields : Fields) (items : List Item) (after : Fields) (ks : List Kind) : Type 0 where
  pub kinds : all_kinds fields items ≡ Ok ks
  pub columns : fields_of (item_names items) ks ≡ after
  pub room : length items ≤ 64
  pub some : 0 < length items

pub select-ok : (fields : Fields) (items : List Item) (after : Fields) → step_schema fields (select items) ≡ Ok after → (ks : List Kind) × Selects fields items after ks
select-ok fields [] after e = absurd (cc)
select-ok fields (x ∷ items) after e = go (all_kinds fields (x ∷ items)) refl
  where
    go : (r : Result (List Kind) StepFault) → all_kinds fields (x ∷ items) ≡ r → (ks : List Kind) × Selects fields (x ∷ items) after ks
    go (Err f) k = absurd (let h = sym (select-refused fields (x ∷ items) (omega arith) f k) ∙ e in cc)
    go (Ok ks) k = let p = checks-pass (nat_lt 64 (length (x ∷ items))) (not (is_distinct same_name (item_names (x ∷ items)))) (fields_of (item_names (x ∷ items)) ks) after (sym (select-names fields (x ∷ items) ks (omega arith) k) ∙ e) in
        (ks, record { kinds = k; columns = p.2; room = not_below 64 (length (x ∷ items)) p.0; some = omega arith })

pub ok-is : {X : Type 0} (r : Result X StepFault) → IsOk r → (x : X) × (r ≡ Ok x)
ok-is (Ok x) h = (x, refl)
ok-is (Err f) h = absurd (cc)

-- an answer that is not a refusal is the judgement's
pub judgement-ok : {X : Type 0} (expected : Result X StepFault) (x : X) → IsJudgement expected (Ok x) → expected ≡ Ok x
judgement-ok expected x (inl e) = sym e
judgement-ok expected x (inr e) = absurd (cc)

-- the schema after a step that is not refused
pub fields_after-is : (fields : Fields) (s : Step) (after : Fields) → step_schema fields s ≡ Ok after → fields_after fields s ≡ after
fields_after-is fields s after e = ap (λ r. result_unwrap_or r fields) e

-- no more than 64 outputs, and no more columns with them
pub adds-room : (fields : Fields) (items : List Item) (after : Fields) (ks : List Kind) → Adds fields items after ks → length (item_names items) ≡ length items → length (put_all fields (fields_of (item_names items) ks)) ≤ 64
adds-room fields items after ks a n =
    let named : map (λ (f : Field). f.0) (fields_of (item_names items) ks) ≡ item_names items = names-fields_of (item_names items) ks (n ∙ sym (length-all_kinds fields items ks a.kinds)) in
    omega (arith, length-put_all fields (fields_of (item_names items) ks), ap (λ ns. count_new fields ns) named, a.room)

pub adds-bound : (fields : Fields) (items : List Item) (after : Fields) (ks : List Kind) → Adds fields items after ks → length (item_names items) ≡ length items → length items ≤ 64
adds-bound fields items after ks a n =
    let named : map (λ (f : Field). f.0) (fields_of (item_names items) ks) ≡ item_names items = names-fields_of (item_names items) ks (n ∙ sym (length-all_kinds fields items ks a.kinds)) in
    omega (
      arith,
      adds-room fields items after ks a n,
      outputs-le fields (fields_of (item_names items) ks) (ap (is_distinct same_name) named ∙ a.distinct),
      length-map (fields_of (item_names items) ks) (λ (f : Field). f.0),
      ap length named,
      n,
    )

-- ---- what a check without a schema says

-- a judgement with a refusal, and one with none
pub refused-is : {X : Type 0} (r : Result X StepFault) (fault : StepFault) → refusal_of r ≡ Some fault → r ≡ Err fault
refused-is (Ok x) fault e = absurd (cc)
refused-is (Err f) fault e = let same : f ≡ fault = cc in ap Err same

pub settled-is : {X : Type 0} (r : Result X StepFault) → refusal_of r ≡ None → (x : X) × (r ≡ Ok x)
settled-is (Ok x) e = (x, refl)
settled-is (Err f) e = absurd (cc)

-- what is refused is answered so, whatever is answered of the rest
pub early-refused : {X : Type 0} (expected answer : Result X StepFault) (fault : StepFault) → refusal_of expected ≡ Some fault → answer ≡ Err fault → IfErr expected (λ f. answer ≡ Err f)
early-refused (Ok x) answer fault e is = tt
early-refused (Err f) answer fault e is = let same : fault ≡ f = cc in is ∙ ap Err same
