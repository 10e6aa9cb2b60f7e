-- Refusals of checks, one after another.
use Rattle.std.proofs.Common.{◌≡◌, ℕ, zero, suc, ◌+◌, ◌<◌, ◌≤◌, get_or, nat_lt, Bool, true, false, not, ◌&&◌, List, [], ◌∷◌, ◌++◌, map, filter, cond, length, take, Option, Some, None, Result, Ok, Err, refl, sym, ap, subst, ◌∙◌, arith, if◌then◌else◌, inl, inr, ◌⊎◌, ◌||◌, ℤ, pos, length-append}
use Rattle.std.specs.Prelude.{slice_get, IfErr, IsOk, IsTrue, is_ok}
use Rattle.std.specs.Bool.{◌==◌}
use Rattle.std.specs.List.{flat_map, AllPass}
use Rattle.std.proofs.lemmas.Bool.Decides.{nat_tests}
use Rattle.std.proofs.lemmas.List.{map-append, length-map}
use Rattle.std.proofs.lemmas.List.Elements.{filter-append}
use Rattle.fq_column.specs.declared.cells.Kind.{Kind}
use Rattle.fq_column.specs.declared.faults.StepFault.{StepFault}
use Rattle.fq_column.specs.declared.schemas.TheConstants.{MAX_COLUMNS}
use Rattle.fq_ops.specs.declared.rolls.TheConstants.{MAX_WINDOW}
use Rattle.fq_column.specs.declared.faults.StepFault.TheVariants.{NoSuchColumn, WrongKind, NoColumn, TooMany, DoubleName, Window, Samples}
use Rattle.fq_column.specs.Frame.{Field, Fields, Name, names_of, has_name, same_name, position_of, put_named}
use Rattle.fq_column.specs.Cell.{same_kind}
use Rattle.fq_column.specs.Lists.{is_distinct}
use Rattle.fq_column.specs.Refusal.{first_refusal, refuse_if, unless_refused, and_then, IsJudgement}
use Rattle.fq_column.specs.Schema.{kind_named, schema_checks}
use Rattle.fq_ops.specs.Aggregate.{Output}
use Rattle.fq_ops.specs.declared.joins.How.{How}
use Rattle.fq_ops.specs.Join.{join_schema, joined_fields, renamed, key_checks, kinds_differ, right_name, without_keys}
use Rattle.fq_ops.specs.Fields.{Judged, refusals, settled, unless_double, with_kind}
use Rattle.fq_ops.specs.Roll.{roll_schema, is_from_to}
use Rattle.std.specs.Option.{option_map}
use Rattle.std.specs.Cmp.Lexicographic.{nat_list_eq_equiv, bytes_decides}
use Rattle.std.proofs.lemmas.Bool.{or_parts, and_parts, not-false}
use Rattle.std.proofs.lemmas.List.Folds.{list_any-append}
use Rattle.std.proofs.Math.Bool.{or-false}
use Rattle.fq_column.specs.declared.cells.Kind.TheVariants.{Whole}
use Rattle.fq_ops.specs.Group.{group_schema, grouped_kinds, grouped_names, grouped_fields, aggregate_kind}
use Rattle.fq_column.proofs.NameLemmas.{position-here, position-past, unnamed}
use Rattle.fq_ops.proofs.JudgedFieldLemmas.{first_refusal-here, first_refusal-past, take-more, TellsName, tells-name}

-- the value, or the refusal
abbrev pub chosen : {X : Type 0} → X → Option StepFault → Result X StepFault
chosen {X} x o = elim o as (λ _. Result X StepFault) [ None ↦ Ok x | Some fault ↦ Err fault ]

pub unless-refused : {X : Type 0} (checks : List (Option StepFault)) (x : X) (f : StepFault) → first_refusal checks ≡ Some f → unless_refused checks x ≡ Err f
unless-refused checks x f e = ap (chosen x) e

pub unless-past : {X : Type 0} (checks more : List (Option StepFault)) (x : X) → first_refusal checks ≡ None → unless_refused (checks ++ more) x ≡ unless_refused more x
unless-past checks more x e = ap (chosen x) (first_refusal-past checks more e)

-- a first check that does not refuse
pub unless-next : {X : Type 0} (b : Bool) (f : StepFault) (more : List (Option StepFault)) (x : X) → b ≡ false → unless_refused (refuse_if b f ∷ more) x ≡ unless_refused more x
unless-next b f more x e = ap (λ c. chosen x (first_refusal (refuse_if c f ∷ more))) e

pub map-map : {X Y Z : Type 0} (g : Y → Z) (f : X → Y) (xs : List X) → map g (map f xs) ≡ map (λ x. g (f x)) xs
map-map g f [] = refl
map-map g f (x ∷ xs) = ap (λ ys. g (f x) ∷ ys) (map-map g f xs)

-- whether these are too many columns
pub over-many : (n : ℕ) → MAX_COLUMNS < n → nat_lt MAX_COLUMNS n ≡ true
over-many n h = grind (arith, nat_tests)

pub not-many : (n : ℕ) → n ≤ MAX_COLUMNS → nat_lt MAX_COLUMNS n ≡ false
not-many n h = grind (arith, nat_tests)

nonzero : (n : ℕ) → 0 < n → (n == 0) ≡ false
nonzero n h = grind (arith, nat_tests)

-- of some columns that are not too many only two equal names are refused
pub schema-few : (fs : Fields) → 0 < length fs → length fs ≤ MAX_COLUMNS → unless_refused (schema_checks (names_of fs)) fs ≡ unless_double fs
schema-few fs some few =
    let width = length-map fs (λ (f : Field). f.0) in
    let none = ap (λ n. n == 0) width ∙ nonzero (length fs) some in
    let many = ap (nat_lt MAX_COLUMNS) width ∙ not-many (length fs) few in
    λ i. unless_refused (refuse_if (none i) NoColumn ∷ refuse_if (many i) TooMany ∷ refuse_if (not (is_distinct same_name (names_of fs))) DoubleName ∷ []) fs

-- so what is answered otherwise is answered in place of that refusal
pub late-double : (expected : Result Fields StepFault) (fs : Fields) (Late : StepFault → Type 0) → expected ≡ unless_double fs → Late DoubleName → (answer : Result Fields StepFault) →
    IfErr expected (λ f. (answer ≡ Err f) ⊎ Late f)
late-double expected fs Late passed double answer = subst (λ r. IfErr r (λ f. (answer ≡ Err f) ⊎ Late f)) (sym passed) (by (is_distinct same_name (names_of fs)))
  where
    by : (b : Bool) → IfErr (unless_refused (refuse_if (not b) DoubleName ∷ []) fs) (λ f. (answer ≡ Err f) ⊎ Late f)
    by true = tt
    by false = inr double

-- an answer that is the judgement has its refusal
pub has-refusal : {X : Type 0} (expected answer : Result X StepFault) → answer ≡ expected → IfErr expected (λ f. answer ≡ Err f)
has-refusal (Ok x) answer e = tt
has-refusal (Err f) answer e = e

pub has-refusal-or : {X : Type 0} (expected answer : Result X StepFault) (Other : StepFault → Type 0) → answer ≡ expected → IfErr expected (λ f. (answer ≡ Err f) ⊎ Other f)
has-refusal-or (Ok x) answer Other e = tt
has-refusal-or (Err f) answer Other e = inl e

-- ---- groupings

names-settled : {X : Type 0} (name : X → Name) (kind : X → Result Kind StepFault) (xs : List X) → names_of (settled (map (λ x. (name x, kind x)) xs)) ≡ map name xs
names-settled name kind [] = refl
names-settled name kind (x ∷ xs) = ap (λ ns. name x ∷ ns) (names-settled name kind xs)

map-same : {X : Type 0} (xs : List X) → map (λ x. x) xs ≡ xs
map-same [] = refl
map-same (x ∷ xs) = ap (λ ys. x ∷ ys) (map-same xs)

module _ (fields : Fields) (keys : List Name) (outputs : List Output) where
  abbrev key_judged : List Judged
  key_judged = map (λ n. (n, kind_named fields n)) keys

  abbrev aggregate_judged : List Judged
  aggregate_judged = map (λ o. (o.0, aggregate_kind fields o.1)) outputs

  abbrev pub ending : List (Option StepFault)
  ending = refuse_if (nat_lt MAX_COLUMNS (length (grouped_names keys outputs))) TooMany ∷ refuse_if (not (is_distinct same_name (grouped_names keys outputs))) DoubleName ∷ []

  pub names-grouped : names_of (grouped_fields fields keys outputs) ≡ grouped_names keys outputs
  names-grouped =
      ap names_of (map-append _ key_judged aggregate_judged) ∙ map-append (λ f. f.0) (settled key_judged) (settled aggregate_judged)
      ∙ (λ i. (names-settled (λ n. n) (kind_named fields) keys ∙ map-same keys) i ++ names-settled (λ (o : Output). o.0) (λ o. aggregate_kind fields o.1) outputs i)

  -- the fields of the keys, and then those of the aggregates
  pub fields-grouped : grouped_fields fields keys outputs ≡ settled key_judged ++ settled aggregate_judged
  fields-grouped = map-append _ key_judged aggregate_judged

  refusals-split : refusals (grouped_kinds fields keys outputs) ≡ refusals key_judged ++ refusals aggregate_judged
  refusals-split = map-append _ key_judged aggregate_judged

  module _ (some : (length keys == 0) ≡ false) where
    begun : group_schema fields keys outputs ≡ unless_refused ((refusals key_judged ++ refusals aggregate_judged) ++ ending) (grouped_fields fields keys outputs)
    begun = unless-next (length keys == 0) NoColumn (refusals (grouped_kinds fields keys outputs) ++ ending) (grouped_fields fields keys outputs) some
        ∙ ap (λ rs. unless_refused (rs ++ ending) (grouped_fields fields keys outputs)) refusals-split

    pub group-key_refused : (f : StepFault) → first_refusal (refusals key_judged) ≡ Some f → group_schema fields keys outputs ≡ Err f
    group-key_refused f e = begun ∙ unless-refused ((refusals key_judged ++ refusals aggregate_judged) ++ ending) (grouped_fields fields keys outputs) f (first_refusal-here (refusals key_judged ++ refusals aggregate_judged) ending f (first_refusal-here (refusals key_judged) (refusals aggregate_judged) f e))

    pub group-aggregate_refused : (f : StepFault) → first_refusal (refusals key_judged) ≡ None → first_refusal (refusals aggregate_judged) ≡ Some f → group_schema fields keys outputs ≡ Err f
    group-aggregate_refused f n e = begun ∙ unless-refused ((refusals key_judged ++ refusals aggregate_judged) ++ ending) (grouped_fields fields keys outputs) f (first_refusal-here (refusals key_judged ++ refusals aggregate_judged) ending f (first_refusal-past (refusals key_judged) (refusals aggregate_judged) n ∙ e))

    module _ (known : first_refusal (refusals key_judged) ≡ None) (computed : first_refusal (refusals aggregate_judged) ≡ None) where
      columns-begun : group_schema fields keys outputs ≡ unless_refused ending (grouped_fields fields keys outputs)
      columns-begun =
          begun ∙ unless-past (refusals key_judged ++ refusals aggregate_judged) ending (grouped_fields fields keys outputs) (first_refusal-past (refusals key_judged) (refusals aggregate_judged) known ∙ computed)

      abbrev columns-ended : Bool → Bool → Result Fields StepFault
      columns-ended many distinct = unless_refused (refuse_if many TooMany ∷ refuse_if (not distinct) DoubleName ∷ []) (grouped_fields fields keys outputs)

      pub group-many : nat_lt MAX_COLUMNS (length (grouped_names keys outputs)) ≡ true → group_schema fields keys outputs ≡ Err TooMany
      group-many m = columns-begun ∙ ap (λ b. columns-ended b (is_distinct same_name (grouped_names keys outputs))) m

      -- past all that is judged before the first allocation, only two equal names are left
      pub group-passed : nat_lt MAX_COLUMNS (length (grouped_names keys outputs)) ≡ false → group_schema fields keys outputs ≡ unless_double (grouped_fields fields keys outputs)
      group-passed few =
          columns-begun ∙ ap (λ b. columns-ended b (is_distinct same_name (grouped_names keys outputs))) few
          ∙ ap (λ (ns : List Name). unless_refused (refuse_if (not (is_distinct same_name ns)) DoubleName ∷ []) (grouped_fields fields keys outputs)) (sym names-grouped)

-- ---- checks of each item of a list

module _ {X : Type 0} (checks : X → List (Option StepFault)) where
  pub item-refused : (xs : List X) (i : ℕ) (x : X) (f : StepFault) → slice_get xs i ≡ Some x → first_refusal (flat_map checks (take i xs)) ≡ None → first_refusal (checks x) ≡ Some f → first_refusal (flat_map checks xs) ≡ Some f
  item-refused [] i x f e n j = absurd (cc)
  item-refused (y ∷ xs) zero x f e n j = let s : y ≡ x = cc in first_refusal-here (checks y) (flat_map checks xs) f (ap (λ z. first_refusal (checks z)) s ∙ j)
  item-refused (y ∷ xs) (suc i) x f e n j = by (first_refusal (checks y)) refl (λ m. item-refused xs i x f e m j)
    where
      by : (o : Option StepFault) → first_refusal (checks y) ≡ o → (first_refusal (flat_map checks (take i xs)) ≡ None → first_refusal (flat_map checks xs) ≡ Some f) → first_refusal (flat_map checks (y ∷ xs)) ≡ Some f
      by None p rest = first_refusal-past (checks y) (flat_map checks xs) p ∙ rest (sym (first_refusal-past (checks y) (flat_map checks (take i xs)) p) ∙ n)
      by (Some g) p rest = let h : Some g ≡ None = sym (first_refusal-here (checks y) (flat_map checks (take i xs)) g p) ∙ n in absurd (cc)

  passed : (xs : List X) (x : X) → first_refusal (flat_map checks xs) ≡ None → first_refusal (checks x) ≡ None → first_refusal (flat_map checks (xs ++ x ∷ [])) ≡ None
  passed [] x n j = first_refusal-past (checks x) [] j
  passed (y ∷ xs) x n j = by (first_refusal (checks y)) refl (λ m. passed xs x m j)
    where
      by : (o : Option StepFault) → first_refusal (checks y) ≡ o → (first_refusal (flat_map checks xs) ≡ None → first_refusal (flat_map checks (xs ++ x ∷ [])) ≡ None) → first_refusal (flat_map checks (y ∷ (xs ++ x ∷ []))) ≡ None
      by None p rest = first_refusal-past (checks y) (flat_map checks (xs ++ x ∷ [])) p ∙ rest (sym (first_refusal-past (checks y) (flat_map checks xs) p) ∙ n)
      by (Some g) p rest = let h : Some g ≡ None = sym (first_refusal-here (checks y) (flat_map checks xs) g p) ∙ n in absurd (cc)

  pub item-passed : (xs : List X) (i : ℕ) (x : X) → slice_get xs i ≡ Some x → first_refusal (flat_map checks (take i xs)) ≡ None → first_refusal (checks x) ≡ None → first_refusal (flat_map checks (take (i + 1) xs)) ≡ None
  item-passed xs i x e n j = ap (λ l. first_refusal (flat_map checks l)) (take-more xs i x e) ∙ passed (take i xs) x n j

-- ---- keys of a join

module _ (left right : Fields) (name : Name) where
  pub key-left_refused : (f : StepFault) → kind_named left name ≡ Err f → first_refusal (key_checks left right name) ≡ Some f
  key-left_refused f e =
      let told = subst (TellsName left name) e (tells-name left name) in
      ap (λ b. first_refusal (refuse_if (not b) NoSuchColumn ∷ refuse_if (not (has_name (names_of right) name)) NoSuchColumn ∷ refuse_if (kinds_differ (kind_named left name) (kind_named right name)) WrongKind ∷ [])) told.0
      ∙ ap Some (sym told.1)

  module _ (k : Kind) (at : kind_named left name ≡ Ok k) where
    on_left : first_refusal (key_checks left right name) ≡ first_refusal (refuse_if (not (has_name (names_of right) name)) NoSuchColumn ∷ refuse_if (kinds_differ (kind_named left name) (kind_named right name)) WrongKind ∷ [])
    on_left = ap (λ b. first_refusal (refuse_if (not b) NoSuchColumn ∷ refuse_if (not (has_name (names_of right) name)) NoSuchColumn ∷ refuse_if (kinds_differ (kind_named left name) (kind_named right name)) WrongKind ∷ []))
        (subst (TellsName left name) at (tells-name left name))

    pub key-right_refused : (f : StepFault) → kind_named right name ≡ Err f → first_refusal (key_checks left right name) ≡ Some f
    key-right_refused f e =
        let told = subst (TellsName right name) e (tells-name right name) in
        on_left ∙ ap (λ b. first_refusal (refuse_if (not b) NoSuchColumn ∷ refuse_if (kinds_differ (kind_named left name) (kind_named right name)) WrongKind ∷ [])) told.0
        ∙ ap Some (sym told.1)

    pub key-kinds : (l : Kind) → kind_named right name ≡ Ok l → first_refusal (key_checks left right name) ≡ first_refusal (refuse_if (not (same_kind k l)) WrongKind ∷ [])
    key-kinds l e =
        on_left ∙ ap (λ b. first_refusal (refuse_if (not b) NoSuchColumn ∷ refuse_if (kinds_differ (kind_named left name) (kind_named right name)) WrongKind ∷ [])) (subst (TellsName right name) e (tells-name right name))
        ∙ (λ i. first_refusal (refuse_if (kinds_differ (at i) (e i)) WrongKind ∷ []))

-- one more right column
pub renamed-more : (left : Fields) (on : List Name) (fs : Fields) (i : ℕ) (n : Name) (k : Kind) → slice_get fs i ≡ Some (n, k) →
    renamed left on (take (i + 1) fs) ≡ renamed left on (take i fs) ++ map (λ (f : Field). (right_name left f.0, f.1)) (cond (not (has_name on n)) ((n, k) ∷ []) [])
renamed-more left on fs i n k e =
    let other : Field → Bool = λ p. not (has_name on p.0) in
    let rename : Field → Field = λ f. (right_name left f.0, f.1) in
    ap (renamed left on) (take-more fs i (n, k) e) ∙ ap (map rename) (filter-append other (take i fs) ((n, k) ∷ [])) ∙ map-append rename (filter other (take i fs)) (filter other ((n, k) ∷ []))

-- one more right column, if it is no key
module _ (on : List Name) where
  others-next : (fs : Fields) (i : ℕ) (n : Name) (k : Kind) → slice_get fs i ≡ Some (n, k) →
      length (without_keys on (take (i + 1) fs)) ≡ length (without_keys on (take i fs)) + length (filter (λ (p : Field). not (has_name on p.0)) ((n, k) ∷ []))
  others-next fs i n k e =
      let other : Field → Bool = λ p. not (has_name on p.0) in
      let one : Field = (n, k) in
      ap (λ gs. length (without_keys on gs)) (take-more fs i one e) ∙ ap length (filter-append other (take i fs) (one ∷ []))
      ∙ length-append (filter other (take i fs)) (filter other (one ∷ []))

  kind-beside : (fs : Fields) (i : ℕ) (n : Name) → slice_get (names_of fs) i ≡ Some n → (k : Kind) × (slice_get fs i ≡ Some (n, k))
  kind-beside [] i n e = absurd (cc)
  kind-beside (f ∷ fs) zero n e = let s : f.0 ≡ n = cc in (f.1, λ i. Some (s i, f.1))
  kind-beside (f ∷ fs) (suc i) n e = kind-beside fs i n e

  pub others-more : (fs : Fields) (i : ℕ) (n : Name) → slice_get (names_of fs) i ≡ Some n → has_name on n ≡ false → length (without_keys on (take (i + 1) fs)) ≡ length (without_keys on (take i fs)) + 1
  others-more fs i n e h =
      let beside = kind-beside fs i n e in
      let one : Field = (n, beside.0) in
      others-next fs i n beside.0 beside.1 ∙ ap (λ b. length (without_keys on (take i fs)) + length (cond (not b) (one ∷ []) [])) h

  pub others-same : (fs : Fields) (i : ℕ) (n : Name) → slice_get (names_of fs) i ≡ Some n → has_name on n ≡ true → length (without_keys on (take (i + 1) fs)) ≡ length (without_keys on (take i fs))
  others-same fs i n e h =
      let beside = kind-beside fs i n e in
      let one : Field = (n, beside.0) in
      omega (arith, others-next fs i n beside.0 beside.1 ∙ ap (λ b. length (without_keys on (take i fs)) + length (cond (not b) (one ∷ []) [])) h)

-- ---- the schema of a join

module _ (how : How) (left right : Fields) (on : List Name) where
  abbrev pub output_fields : Fields
  output_fields = joined_fields how left right on

  abbrev join_ending : List (Option StepFault)
  join_ending = refuse_if (nat_lt MAX_COLUMNS (length output_fields)) TooMany ∷ refuse_if (not (is_distinct same_name on && is_distinct same_name (names_of output_fields))) DoubleName ∷ []

  module _ (some : (length on == 0) ≡ false) where
    pub join-key_refused : (f : StepFault) → first_refusal (flat_map (key_checks left right) on) ≡ Some f → join_schema how left right on ≡ Err f
    join-key_refused f e =
        unless-next (length on == 0) NoColumn (flat_map (key_checks left right) on ++ join_ending) output_fields some
        ∙ unless-refused (flat_map (key_checks left right) on ++ join_ending) output_fields f (first_refusal-here (flat_map (key_checks left right) on) join_ending f e)

    module _ (none : first_refusal (flat_map (key_checks left right) on) ≡ None) where
      join-begun : join_schema how left right on ≡ unless_refused join_ending output_fields
      join-begun =
          unless-next (length on == 0) NoColumn (flat_map (key_checks left right) on ++ join_ending) output_fields some
          ∙ unless-past (flat_map (key_checks left right) on) join_ending output_fields none

      abbrev ended : Bool → Bool → Bool → Result Fields StepFault
      ended many once distinct = unless_refused (refuse_if many TooMany ∷ refuse_if (not (once && distinct)) DoubleName ∷ []) output_fields

      pub join-many : nat_lt MAX_COLUMNS (length output_fields) ≡ true → join_schema how left right on ≡ Err TooMany
      join-many m = join-begun ∙ ap (λ b. ended b (is_distinct same_name on) (is_distinct same_name (names_of output_fields))) m

      module _ (few : nat_lt MAX_COLUMNS (length output_fields) ≡ false) where
        pub join-twice : is_distinct same_name on ≡ false → join_schema how left right on ≡ Err DoubleName
        join-twice o = join-begun ∙ (λ i. ended (few i) (o i) (is_distinct same_name (names_of output_fields)))

        -- past all that is judged before the first allocation, only two equal names are left
        pub join-passed : is_distinct same_name on ≡ true → join_schema how left right on ≡ unless_double output_fields
        join-passed once = join-begun ∙ (λ i. ended (few i) (once i) (is_distinct same_name (names_of output_fields)))

-- ---- the schema of a rolling sum

pub put_named-at : (fs : Fields) (n : Name) (i : ℕ) (k : Kind) → position_of n (names_of fs) ≡ Some i → put_named fs (n, k) ≡ with_kind i k fs
put_named-at [] n i k e = absurd (cc)
put_named-at (f ∷ fs) n i k e = by (same_name n f.0) refl (λ j g. put_named-at fs n j k g)
  where
    past : (o : Option ℕ) → position_of n (names_of fs) ≡ o → option_map suc o ≡ Some i → same_name n f.0 ≡ false → ((j : ℕ) → position_of n (names_of fs) ≡ Some j → put_named fs (n, k) ≡ with_kind j k fs) →
        put_named (f ∷ fs) (n, k) ≡ with_kind i k (f ∷ fs)
    past None p q s rest = absurd (cc)
    past (Some j) p q s rest =
        let h : suc j ≡ i = cc in
        ap (λ b. if b then (n, k) ∷ fs else f ∷ put_named fs (n, k)) s ∙ ap (λ gs. f ∷ gs) (rest j p) ∙ ap (λ m. with_kind m k (f ∷ fs)) h

    by : (b : Bool) → same_name n f.0 ≡ b → ((j : ℕ) → position_of n (names_of fs) ≡ Some j → put_named fs (n, k) ≡ with_kind j k fs) → put_named (f ∷ fs) (n, k) ≡ with_kind i k (f ∷ fs)
    by true s rest =
        let found : Some 0 ≡ Some i = sym (position-here (same_name n) f.0 (names_of fs) s) ∙ e in
        let z : 0 ≡ i = cc in
        ap (λ b. if b then (n, k) ∷ fs else f ∷ put_named fs (n, k)) s ∙ ap (λ (m : Name). let g : Field = (m, k) in g ∷ fs) ((bytes_decides n f.0).0 s) ∙ ap (λ m. with_kind m k (f ∷ fs)) z
    by false s rest = past (position_of n (names_of fs)) refl (sym (position-past (same_name n) f.0 (names_of fs) s) ∙ e) s rest

pub put_named-last : (fs : Fields) (n : Name) (k : Kind) → has_name (names_of fs) n ≡ false → put_named fs (n, k) ≡ fs ++ (n, k) ∷ []
put_named-last [] n k e = refl
put_named-last (f ∷ fs) n k e =
    let apart = or_parts (same_name n f.0) (has_name (names_of fs) n) e in
    ap (λ b. if b then (n, k) ∷ fs else f ∷ put_named fs (n, k)) apart.0 ∙ ap (λ gs. f ∷ gs) (put_named-last fs n k apart.1)

names-with_kind : (i : ℕ) (k : Kind) (fs : Fields) → names_of (with_kind i k fs) ≡ names_of fs
names-with_kind i k [] = refl
names-with_kind zero k (f ∷ fs) = refl
names-with_kind (suc i) k (f ∷ fs) = ap (λ ns. f.0 ∷ ns) (names-with_kind i k fs)

distinct-push : (ns : List Name) (n : Name) → has_name ns n ≡ false → is_distinct same_name ns ≡ true → is_distinct same_name (ns ++ n ∷ []) ≡ true
distinct-push [] n e d = refl
distinct-push (m ∷ ns) n e d =
    let apart = or_parts (same_name n m) (has_name ns n) e in
    let whole = and_parts (not (has_name ns m)) (is_distinct same_name ns) d in
    let other : same_name m n ≡ false = nat_list_eq_equiv.symm m n ∙ apart.0 in
    ap (λ b. not b && is_distinct same_name (ns ++ n ∷ [])) (list_any-append (same_name m) ns (n ∷ []) ∙ ap (λ b. has_name ns m || (b || false)) other ∙ or-false (has_name ns m))
    ∙ ap (λ b. b && is_distinct same_name (ns ++ n ∷ [])) whole.0
    ∙ distinct-push ns n apart.1 whole.1

-- the names of fields with one under a name, which differ if the fields' do
pub distinct-put : (fs : Fields) (n : Name) (k : Kind) (o : Option ℕ) → position_of n (names_of fs) ≡ o → is_distinct same_name (names_of fs) ≡ true → is_distinct same_name (names_of (put_named fs (n, k))) ≡ true
distinct-put fs n k (Some i) e d = ap (λ gs. is_distinct same_name (names_of gs)) (put_named-at fs n i k e) ∙ ap (is_distinct same_name) (names-with_kind i k fs) ∙ d
distinct-put fs n k None e d =
    let absent = unnamed fs n e in
    ap (λ gs. is_distinct same_name (names_of gs)) (put_named-last fs n k absent) ∙ ap (is_distinct same_name) (map-append (λ (f : Field). f.0) fs ((n, k) ∷ []))
    ∙ distinct-push (names_of fs) n absent d

put_named-some : (fs : Fields) (n : Name) (k : Kind) → 0 < length (put_named fs (n, k))
put_named-some [] n k = omega arith
put_named-some (f ∷ fs) n k = by (same_name n f.0) refl
  where
    by : (b : Bool) → same_name n f.0 ≡ b → 0 < length (put_named (f ∷ fs) (n, k))
    by true s = rw (ap (λ b. if b then (n, k) ∷ fs else f ∷ put_named fs (n, k)) s) (omega arith)
    by false s = rw (ap (λ b. if b then (n, k) ∷ fs else f ∷ put_named fs (n, k)) s) (omega arith)

-- the columns of a rolling sum make a schema
pub roll-made : (fs : Fields) (name : Name) → is_distinct same_name (names_of fs) ≡ true → length (put_named fs (name, Whole)) ≤ MAX_COLUMNS →
    unless_refused (schema_checks (names_of (put_named fs (name, Whole)))) (put_named fs (name, Whole)) ≡ Ok (put_named fs (name, Whole))
roll-made fs name d few =
    let out = put_named fs (name, Whole) in
    schema-few out (put_named-some fs name Whole) few
    ∙ ap (λ b. unless_refused (refuse_if (not b) DoubleName ∷ []) out) (distinct-put fs name Whole (position_of name (names_of fs)) refl d)

-- all that is judged before the first allocation is all
pub roll-accepted : (fs : Fields) (column name : Name) (k : Kind) (window min_samples : ℤ) → kind_named fs column ≡ Ok k → same_kind k Whole ≡ true →
    is_from_to (pos 1) (pos MAX_WINDOW) window ≡ true → is_from_to (pos 1) window min_samples ≡ true → nat_lt MAX_COLUMNS (length (put_named fs (name, Whole))) ≡ false →
    roll_schema fs column window min_samples name ≡ Ok (put_named fs (name, Whole))
roll-accepted fs column name k window min_samples e w in_window in_samples few =
    let out = put_named fs (name, Whole) in
    let judge : Result Kind StepFault → Result Fields StepFault = λ r. and_then r (λ k. unless_refused
    (refuse_if (not (same_kind k Whole)) WrongKind ∷ refuse_if (not (is_from_to (pos 1) (pos MAX_WINDOW) window)) Window ∷ refuse_if (not (is_from_to (pos 1) window min_samples)) Samples ∷ refuse_if (nat_lt MAX_COLUMNS (length out)) TooMany ∷ []) out) in
    let judged : Bool → Bool → Bool → Bool → Result Fields StepFault = λ whole windows samples many. unless_refused
    (refuse_if (not whole) WrongKind ∷ refuse_if (not windows) Window ∷ refuse_if (not samples) Samples ∷ refuse_if many TooMany ∷ []) out in
    ap judge e ∙ (λ i. judged (w i) (in_window i) (in_samples i) (few i))

-- and a name that is new to 64 columns is one too many
pub roll-many : (fs : Fields) (column name : Name) (k : Kind) (window min_samples : ℤ) → kind_named fs column ≡ Ok k → same_kind k Whole ≡ true →
    is_from_to (pos 1) (pos MAX_WINDOW) window ≡ true → is_from_to (pos 1) window min_samples ≡ true → nat_lt MAX_COLUMNS (length (put_named fs (name, Whole))) ≡ true →
    roll_schema fs column window min_samples name ≡ Err TooMany
roll-many fs column name k window min_samples e w in_window in_samples many =
    let out = put_named fs (name, Whole) in
    let judge : Result Kind StepFault → Result Fields StepFault = λ r. and_then r (λ k. unless_refused
    (refuse_if (not (same_kind k Whole)) WrongKind ∷ refuse_if (not (is_from_to (pos 1) (pos MAX_WINDOW) window)) Window ∷ refuse_if (not (is_from_to (pos 1) window min_samples)) Samples ∷ refuse_if (nat_lt MAX_COLUMNS (length out)) TooMany ∷ []) out) in
    let judged : Bool → Bool → Bool → Bool → Result Fields StepFault = λ whole windows samples many. unless_refused
    (refuse_if (not whole) WrongKind ∷ refuse_if (not windows) Window ∷ refuse_if (not samples) Samples ∷ refuse_if many TooMany ∷ []) out in
    ap judge e ∙ (λ i. judged (w i) (in_window i) (in_samples i) (many i))

-- how many columns there are with one under a name
pub put_named-length : (fs : Fields) (n : Name) (k : Kind) (i : ℕ) → position_of n (names_of fs) ≡ Some i → length (put_named fs (n, k)) ≡ length fs
put_named-length fs n k i e = ap length (put_named-at fs n i k e) ∙ by i fs
  where
    by : (i : ℕ) (fs : Fields) → length (with_kind i k fs) ≡ length fs
    by i [] = refl
    by zero (f ∷ fs) = refl
    by (suc i) (f ∷ fs) = ap suc (by i fs)

pub put_named-longer : (fs : Fields) (n : Name) (k : Kind) → position_of n (names_of fs) ≡ None → length (put_named fs (n, k)) ≡ length fs + 1
put_named-longer fs n k e = ap length (put_named-last fs n k (unnamed fs n e)) ∙ length-append fs ((n, k) ∷ [])

-- ---- what holds if nothing is refused

pub accepted : {X : Type 0} (checks : List (Option StepFault)) (x : X) → IsOk (unless_refused checks x) → first_refusal checks ≡ None
accepted checks x ok = by (first_refusal checks) refl
  where
    by : (o : Option StepFault) → first_refusal checks ≡ o → first_refusal checks ≡ None
    by None e = e
    by (Some f) e = absurd (refused (subst (λ r. IsOk r) (ap (chosen x) e) ok))
      where
        refused : IsOk (chosen x (Some f)) → ⊥
        refused h = grind arith

pub none-first : (b : Bool) (f : StepFault) (rest : List (Option StepFault)) → first_refusal (refuse_if b f ∷ rest) ≡ None → (b ≡ false) × (first_refusal rest ≡ None)
none-first true f rest e = absurd (cc)
none-first false f rest e = (refl, e)

pub none-both : (xs ys : List (Option StepFault)) → first_refusal (xs ++ ys) ≡ None → (first_refusal xs ≡ None) × (first_refusal ys ≡ None)
none-both [] ys e = (refl, e)
none-both (None ∷ xs) ys e = none-both xs ys e
none-both (Some f ∷ xs) ys e = absurd (cc)

pub none-each : {X : Type 0} (checks : X → List (Option StepFault)) (xs : List X) → first_refusal (flat_map checks xs) ≡ None → (k : ℕ) (d : X) → k < length xs → first_refusal (checks (get_or xs k d)) ≡ None
none-each checks [] e k d low = absurd (omega (arith, low))
none-each checks (x ∷ xs) e zero d low = (none-both (checks x) (flat_map checks xs) e).0
none-each checks (x ∷ xs) e (suc k) d low = none-each checks xs (none-both (checks x) (flat_map checks xs) e).1 k d (omega (arith, low))

-- what is judged is not refused if the answer is a value
pub judged-ok : {X : Type 0} (expected : Result X StepFault) (x : X) → IsJudgement expected (Ok x) → IsOk expected
judged-ok expected x (inl h) = sym (ap is_ok h)
judged-ok expected x (inr h) = absurd (cc)

some-of : {X : Type 0} (xs : List X) → (length xs == 0) ≡ false → 1 ≤ length xs
some-of [] e = absurd (cc)
some-of (x ∷ xs) e = omega arith

module _ (how : How) (left right : Fields) (on : List Name) (ok : IsOk (join_schema how left right on)) where
  abbrev join_checks : List (Option StepFault)
  join_checks = refuse_if (length on == 0) NoColumn ∷ (flat_map (key_checks left right) on ++ join_ending how left right on)

  join-begins : ((length on == 0) ≡ false) × (first_refusal (flat_map (key_checks left right) on ++ join_ending how left right on) ≡ None)
  join-begins = none-first (length on == 0) NoColumn (flat_map (key_checks left right) on ++ join_ending how left right on) (accepted join_checks (joined_fields how left right on) ok)

  join-parts : (first_refusal (flat_map (key_checks left right) on) ≡ None) × (first_refusal (join_ending how left right on) ≡ None)
  join-parts = none-both (flat_map (key_checks left right) on) (join_ending how left right on) join-begins.1

  key-parts : (k : ℕ) (d : Name) → k < length on →
      (not (has_name (names_of left) (get_or on k d)) ≡ false) × (not (has_name (names_of right) (get_or on k d)) ≡ false) × (kinds_differ (kind_named left (get_or on k d)) (kind_named right (get_or on k d)) ≡ false)
  key-parts k d low =
      let at_left = none-first (not (has_name (names_of left) (get_or on k d))) NoSuchColumn _ (none-each (key_checks left right) on join-parts.0 k d low) in
      let at_right = none-first (not (has_name (names_of right) (get_or on k d))) NoSuchColumn _ at_left.1 in
      (at_left.0, at_right.0, (none-first (kinds_differ (kind_named left (get_or on k d)) (kind_named right (get_or on k d))) WrongKind [] at_right.1).0)

  -- the kinds of a key on both sides agree
  pub join-agree : (k : ℕ) (d : Name) → k < length on → kinds_differ (kind_named left (get_or on k d)) (kind_named right (get_or on k d)) ≡ false
  join-agree k d low = (key-parts k d low).2

  pub join-some : 1 ≤ length on
  join-some = some-of on join-begins.0

  pub join-known : AllPass (has_name (names_of left)) on
  join-known k d low = not-false (has_name (names_of left) (get_or on k d)) (key-parts k d low).0

  pub join-known_right : AllPass (has_name (names_of right)) on
  join-known_right k d low = not-false (has_name (names_of right) (get_or on k d)) (key-parts k d low).1

  pub join-distinct : IsTrue (is_distinct same_name on)
  join-distinct =
      let once = is_distinct same_name on in
      let distinct = is_distinct same_name (names_of (joined_fields how left right on)) in
      let many = nat_lt MAX_COLUMNS (length (joined_fields how left right on)) in
      let both = none-first (not (once && distinct)) DoubleName [] (none-first many TooMany (refuse_if (not (once && distinct)) DoubleName ∷ []) join-parts.1).1 in
      (and_parts once distinct (not-false (once && distinct) both.0)).0

  pub join-output : join_schema how left right on ≡ Ok (joined_fields how left right on)
  join-output = ap (chosen (joined_fields how left right on)) (accepted join_checks (joined_fields how left right on) ok)
