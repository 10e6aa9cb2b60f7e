-- Joins, groupings and rolling sums of rows that agree in the columns that they need.
use Rattle.std.proofs.Common.{◌≡◌, ℕ, suc, ◌-◌, Bool, true, false, cond, not, ◌&&◌, ◌||◌, ℤ, pos, List, [], ◌∷◌, ◌++◌, length, map, filter, nat_le, nat_lt, is_ok, append-nil, Option, Some, None, Result, Ok, Err, refl, ap, sym, ◌∙◌, subst, arith}
use Rattle.std.specs.Prelude.{All, IsOk, flat_map, option_map, replicate, if◌then◌else◌}
use Rattle.std.specs.Bool.{◌==◌}
use Rattle.std.specs.Cmp.{second_so}
use Rattle.std.specs.List.{zip}
use Rattle.std.specs.Result.{result_map_both}
use Rattle.std.specs.Cmp.Lexicographic.{nat_list_eq_equiv}
use Rattle.std.proofs.lemmas.List.{length-map, length-replicate}
use Rattle.std.proofs.lemmas.Bool.{not-false}
use Rattle.fq_column.specs.declared.cells.Cell.{Cell}
use Rattle.fq_column.specs.declared.cells.Cell.TheVariants as cell
use Rattle.fq_column.specs.declared.cells.Cell.TheVariants.{Null}
use Rattle.fq_column.specs.declared.cells.Kind.{Kind}
use Rattle.fq_column.specs.declared.cells.Kind.TheVariants.{Whole}
use Rattle.fq_column.specs.declared.faults.StepFault.{StepFault}
use Rattle.fq_column.specs.declared.faults.StepFault.TheVariants.{DoubleName, NoColumn, Samples, TooMany, Window, WrongKind}
use Rattle.fq_column.specs.declared.schemas.TheConstants.{MAX_COLUMNS}
use Rattle.fq_column.specs.Agreement.{marked, AgreeOn, AllAgreeOn, StreamsAgreeOn}
use Rattle.fq_column.specs.Frame.{Field, Fields, Name, Row, has_name, names_of, put_named, same_name, value_named}
use Rattle.fq_column.specs.Lists.{all_or_missing, is_distinct}
use Rattle.fq_column.specs.Cell.{same_kind}
use Rattle.fq_column.specs.Refusal.{and_then, first_refusal, refuse_if, unless_refused}
use Rattle.fq_column.specs.Schema.{kind_named}
use Rattle.fq_column.specs.Stream.{Stream, done, faulted, one_by_one, rename_fault, then_stream}
use Rattle.fq_column.proofs.AgreementLemmas.{GiveAlike, after-one, agree-fewer, agree-same, all-agree-append, all-agree-count, all-agree-map, has_name-filter, has_name-left, has_name-right, has_name-self, put_all-agree, step_on-agree, value_named-agree}
use Rattle.fq_ops.specs.declared.joins.How.{How}
use Rattle.fq_ops.specs.declared.joins.How.TheVariants.{Inner, Left, Semi, Anti}
use Rattle.fq_ops.specs.Aggregate.{Aggregate, len, over, Output, aggregated, first_seen, value_of}
use Rattle.fq_ops.specs.Group.{all_ok, group_of, group_row, group_stream, grouped, key_of, keys_of_rows, same_key}
use Rattle.fq_ops.specs.Join.{join_schema, join_stream, joined, joined_fields, key_checks, keys_match, pairs, renamed, right_name, right_values, rows_match, within_room, without_keys}
use Rattle.fq_ops.specs.Needed.{names_aggregated, needed_before_groups, needed_before_join, needed_before_roll}
use Rattle.fq_ops.specs.declared.rolls.TheConstants.{MAX_WINDOW}
use Rattle.fq_ops.specs.Roll.{is_from_to, roll_rows, roll_schema, roll_stream, rolled, with_sum}
use Rattle.fq_ops.proofs.GroupedLemmas.{AllIn-from}
use Rattle.fq_ops.proofs.ProbeLemmas.{AllIn}
use Rattle.fq_ops.proofs.RefusalLemmas.{accepted, none-both, none-first}

-- the values under names that are among those in which rows agree
keys-agree : (names : List Name) (fields : Fields) (keys : List Name) → ((n : Name) → has_name keys n ≡ true → has_name names n ≡ true) →
    (row other : Row) → AgreeOn (marked names fields) row other → map (λ n. value_named fields n row) keys ≡ map (λ n. value_named fields n other) keys
keys-agree names fields [] among row other h = refl
keys-agree names fields (k ∷ keys) among row other h =
    let first = value_named-agree names fields k (among k (has_name-self k keys)) row other h in
    let rest = keys-agree names fields keys (λ n e. among n (has_name-right (k ∷ []) keys n e)) row other h in
    λ i. first i ∷ rest i

-- ---- joins

-- rows that agree, with the same cells after them
wider-agree : (wanted : Name → Bool) (left right : Fields) (row other more : Row) → AgreeOn (map wanted (names_of left)) row other → length more ≡ length right →
    AgreeOn (map wanted (names_of (left ++ right))) (row ++ more) (other ++ more)
wider-agree wanted [] right [] [] more h e = agree-same (map wanted (names_of right)) more (e ∙ sym (length-map right (λ f. f.0)) ∙ sym (length-map (names_of right) wanted))
wider-agree wanted [] right [] (d ∷ other) more h e = absurd h
wider-agree wanted [] right (c ∷ row) other more h e = absurd h
wider-agree wanted (f ∷ left) right [] other more h e = absurd h
wider-agree wanted (f ∷ left) right (c ∷ row) [] more h e = absurd h
wider-agree wanted (f ∷ left) right (c ∷ row) (d ∷ other) more h e = (h.0, wider-agree wanted left right row other more h.1 e)

-- a right row without its keys is as wide as the columns without them
length-right : (on : List Name) (right : Fields) (row : Row) → length row ≡ length right → length (without_keys on (zip (names_of right) row)) ≡ length (without_keys on right)
length-right on [] [] e = refl
length-right on [] (c ∷ row) e = absurd (omega (arith, e))
length-right on (f ∷ right) [] e = absurd (omega (arith, e))
length-right on (f ∷ right) (c ∷ row) e = go (not (has_name on f.0)) (length-right on right row (omega (arith, e)))
  where
    go : (b : Bool) → length (without_keys on (zip (names_of right) row)) ≡ length (without_keys on right) →
        length (cond b ((f.0, c) ∷ without_keys on (zip (names_of right) row)) (without_keys on (zip (names_of right) row))) ≡ length (cond b (f ∷ without_keys on right) (without_keys on right))
    go true h = ap suc h
    go false h = h

-- whether rows are as wide as these columns
abbrev AreWide : Fields → List Row → Type 0
AreWide fields rows = AllIn (λ row. length row ≡ length fields) rows

wide-filter : (fields : Fields) (p : Row → Bool) (rows : List Row) → AreWide fields rows → AreWide fields (filter p rows)
wide-filter fields p [] w = tt
wide-filter fields p (row ∷ rows) w = go (p row) (wide-filter fields p rows w.1)
  where
    go : (b : Bool) → AreWide fields (filter p rows) → AreWide fields (cond b (row ∷ filter p rows) (filter p rows))
    go true rest = (w.0, rest)
    go false rest = rest

module _ (left right : Fields) (on needed : List Name) where
  abbrev wide : How → List Bool
  wide how = marked needed (joined_fields how left right on)

  -- a left row with a right one
  pair-agree : (l k : Row) → AgreeOn (marked needed left) l k → (m : Row) → length m ≡ length right →
      AgreeOn (marked needed (left ++ renamed left on right)) (l ++ right_values left right on m) (k ++ right_values left right on m)
  pair-agree l k h m e = wider-agree (has_name needed) left (renamed left on right) l k (right_values left right on m) h
      (length-map (without_keys on (zip (names_of right) m)) (λ p. p.1) ∙ length-right on right m e ∙ sym (length-map (without_keys on right) (λ (f : Field). (right_name left f.0, f.1))))

  pairs-with : (l k : Row) → AgreeOn (marked needed left) l k → (rs : List Row) → AreWide right rs →
      AllAgreeOn (marked needed (left ++ renamed left on right)) (map (λ m. l ++ right_values left right on m) rs) (map (λ m. k ++ right_values left right on m) rs)
  pairs-with l k h [] w = tt
  pairs-with l k h (m ∷ rs) w = (pair-agree l k h m w.0, pairs-with l k h rs w.1)

  nulls-agree : (l k : Row) → AgreeOn (marked needed left) l k →
      AgreeOn (marked needed (left ++ renamed left on right)) (l ++ replicate (length (without_keys on right)) Null) (k ++ replicate (length (without_keys on right)) Null)
  nulls-agree l k h = wider-agree (has_name needed) left (renamed left on right) l k (replicate (length (without_keys on right)) Null) h
      (length-replicate (length (without_keys on right)) Null ∙ sym (length-map (without_keys on right) (λ (f : Field). (right_name left f.0, f.1))))

  -- a left row alone, as semi and anti joins give it
  alone-agree : (l k : Row) → AgreeOn (marked needed left) l k → AgreeOn (marked needed (left ++ [])) l k
  alone-agree l k h = subst (λ (fs : Fields). AgreeOn (marked needed fs) l k) (sym (append-nil left)) h

  pairs-agree : (how : How) (l k : Row) → AgreeOn (marked needed left) l k → (rs : List Row) → AreWide right rs → AllAgreeOn (wide how) (pairs left right on how l rs) (pairs left right on how k rs)
  pairs-agree Inner l k h [] w = tt
  pairs-agree Left l k h [] w = (nulls-agree l k h, tt)
  pairs-agree Semi l k h [] w = tt
  pairs-agree Anti l k h [] w = (alone-agree l k h, tt)
  pairs-agree Inner l k h (m ∷ rs) w = pairs-with l k h (m ∷ rs) w
  pairs-agree Left l k h (m ∷ rs) w = pairs-with l k h (m ∷ rs) w
  pairs-agree Semi l k h (m ∷ rs) w = (alone-agree l k h, tt)
  pairs-agree Anti l k h (m ∷ rs) w = tt

  joined-agree : (how : How) (nulls_equal : Bool) (rows : List Row) → AreWide right rows → (l k : Row) → AgreeOn (marked (needed_before_join on needed) left) l k →
      AllAgreeOn (wide how) (joined left right on how nulls_equal rows l) (joined left right on how nulls_equal rows k)
  joined-agree how nulls_equal rows w l k h =
      let all = needed_before_join on needed in
      let of_keys : List Cell → List Row = λ cells. filter (λ r. keys_match nulls_equal cells (map (λ n. value_named right n r) on)) rows in
      let same = ap of_keys (keys-agree all left on (λ n e. has_name-left on needed n e) l k h) in
      let kept = agree-fewer (has_name all) (has_name needed) (names_of left) (λ n e. has_name-right on needed n e) l k h in
      subst (λ (rs : List Row). AllAgreeOn (wide how) (joined left right on how nulls_equal rows l) (pairs left right on how k rs)) same
      (pairs-agree how l k kept (filter (rows_match left right on nulls_equal l) rows) (wide-filter right (rows_match left right on nulls_equal l) rows w))

-- what rows give, up to the room
room-agree : (marks after : List Bool) (output : Row → List Row) → ((row other : Row) → AgreeOn marks row other → AllAgreeOn after (output row) (output other)) →
    (room : ℕ) (rows others : List Row) → AllAgreeOn marks rows others → StreamsAgreeOn after (within_room output room rows) (within_room output room others)
room-agree marks after output alike room [] [] h = record { rows = tt; fault = refl }
room-agree marks after output alike room [] (other ∷ others) h = absurd h
room-agree marks after output alike room (row ∷ rows) [] h = absurd h
room-agree marks after output alike room (row ∷ rows) (other ∷ others) h =
    let given = alike row other h.0 in
    subst (λ (n : ℕ). StreamsAgreeOn after (within_room output room (row ∷ rows)) (if nat_le n room then then_stream (done (output other)) (rename_fault suc (within_room output (room - n) others)) else faulted 0))
    (all-agree-count after (output row) (output other) given)
    (go (nat_le (length (output row)) room) given (room-agree marks after output alike (room - length (output row)) rows others h.1))
  where
    go : (b : Bool) → AllAgreeOn after (output row) (output other) → StreamsAgreeOn after (within_room output (room - length (output row)) rows) (within_room output (room - length (output row)) others) →
        StreamsAgreeOn {F = ℕ} after (if b then then_stream (done (output row)) (rename_fault suc (within_room output (room - length (output row)) rows)) else faulted 0)
        (if b then then_stream (done (output other)) (rename_fault suc (within_room output (room - length (output row)) others)) else faulted 0)
    go true given rest = record { rows = all-agree-append after (output row) (output other) (within_room output (room - length (output row)) rows).rows (within_room output (room - length (output row)) others).rows given rest.rows; fault = ap (option_map suc) rest.fault }
    go false given rest = record { rows = tt; fault = refl }

pub join_stream-agree : {F : Type 0} (how : How) (nulls_equal : Bool) (left right : Fields) (on : List Name) (rows : List Row) (room : ℕ) (too_many : F) (needed : List Name) → All (λ row. length row ≡ length right) rows →
    (u v : Stream F) → StreamsAgreeOn (marked (needed_before_join on needed) left) u v →
    StreamsAgreeOn (marked needed (joined_fields how left right on)) (join_stream how nulls_equal left right on rows room too_many u) (join_stream how nulls_equal left right on rows room too_many v)
join_stream-agree how nulls_equal left right on rows room too_many needed w u v h =
    step_on-agree (marked (needed_before_join on needed) left) (marked needed (joined_fields how left right on)) _ (λ place. too_many)
    (room-agree (marked (needed_before_join on needed) left) (marked needed (joined_fields how left right on)) (joined left right on how nulls_equal rows) (joined-agree left right on needed how nulls_equal rows (AllIn-from (λ row. length row ≡ length right) rows w)) room) u v h

-- ---- groupings

module _ (fields : Fields) (keys : List Name) (outputs : List Output) where
  abbrev all : List Name
  all = needed_before_groups keys outputs

  abbrev marks : List Bool
  marks = marked (needed_before_groups keys outputs) fields

  key-same : (row other : Row) → AgreeOn marks row other → key_of fields keys row ≡ key_of fields keys other
  key-same row other h = keys-agree all fields keys (λ n e. has_name-left keys (flat_map (λ (o : Output). names_aggregated o.1) outputs) n e) row other h

  -- the rows of a key
  group-agree : (key : List Cell) (rows others : List Row) → AllAgreeOn marks rows others → AllAgreeOn marks (group_of fields keys rows key) (group_of fields keys others key)
  group-agree key [] [] h = tt
  group-agree key [] (other ∷ others) h = absurd h
  group-agree key (row ∷ rows) [] h = absurd h
  group-agree key (row ∷ rows) (other ∷ others) h =
      subst (λ (k : List Cell). AllAgreeOn marks (group_of fields keys (row ∷ rows) key) (cond (same_key key k) (other ∷ group_of fields keys others key) (group_of fields keys others key))) (key-same row other h.0)
      (go (same_key key (key_of fields keys row)) (group-agree key rows others h.1))
    where
      go : (b : Bool) → AllAgreeOn marks (group_of fields keys rows key) (group_of fields keys others key) →
          AllAgreeOn marks (cond b (row ∷ group_of fields keys rows key) (group_of fields keys rows key)) (cond b (other ∷ group_of fields keys others key) (group_of fields keys others key))
      go true rest = (h.0, rest)
      go false rest = rest

  aggregate-same : (a : Aggregate) → ((n : Name) → has_name (names_aggregated a) n ≡ true → has_name all n ≡ true) → (rows others : List Row) → AllAgreeOn marks rows others → aggregated fields a rows ≡ aggregated fields a others
  aggregate-same len among rows others h = ap (λ (n : ℕ). Some (cell.Whole (pos n))) (all-agree-count marks rows others h)
  aggregate-same (over f n) among rows others h = ap (value_of f) (all-agree-map marks (value_named fields n) (value_named-agree all fields n (among n (has_name-self n []))) rows others h)

  aggregates-same : (os : List Output) → ((n : Name) → has_name (flat_map (λ (o : Output). names_aggregated o.1) os) n ≡ true → has_name all n ≡ true) → (rows others : List Row) → AllAgreeOn marks rows others →
      map (λ (o : Output). aggregated fields o.1 rows) os ≡ map (λ (o : Output). aggregated fields o.1 others) os
  aggregates-same [] among rows others h = refl
  aggregates-same (o ∷ os) among rows others h =
      let first = aggregate-same o.1 (λ n e. among n (has_name-left (names_aggregated o.1) (flat_map (λ (p : Output). names_aggregated p.1) os) n e)) rows others h in
      let rest = aggregates-same os (λ n e. among n (has_name-right (names_aggregated o.1) (flat_map (λ (p : Output). names_aggregated p.1) os) n e)) rows others h in
      λ i. first i ∷ rest i

  group_row-same : (rows others : List Row) → AllAgreeOn marks rows others → (key : List Cell) → group_row fields keys outputs rows key ≡ group_row fields keys outputs others key
  group_row-same rows others h key = ap (λ os. result_map_both (λ cells. key ++ cells) (λ i. i) (all_or_missing os))
      (aggregates-same outputs (λ n e. has_name-right keys (flat_map (λ (o : Output). names_aggregated o.1) outputs) n e) (group_of fields keys rows key) (group_of fields keys others key) (group-agree key rows others h))

  rows-same : (rows others : List Row) → AllAgreeOn marks rows others → (ks : List (List Cell)) → map (group_row fields keys outputs rows) ks ≡ map (group_row fields keys outputs others) ks
  rows-same rows others h [] = refl
  rows-same rows others h (k ∷ ks) = let first = group_row-same rows others h k in let rest = rows-same rows others h ks in λ i. first i ∷ rest i

  grouped-same : (rows others : List Row) → AllAgreeOn marks rows others → grouped fields keys outputs rows ≡ grouped fields keys outputs others
  grouped-same rows others h =
      ap (λ ks. all_ok (map (group_row fields keys outputs rows) ks)) (ap (first_seen same_key) (all-agree-map marks (key_of fields keys) key-same rows others h))
      ∙ ap all_ok (rows-same rows others h (keys_of_rows fields keys others))

  -- the groups are the same
  pub group_stream-same : {F : Type 0} (out_of_range : ℕ → F) (u v : Stream F) → StreamsAgreeOn marks u v → group_stream fields keys outputs out_of_range u ≡ group_stream fields keys outputs out_of_range v
  group_stream-same {F} out_of_range u v h =
      let same = grouped-same u.rows v.rows h.rows in
      λ i. elim (h.fault i) as (λ _. Stream F) [ Some f ↦ faulted f | None ↦ elim (same i) as (λ _. Stream F) [ Ok rows ↦ done rows | Err g ↦ faulted (out_of_range g) ] ]

-- ---- rolling sums

module _ (fields : Fields) (column : Name) (n m : ℕ) (name : Name) (needed : List Name) where
  abbrev before : List Name
  before = needed_before_roll column name needed

  abbrev after : Fields
  after = put_named fields (name, Whole)

  with_sum-agree : is_distinct same_name (names_of fields) ≡ true → (row other : Row) → AgreeOn (marked before fields) row other → (sum : Option Cell) →
      GiveAlike (marked needed after) (with_sum fields name row sum) (with_sum fields name other sum)
  with_sum-agree d row other h None = refl
  with_sum-agree d row other h (Some c) = (
    put_all-agree needed (name ∷ []) (Whole ∷ []) (c ∷ []) refl refl (has_name before)
        (λ k q r. has_name-right (column ∷ []) (filter (λ j. not (same_name name j)) needed) k (has_name-filter (λ j. not (same_name name j)) needed k q (ap not (apart k r))))
        fields d row other h,
    tt,
  )
    where
      apart : (k : Name) → has_name (name ∷ []) k ≡ false → same_name name k ≡ false
      apart k r = nat_list_eq_equiv.symm name k ∙ first-false (same_name k name) false r
        where
          first-false : (a b : Bool) → (a || b) ≡ false → a ≡ false
          first-false true b e = absurd (cc)
          first-false false b e = refl

  sums-agree : is_distinct same_name (names_of fields) ≡ true → (rows others : List Row) → AllAgreeOn (marked before fields) rows others → (sums : List (Option Cell)) →
      StreamsAgreeOn (marked needed after) (one_by_one (λ (p : Row × Option Cell). with_sum fields name p.0 p.1) (zip rows sums)) (one_by_one (λ (p : Row × Option Cell). with_sum fields name p.0 p.1) (zip others sums))
  sums-agree d [] [] h sums = record { rows = tt; fault = refl }
  sums-agree d [] (other ∷ others) h sums = absurd h
  sums-agree d (row ∷ rows) [] h sums = absurd h
  sums-agree d (row ∷ rows) (other ∷ others) h [] = record { rows = tt; fault = refl }
  sums-agree d (row ∷ rows) (other ∷ others) h (s ∷ sums) =
      after-one (marked needed after) (with_sum fields name row s) (with_sum fields name other s) (with_sum-agree d row other h.0 s) _ _ (sums-agree d rows others h.1 sums)

  roll_rows-agree : is_distinct same_name (names_of fields) ≡ true → (rows others : List Row) → AllAgreeOn (marked before fields) rows others →
      StreamsAgreeOn (marked needed after) (roll_rows fields column n m name rows) (roll_rows fields column n m name others)
  roll_rows-agree d rows others h =
      let same = all-agree-map (marked before fields) (value_named fields column) (value_named-agree before fields column (has_name-self column (filter (λ j. not (same_name name j)) needed))) rows others h in
      subst (λ (cells : List Cell). StreamsAgreeOn (marked needed after) (roll_rows fields column n m name rows) (one_by_one (λ (p : Row × Option Cell). with_sum fields name p.0 p.1) (zip others (rolled n m cells)))) same
      (sums-agree d rows others h (rolled n m (map (value_named fields column) rows)))

  pub roll_stream-agree : {F : Type 0} (out_of_range : F) → is_distinct same_name (names_of fields) ≡ true → (u v : Stream F) → StreamsAgreeOn (marked before fields) u v →
      StreamsAgreeOn (marked needed after) (roll_stream fields column n m name out_of_range u) (roll_stream fields column n m name out_of_range v)
  roll_stream-agree out_of_range d u v h = step_on-agree (marked before fields) (marked needed after) _ (λ _. out_of_range) (roll_rows-agree d) u v h

-- ---- what a step that is not refused leaves

unless-ok : {X : Type 0} (checks : List (Option StepFault)) (x y : X) → unless_refused checks x ≡ Ok y → x ≡ y
unless-ok {X} checks x y e = go (first_refusal checks) e
  where
    go : (o : Option StepFault) → (elim o as (λ _. Result X StepFault) [ None ↦ Ok x | Some fault ↦ Err fault ]) ≡ Ok y → x ≡ y
    go None f = cc
    go (Some fault) f = absurd (cc)

-- a join leaves its columns, whose names differ
pub joined-distinct : (how : How) (left right : Fields) (on : List Name) (after : Fields) → join_schema how left right on ≡ Ok after →
    (joined_fields how left right on ≡ after) × (is_distinct same_name (names_of after) ≡ true)
joined-distinct how left right on after e =
    let once = is_distinct same_name on in
    let distinct = is_distinct same_name (names_of (joined_fields how left right on)) in
    let many = nat_lt MAX_COLUMNS (length (joined_fields how left right on)) in
    let ending : List (Option StepFault) = refuse_if many TooMany ∷ refuse_if (not (once && distinct)) DoubleName ∷ [] in
    let ok : IsOk (join_schema how left right on) = ap is_ok e in
    let begins = none-first (length on == 0) NoColumn (flat_map (key_checks left right) on ++ ending) (accepted (refuse_if (length on == 0) NoColumn ∷ (flat_map (key_checks left right) on ++ ending)) (joined_fields how left right on) ok) in
    let ends = (none-both (flat_map (key_checks left right) on) ending begins.1).1 in
    let last = none-first (not (once && distinct)) DoubleName [] (none-first many TooMany (refuse_if (not (once && distinct)) DoubleName ∷ []) ends).1 in
    let is = unless-ok (refuse_if (length on == 0) NoColumn ∷ (flat_map (key_checks left right) on ++ ending)) (joined_fields how left right on) after e in
    (is, ap (λ (fs : Fields). is_distinct same_name (names_of fs)) (sym is) ∙ second_so once distinct (not-false (once && distinct) last.0))

-- a rolling sum puts its column
pub roll-after : (fields : Fields) (column : Name) (window min_samples : ℤ) (name : Name) (after : Fields) → roll_schema fields column window min_samples name ≡ Ok after → put_named fields (name, Whole) ≡ after
roll-after fields column window min_samples name after e = go (kind_named fields column) e
  where
    go : (r : Result Kind StepFault) → and_then r (λ k. unless_refused (refuse_if (not (same_kind k Whole)) WrongKind ∷ refuse_if (not (is_from_to (pos 1) (pos MAX_WINDOW) window)) Window
        ∷ refuse_if (not (is_from_to (pos 1) window min_samples)) Samples ∷ refuse_if (nat_lt MAX_COLUMNS (length (put_named fields (name, Whole)))) TooMany ∷ []) (put_named fields (name, Whole))) ≡ Ok after →
        put_named fields (name, Whole) ≡ after
    go (Ok k) f = unless-ok (refuse_if (not (same_kind k Whole)) WrongKind ∷ refuse_if (not (is_from_to (pos 1) (pos MAX_WINDOW) window)) Window
        ∷ refuse_if (not (is_from_to (pos 1) window min_samples)) Samples ∷ refuse_if (nat_lt MAX_COLUMNS (length (put_named fields (name, Whole)))) TooMany ∷ []) (put_named fields (name, Whole)) after f
    go (Err x) f = absurd (cc)
