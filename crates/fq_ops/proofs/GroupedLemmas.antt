-- What a grouper keeps of rows is their grouping.
use Rattle.std.proofs.Common.{◌≡◌, ℕ, zero, suc, ◌+◌, ◌-◌, ◌<◌, Bool, true, List, [], ◌∷◌, ◌++◌, get_or, inl, inr, length, map, Option, Some, None, Ok, Err, unwrap_or, refl, sym, ap, ◌∙◌, arith, if◌then◌else◌}
use Rattle.std.specs.Prelude.{All, IsOk}
use Rattle.std.specs.List.{range_with_len}
use Rattle.std.specs.Option.{option_map}
use Rattle.std.specs.Result.{result_map_both, result_unwrap_or}
use Rattle.std.proofs.lemmas.Bool.{cases_lt}
use Rattle.std.proofs.Math.Seq.{get_or-append_right}
use Rattle.std.proofs.Math.ListN.{get_or-append}
use Rattle.std.proofs.lemmas.List.{get_or-map, length-append, length-map}
use Rattle.std.proofs.lemmas.List.FromFn.{fill_by_all, length-range_with_len}
use Rattle.fq_column.specs.declared.cells.Cell.{Cell}
use Rattle.fq_column.specs.declared.cells.Cell.TheVariants.{Null}
use Rattle.fq_column.specs.declared.cells.Kind.{Kind}
use Rattle.fq_column.specs.declared.cells.Kind.TheVariants.{Whole}
use Rattle.fq_column.specs.Cell.{has_kind}
use Rattle.fq_column.specs.Frame.{Field, Fields, Name, Row, kinds_of, row_fits, value_at, value_named}
use Rattle.fq_column.specs.Lists.{all_or_missing, first_missing, numbers}
use Rattle.fq_column.specs.Schema.{kind_named}
use Rattle.fq_ops.specs.Accumulated.{Accumulated, first_found, group_pick, group_picks, out_of_range_in, value_in}
use Rattle.fq_ops.specs.Aggregate.{Output, aggregated, first_seen, len}
use Rattle.fq_ops.specs.Fields.{Judged}
use Rattle.fq_ops.specs.Grouped.{Grouped, HasTakenRows, gathered, running_of}
use Rattle.fq_ops.specs.Group.{aggregate_kind, all_ok, group_of, group_row, group_schema, grouped, grouped_fields, grouped_kinds, key_of, keys_of_rows, same_key}
use Rattle.fq_ops.specs.Picks.{Pick, row_of}
use Rattle.fq_ops.specs.Running.{Len, finished, of_kind, outcome}
use Rattle.fq_ops.proofs.AcceptedLemmas.{aggregate-kinds, key-kinds, length-grouped}
use Rattle.fq_ops.proofs.FinishLemmas.{below, found-here, found-past, none, not-below}
use Rattle.fq_ops.proofs.AggregateLemmas.{aggregated-fits, named-fits, running-is}
use Rattle.fq_ops.proofs.ProbeLemmas.{AllIn, AllIn-filter, AllIn-map}
use Rattle.fq_ops.proofs.RefusalLemmas.{map-map}
use Rattle.fq_ops.proofs.RollLemmas.{map-range, missing-none, missing-some}

-- ---- lists by their places

pub AllIn-from : {X : Type 0} (P : X → Type 0) (xs : List X) → All P xs → AllIn P xs
AllIn-from P [] h = tt
AllIn-from P (x ∷ xs) h = (h 0 x (omega arith), AllIn-from P xs (λ k d low. h (suc k) d (omega (arith, low))))

AllIn-at : {X : Type 0} (P : X → Type 0) (xs : List X) → AllIn P xs → (k : ℕ) (d : X) → k < length xs → P (get_or xs k d)
AllIn-at P [] h k d low = absurd (omega (arith, low))
AllIn-at P (x ∷ xs) h zero d low = h.0
AllIn-at P (x ∷ xs) h (suc k) d low = AllIn-at P xs h.1 k d (omega (arith, low))

pub AllIn-seen : {X : Type 0} (P : X → Type 0) (same : X → X → Bool) (xs : List X) → AllIn P xs → AllIn P (first_seen same xs)
AllIn-seen P same [] h = tt
AllIn-seen P same (x ∷ xs) h = (h.0, AllIn-filter P _ (first_seen same xs) (AllIn-seen P same xs h.1))

by-places : {X : Type 0} (xs : List X) (d : X) → xs ≡ map (λ k. get_or xs k d) (numbers (length xs))
by-places xs d = fill_by_all (λ k. get_or xs k d) xs (length xs) d refl (λ k low. refl)

found-by : {X Y : Type 0} (f : ℕ → Option Y) (g : X → Option Y) (xs : List X) (d : X) (a : ℕ) → ((k : ℕ) → k < length xs → f (a + k) ≡ g (get_or xs k d)) → first_found f (range_with_len a (length xs)) ≡ first_found g xs
found-by f g [] d a same = refl
found-by f g (x ∷ xs) d a same = by (g x) refl (found-by f g xs d (a + 1) (λ k low. ap f (let e : a + 1 + k ≡ a + suc k = omega arith in e) ∙ same (suc k) (omega (arith, low))))
  where
    here : f a ≡ g x
    here = ap f (let e : a ≡ a + 0 = omega arith in e) ∙ same 0 (omega arith)

    by : (o : Option _) → g x ≡ o → first_found f (range_with_len (a + 1) (length xs)) ≡ first_found g xs → first_found f (range_with_len a (length (x ∷ xs))) ≡ first_found g (x ∷ xs)
    by None e rest = found-past f a (range_with_len (a + 1) (length xs)) (here ∙ e) ∙ rest ∙ sym (found-past g x xs e)
    by (Some y) e rest = found-here f a (range_with_len (a + 1) (length xs)) y (here ∙ e) ∙ sym (found-here g x xs y e)

-- ---- all values, or the first that is missing

abbrev pub or_null : Option Cell → Cell
or_null o = unwrap_or o Null

some-none : {X : Type 0} (x : X) → Some x ≡ None → ⊥
some-none x e = cc

all-values : (xs : List (Option Cell)) → first_missing xs ≡ None → all_or_missing xs ≡ Ok (map or_null xs)
all-values [] e = refl
all-values (None ∷ xs) e = absurd (some-none 0 (sym (missing-none xs) ∙ e))
all-values (Some c ∷ xs) e = by (first_missing xs) refl (all-values xs)
  where
    by : (o : Option ℕ) → first_missing xs ≡ o → (first_missing xs ≡ None → all_or_missing xs ≡ Ok (map or_null xs)) → all_or_missing (Some c ∷ xs) ≡ Ok (map or_null (Some c ∷ xs))
    by None p rest = ap (result_map_both (λ l. c ∷ l) suc) (rest p)
    by (Some i) p rest = absurd (some-none (suc i) (sym (missing-some c xs ∙ ap (option_map suc) p) ∙ e))

all-missing : (xs : List (Option Cell)) (i : ℕ) → first_missing xs ≡ Some i → all_or_missing xs ≡ Err i
all-missing [] i e = absurd (cc)
all-missing (None ∷ xs) i e = let same : Some 0 ≡ Some i = sym (missing-none xs) ∙ e in let at : 0 ≡ i = cc in ap Err at
all-missing (Some c ∷ xs) i e = by (first_missing xs) refl (all-missing xs)
  where
    by : (o : Option ℕ) → first_missing xs ≡ o → ((j : ℕ) → first_missing xs ≡ Some j → all_or_missing xs ≡ Err j) → all_or_missing (Some c ∷ xs) ≡ Err i
    by None p rest = absurd (some-none i (sym (sym (missing-some c xs ∙ ap (option_map suc) p) ∙ e)))
    by (Some j) p rest =
        let same : Some (suc j) ≡ Some i = sym (missing-some c xs ∙ ap (option_map suc) p) ∙ e in
        let at : suc j ≡ i = cc in
        ap (result_map_both (λ l. c ∷ l) suc) (rest j p) ∙ ap Err at

module _ (fields : Fields) (names : List Name) (outputs : List Output) (rows : List Row) where
  abbrev pub values_of : List Cell → List (Option Cell)
  values_of key = map (λ (o : Output). aggregated fields o.1 (group_of fields names rows key)) outputs

  abbrev pub misfit : List Cell → Option ℕ
  misfit key = first_missing (values_of key)

  abbrev pub row_of_key : List Cell → Row
  row_of_key key = key ++ map or_null (values_of key)

  group-row_fits : (key : List Cell) → misfit key ≡ None → group_row fields names outputs rows key ≡ Ok (row_of_key key)
  group-row_fits key e = ap (result_map_both (λ cells. key ++ cells) (λ i. i)) (all-values (values_of key) e)

  group-row_not : (key : List Cell) (i : ℕ) → misfit key ≡ Some i → group_row fields names outputs rows key ≡ Err i
  group-row_not key i e = ap (result_map_both (λ cells. key ++ cells) (λ i. i)) (all-missing (values_of key) i e)

  all-fit : (keys : List (List Cell)) → first_found misfit keys ≡ None → all_ok (map (group_row fields names outputs rows) keys) ≡ Ok (map row_of_key keys)
  all-fit [] e = refl
  all-fit (k ∷ keys) e = by (misfit k) refl (all-fit keys)
    where
      by : (o : Option ℕ) → misfit k ≡ o → (first_found misfit keys ≡ None → all_ok (map (group_row fields names outputs rows) keys) ≡ Ok (map row_of_key keys)) →
          all_ok (map (group_row fields names outputs rows) (k ∷ keys)) ≡ Ok (map row_of_key (k ∷ keys))
      by None p rest =
          ap (λ r. all_ok (r ∷ map (group_row fields names outputs rows) keys)) (group-row_fits k p)
          ∙ ap (result_map_both (λ l. row_of_key k ∷ l) (λ e. e)) (rest (sym (found-past misfit k keys p) ∙ e))
      by (Some i) p rest = absurd (some-none i (sym (found-here misfit k keys i p) ∙ e))

  one-not : (keys : List (List Cell)) (item : ℕ) → first_found misfit keys ≡ Some item → all_ok (map (group_row fields names outputs rows) keys) ≡ Err item
  one-not [] item e = absurd (cc)
  one-not (k ∷ keys) item e = by (misfit k) refl (one-not keys item)
    where
      by : (o : Option ℕ) → misfit k ≡ o → (first_found misfit keys ≡ Some item → all_ok (map (group_row fields names outputs rows) keys) ≡ Err item) →
          all_ok (map (group_row fields names outputs rows) (k ∷ keys)) ≡ Err item
      by None p rest =
          ap (λ r. all_ok (r ∷ map (group_row fields names outputs rows) keys)) (group-row_fits k p)
          ∙ ap (result_map_both (λ l. row_of_key k ∷ l) (λ e. e)) (rest (sym (found-past misfit k keys p) ∙ e))
      by (Some i) p rest =
          let same : Some i ≡ Some item = sym (found-here misfit k keys i p) ∙ e in
          let at : i ≡ item = cc in
          ap (λ r. all_ok (r ∷ map (group_row fields names outputs rows) keys)) (group-row_not k i p) ∙ ap Err at

  -- ---- the running values by group

  abbrev keys_here : List (List Cell)
  keys_here = keys_of_rows fields names rows

  abbrev kept : List Accumulated
  kept = map (gathered fields names rows) outputs

  module _ (ok : IsOk (group_schema fields names outputs)) where
    value-of : (g : ℕ) → g < length keys_here → (o : Output) (k : Kind) → aggregate_kind fields o.1 ≡ Ok k → value_in g (gathered fields names rows o) ≡ aggregated fields o.1 (group_of fields names rows (get_or keys_here g []))
    value-of g low o k e =
        ap finished (get_or-map (λ key. running_of fields o.1 (group_of fields names rows key)) keys_here g [] (Len 0) low)
        ∙ running-is fields o.1 k e (group_of fields names rows (get_or keys_here g []))

    values-here : (os : List Output) → AllIn (λ (o : Output). (k : Kind) × (aggregate_kind fields o.1 ≡ Ok k)) os → (g : ℕ) → g < length keys_here →
        map (value_in g) (map (gathered fields names rows) os) ≡ map (λ (o : Output). aggregated fields o.1 (group_of fields names rows (get_or keys_here g []))) os
    values-here [] h g low = refl
    values-here (o ∷ os) h g low = λ i. value-of g low o h.0.0 h.0.1 i ∷ values-here os h.1 g low i

    kinds-in : AllIn (λ (o : Output). (k : Kind) × (aggregate_kind fields o.1 ≡ Ok k)) outputs
    kinds-in = AllIn-from (λ (o : Output). (k : Kind) × (aggregate_kind fields o.1 ≡ Ok k)) outputs (aggregate-kinds fields names outputs ok)

    found-same : first_found (out_of_range_in kept) (numbers (length keys_here)) ≡ first_found misfit keys_here
    found-same = found-by (out_of_range_in kept) misfit keys_here [] 0 (λ g low.
        ap (out_of_range_in kept) (let e : 0 + g ≡ g = omega arith in e) ∙ ap first_missing (values-here outputs kinds-in g low))

    pub grouped-not : (item : ℕ) → first_found (out_of_range_in kept) (numbers (length keys_here)) ≡ Some item → grouped fields names outputs rows ≡ Err item
    grouped-not item e = one-not keys_here item (sym found-same ∙ e)

    pub grouped-fits : first_found (out_of_range_in kept) (numbers (length keys_here)) ≡ None → grouped fields names outputs rows ≡ Ok (map row_of_key keys_here)
    grouped-fits e = all-fit keys_here (sym found-same ∙ e)

-- ---- the rows of the groups' columns

of_kind-same : (k : Kind) (c : Cell) → has_kind k c ≡ true → of_kind k c ≡ c
of_kind-same k c e = ap (λ b. if b then c else Null) e

module _ (fields : Fields) (names : List Name) (outputs : List Output) (rows : List Row) (ok : IsOk (group_schema fields names outputs)) (fit : AllIn (λ row. row_fits fields row ≡ true) rows) where
  abbrev here : List (List Cell)
  here = keys_of_rows fields names rows

  abbrev accs : List Accumulated
  accs = map (gathered fields names rows) outputs

  abbrev kinds : List Kind
  kinds = kinds_of (grouped_fields fields names outputs)

  abbrev key_judged : Name → Judged
  key_judged n = (n, kind_named fields n)

  abbrev output_judged : Output → Judged
  output_judged o = (o.0, aggregate_kind fields o.1)

  abbrev kind_of : Judged → Kind
  kind_of p = result_unwrap_or p.1 Whole

  abbrev no_name : Judged
  no_name = ([], Ok Whole)

  abbrev no_output : Output
  no_output = ([], len)

  kinds-are : kinds ≡ map kind_of (grouped_kinds fields names outputs)
  kinds-are = map-map (λ (f : Field). f.1) (λ (p : Judged). let f : Field = (p.0, kind_of p) in f) (grouped_kinds fields names outputs)

  length-kinds : length kinds ≡ length names + length outputs
  length-kinds = length-map (grouped_fields fields names outputs) (λ (f : Field). f.1) ∙ length-grouped fields names outputs

  width : length (grouped_kinds fields names outputs) ≡ length names + length outputs
  width = length-append (map key_judged names) (map output_judged outputs) ∙ (λ i. length-map names key_judged i + length-map outputs output_judged i)

  kind-at : (i : ℕ) → i < length names + length outputs → get_or kinds i Whole ≡ kind_of (get_or (grouped_kinds fields names outputs) i no_name)
  kind-at i low = ap (λ ks. get_or ks i Whole) kinds-are ∙ get_or-map kind_of (grouped_kinds fields names outputs) i no_name Whole (omega (arith, low, width))

  key-kind : (i : ℕ) → i < length names → (k : Kind) → kind_named fields (get_or names i []) ≡ Ok k → get_or kinds i Whole ≡ k
  key-kind i low k e =
      kind-at i (omega (arith, low))
      ∙ ap kind_of (get_or-append (map key_judged names) (map output_judged outputs) no_name i (omega (arith, low, length-map names key_judged)) ∙ get_or-map key_judged names i [] no_name low)
      ∙ ap (λ r. result_unwrap_or r Whole) e

  output-kind : (i j : ℕ) → i ≡ length names + j → j < length outputs → (k : Kind) → aggregate_kind fields (get_or outputs j no_output).1 ≡ Ok k → get_or kinds i Whole ≡ k
  output-kind i j at low k e =
      let past : i - length (map key_judged names) ≡ j = omega (arith, at, length-map names key_judged) in
      kind-at i (omega (arith, at, low))
      ∙ ap kind_of (get_or-append_right (map key_judged names) (map output_judged outputs) i no_name (omega (arith, at, length-map names key_judged))
      ∙ ap (λ m. get_or (map output_judged outputs) m no_name) past ∙ get_or-map output_judged outputs j no_output no_name low)
      ∙ ap (λ r. result_unwrap_or r Whole) e

  -- each key is that of a row that fits
  abbrev IsKey : List Cell → Type 0
  IsKey key = (row : Row) × (row_fits fields row ≡ true) × (key ≡ key_of fields names row)

  keys-are : AllIn IsKey here
  keys-are = AllIn-seen IsKey same_key (map (key_of fields names) rows) (AllIn-map IsKey (λ row. row_fits fields row ≡ true) (key_of fields names) (λ row h. (row, h, refl)) rows fit)

  module _ (g : ℕ) (low : g < length here) where
    abbrev key : List Cell
    key = get_or here g []

    abbrev row : Row
    row = row_of_key fields names outputs rows key

    is_key : IsKey key
    is_key = AllIn-at IsKey here keys-are g [] low

    length-key : length key ≡ length names
    length-key = ap length is_key.2 ∙ length-map names (λ n. value_named fields n is_key.0)

    abbrev cells : List Cell
    cells = map or_null (values_of fields names outputs rows key)

    length-cells : length cells ≡ length outputs
    length-cells = length-map (values_of fields names outputs rows key) or_null ∙ length-map outputs (λ (o : Output). aggregated fields o.1 (group_of fields names rows key))

    part-key : (i : ℕ) → i < length names → (group_pick (length names) here accs kinds i).1 g ≡ get_or row i Null
    part-key i within =
        let n = get_or names i [] in
        let known = key-kinds fields names outputs ok i [] within in
        let value : value_at i key ≡ value_named fields n is_key.0 = ap (λ k. get_or k i Null) is_key.2 ∙ get_or-map (λ m. value_named fields m is_key.0) names i [] Null within in
        let fits : has_kind (get_or kinds i Whole) (value_at i key) ≡ true = (λ j. has_kind (key-kind i within known.0 known.1 j) (value j)) ∙ named-fits fields n known.0 known.1 is_key.0 is_key.1 in
        ap (λ b. of_kind (get_or kinds i Whole) (if b then value_at i key else outcome (get_or (get_or accs (i - length names) none).states g (Len 0)))) (below i (length names) within)
        ∙ of_kind-same (get_or kinds i Whole) (value_at i key) fits
        ∙ sym (get_or-append key cells Null i (omega (arith, within, length-key)))

    part-value : (i j : ℕ) → i ≡ length names + j → j < length outputs → (group_pick (length names) here accs kinds i).1 g ≡ get_or row i Null
    part-value i j at within =
        let o = get_or outputs j no_output in
        let known = aggregate-kinds fields names outputs ok j no_output within in
        let own = group_of fields names rows key in
        let past : i - length names ≡ j = omega (arith, at) in
        let state : get_or (get_or accs (i - length names) none).states g (Len 0) ≡ running_of fields o.1 own =
        ap (λ m. get_or (get_or accs m none).states g (Len 0)) past
        ∙ ap (λ (a : Accumulated). get_or a.states g (Len 0)) (get_or-map (gathered fields names rows) outputs j no_output none within)
        ∙ get_or-map (λ k. running_of fields o.1 (group_of fields names rows k)) here g [] (Len 0) low in
        let value : outcome (get_or (get_or accs (i - length names) none).states g (Len 0)) ≡ or_null (aggregated fields o.1 own) = ap outcome state ∙ ap or_null (running-is fields o.1 known.0 known.1 own) in
        let inside = AllIn-filter (λ r. row_fits fields r ≡ true) _ rows fit in
        let fits : has_kind (get_or kinds i Whole) (or_null (aggregated fields o.1 own)) ≡ true = ap (λ k. has_kind k (or_null (aggregated fields o.1 own))) (output-kind i j at within known.0 known.1) ∙ aggregated-fits fields own inside o.1 known.0 known.1 in
        let past_key : i - length key ≡ j = omega (arith, at, length-key) in
        ap (λ b. of_kind (get_or kinds i Whole) (if b then value_at i key else outcome (get_or (get_or accs (i - length names) none).states g (Len 0)))) (not-below i (length names) (omega (arith, at)))
        ∙ ap (of_kind (get_or kinds i Whole)) value
        ∙ of_kind-same (get_or kinds i Whole) (or_null (aggregated fields o.1 own)) fits
        ∙ sym (get_or-append_right key cells i Null (omega (arith, at, length-key))
        ∙ ap (λ m. get_or cells m Null) past_key
        ∙ get_or-map or_null (values_of fields names outputs rows key) j None Null (omega (arith, within, length-map outputs (λ (q : Output). aggregated fields q.1 own)))
        ∙ ap or_null (get_or-map (λ (q : Output). aggregated fields q.1 own) outputs j no_output None within))

    part : (i : ℕ) → i < length kinds → (group_pick (length names) here accs kinds i).1 g ≡ get_or row i Null
    part i within = elim (cases_lt i (length names)) [
      | inl l ↦ part-key i l
      | inr h ↦ part-value i (i - length names) (omega (arith, h)) (omega (arith, h, within, length-kinds))
    ]

    row-same : row_of (group_picks (length names) here accs kinds (length kinds)) g ≡ row
    row-same =
        let size : length row ≡ length kinds = length-append key cells ∙ omega (arith, length-key, length-cells, length-kinds) in
        map-map (λ (p : Pick ℕ). p.1 g) (group_pick (length names) here accs kinds) (numbers (length kinds))
        ∙ map-range (λ i. (group_pick (length names) here accs kinds i).1 g) (λ i. get_or row i Null) 0 (length kinds) (λ i b. part i (omega (arith, b)))
        ∙ sym (fill_by_all (λ i. get_or row i Null) row (length kinds) Null size (λ k b. refl))

  pub rows-same : map (row_of (group_picks (length names) here accs kinds (length kinds))) (numbers (length here)) ≡ map (row_of_key fields names outputs rows) here
  rows-same =
      map-range (row_of (group_picks (length names) here accs kinds (length kinds))) (λ g. row_of_key fields names outputs rows (get_or here g [])) 0 (length here) (λ g b. row-same g (omega (arith, b)))
      ∙ sym (map-map (row_of_key fields names outputs rows) (λ g. get_or here g []) (numbers (length here)))
      ∙ ap (map (row_of_key fields names outputs rows)) (sym (by-places here []))

-- ---- what a grouper that has taken rows gives

module _ (g : Grouped) (names : List Name) (outputs : List Output) (rows : List Row) (h : HasTakenRows g names outputs rows) where
  pub taken-not : (item : ℕ) → first_found (out_of_range_in g.accumulators) (numbers (length g.seen)) ≡ Some item → grouped g.fields names outputs rows ≡ Err item
  taken-not item e = grouped-not g.fields names outputs rows h.accepted item (sym (λ i. first_found (out_of_range_in (h.accumulators i)) (numbers (length (h.seen i)))) ∙ e)

  abbrev own_picks : Fields → List (List Cell) → List Accumulated → ℕ → ℕ → List Row
  own_picks output seen accumulators places n = map (row_of (group_picks places seen accumulators (kinds_of output) n)) (numbers (length seen))

  pub taken-fits : first_found (out_of_range_in g.accumulators) (numbers (length g.seen)) ≡ None →
      grouped g.fields names outputs rows ≡ Ok (own_picks g.output g.seen g.accumulators (length g.output - length g.accumulators) (length g.output))
  taken-fits e =
      let fields = g.fields in
      let sizes : length g.output ≡ length names + length outputs = ap length h.output ∙ length-grouped fields names outputs in
      let count : length g.accumulators ≡ length outputs = ap length h.accumulators ∙ length-map outputs (gathered fields names rows) in
      let places : length g.output - length g.accumulators ≡ length names = omega (arith, sizes, count) in
      let all : length g.output ≡ length (kinds_of (grouped_fields fields names outputs)) = ap length h.output ∙ sym (length-map (grouped_fields fields names outputs) (λ (f : Field). f.1)) in
      grouped-fits fields names outputs rows h.accepted (sym (λ i. first_found (out_of_range_in (h.accumulators i)) (numbers (length (h.seen i)))) ∙ e)
      ∙ ap Ok (sym ((λ i. own_picks (h.output i) (h.seen i) (h.accumulators i) (places i) (all i))
      ∙ rows-same fields names outputs rows h.accepted (AllIn-from (λ row. row_fits fields row ≡ true) rows h.fit)))

-- ---- the kinds of the columns

pub picks-kinds : (places : ℕ) (seen : List (List Cell)) (accumulators : List Accumulated) (fields : Fields) → kinds_of fields ≡ map (λ (p : Pick ℕ). p.0) (group_picks places seen accumulators (kinds_of fields) (length fields))
picks-kinds places seen accumulators fields =
    by-places (kinds_of fields) Whole
    ∙ ap (λ n. map (λ i. get_or (kinds_of fields) i Whole) (numbers n)) (length-map fields (λ (f : Field). f.1))
    ∙ sym (map-map (λ (p : Pick ℕ). p.0) (group_pick places seen accumulators (kinds_of fields)) (numbers (length fields)))

pub picks-count : (places : ℕ) (seen : List (List Cell)) (accumulators : List Accumulated) (fields : Fields) → length (group_picks places seen accumulators (kinds_of fields) (length fields)) ≡ length fields
picks-count places seen accumulators fields = length-map (numbers (length fields)) (group_pick places seen accumulators (kinds_of fields)) ∙ length-range_with_len 0 (length fields)
