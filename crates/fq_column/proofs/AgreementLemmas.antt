-- Rows that agree in some columns, with cells put under names, and what steps that go row by row make of streams of them.
use Rattle.std.proofs.Common.{◌≡◌, ℕ, suc, Bool, true, false, cond, not, ◌&&◌, ◌||◌, List, [], ◌∷◌, ◌++◌, length, map, filter, Option, Some, None, Result, Ok, Err, refl, ap, sym, ◌∙◌, subst, arith}
use Rattle.std.specs.Prelude.{option_map}
use Rattle.std.specs.List.{list_any, zip}
use Rattle.std.specs.Option.{option_map_or}
use Rattle.std.specs.Cmp.{first_so, second_so}
use Rattle.std.specs.Cmp.Lexicographic.{bytes_decides, nat_list_eq_equiv}
use Rattle.std.proofs.lemmas.Bool.{and_from}
use Rattle.std.proofs.lemmas.List.{length-map}
use Rattle.fq_column.specs.declared.cells.Cell.{Cell}
use Rattle.fq_column.specs.declared.cells.Cell.TheVariants.{Null}
use Rattle.fq_column.specs.declared.cells.Kind.{Kind}
use Rattle.fq_column.specs.Agreement.{marked, AgreeOn, AllAgreeOn, StreamsAgreeOn}
use Rattle.fq_column.specs.Frame.{Field, Fields, Name, Row, has_name, names_of, position_of, put_all, put_named, same_name, value_at, value_named}
use Rattle.fq_column.specs.Lists.{is_distinct}
use Rattle.fq_column.specs.Schema.{fields_of}
use Rattle.fq_column.specs.Stream.{Stream, done, ended_as, faulted, one_by_one, rename_fault, step_on, then_stream}
use Rattle.fq_column.proofs.PutColumnLemmas.{values-zip}
use Rattle.fq_column.proofs.PutLemmas.{is_distinct-put_named, position-cons}

-- ---- names among others

or-left : (a b : Bool) → a ≡ true → (a || b) ≡ true
or-left true b e = refl
or-left false b e = absurd (cc)

or-right : (a b : Bool) → b ≡ true → (a || b) ≡ true
or-right true b e = refl
or-right false b e = e

pub has_name-self : (n : Name) (names : List Name) → has_name (n ∷ names) n ≡ true
has_name-self n names = or-left (same_name n n) (has_name names n) ((bytes_decides n n).1 refl)

pub has_name-left : (xs ys : List Name) (n : Name) → has_name xs n ≡ true → has_name (xs ++ ys) n ≡ true
has_name-left [] ys n e = absurd (cc)
has_name-left (x ∷ xs) ys n e = go (same_name n x) (has_name xs n) (has_name (xs ++ ys) n) (λ f. has_name-left xs ys n f) e
  where
    go : (a b c : Bool) → (b ≡ true → c ≡ true) → (a || b) ≡ true → (a || c) ≡ true
    go true b c h e = refl
    go false b c h e = h e

pub has_name-right : (xs ys : List Name) (n : Name) → has_name ys n ≡ true → has_name (xs ++ ys) n ≡ true
has_name-right [] ys n e = e
has_name-right (x ∷ xs) ys n e = or-right (same_name n x) (has_name (xs ++ ys) n) (has_name-right xs ys n e)

-- a name that passes is among those that pass
pub has_name-filter : (p : Name → Bool) (names : List Name) (n : Name) → has_name names n ≡ true → p n ≡ true → has_name (filter p names) n ≡ true
has_name-filter p [] n e h = absurd (cc)
has_name-filter p (m ∷ names) n e h = go (same_name n m) refl (p m) refl (λ f. has_name-filter p names n f h) e
  where
    go : (b : Bool) → same_name n m ≡ b → (c : Bool) → p m ≡ c → (has_name names n ≡ true → has_name (filter p names) n ≡ true) → (b || has_name names n) ≡ true →
        has_name (cond c (m ∷ filter p names) (filter p names)) n ≡ true
    go true s true q rest f = or-left (same_name n m) (has_name (filter p names) n) s
    go true s false q rest f = absurd (let k : p n ≡ false = ap p ((bytes_decides n m).0 s) ∙ q in cc)
    go false s true q rest f = or-right (same_name n m) (has_name (filter p names) n) (rest f)
    go false s false q rest f = rest f

-- ---- rows

-- a row agrees with itself in any columns
pub agree-same : (marks : List Bool) (row : Row) → length row ≡ length marks → AgreeOn marks row row
agree-same [] [] e = tt
agree-same [] (c ∷ row) e = absurd (omega (arith, e))
agree-same (mark ∷ marks) [] e = absurd (omega (arith, e))
agree-same (mark ∷ marks) (c ∷ row) e = (λ m. refl, agree-same marks row (omega (arith, e)))

pub agree-width : (marks : List Bool) (row other : Row) → AgreeOn marks row other → (length row ≡ length marks) × (length other ≡ length marks)
agree-width [] [] [] h = (refl, refl)
agree-width [] [] (d ∷ other) h = absurd h
agree-width [] (c ∷ row) other h = absurd h
agree-width (mark ∷ marks) [] other h = absurd h
agree-width (mark ∷ marks) (c ∷ row) [] h = absurd h
agree-width (mark ∷ marks) (c ∷ row) (d ∷ other) h = let w = agree-width marks row other h.1 in (ap suc w.0, ap suc w.1)

-- they agree in fewer columns too
pub agree-fewer : (wanted fewer : Name → Bool) (names : List Name) → ((n : Name) → fewer n ≡ true → wanted n ≡ true) → (row other : Row) → AgreeOn (map wanted names) row other → AgreeOn (map fewer names) row other
agree-fewer wanted fewer [] le [] [] h = tt
agree-fewer wanted fewer [] le [] (d ∷ other) h = absurd h
agree-fewer wanted fewer [] le (c ∷ row) other h = absurd h
agree-fewer wanted fewer (n ∷ names) le [] other h = absurd h
agree-fewer wanted fewer (n ∷ names) le (c ∷ row) [] h = absurd h
agree-fewer wanted fewer (n ∷ names) le (c ∷ row) (d ∷ other) h = (λ m. h.0 (le n m), agree-fewer wanted fewer names le row other h.1)

-- rows that agree in all columns are equal
pub agree-all : (wanted : Name → Bool) (names : List Name) → ((n : Name) → has_name names n ≡ true → wanted n ≡ true) → (row other : Row) → AgreeOn (map wanted names) row other → row ≡ other
agree-all wanted [] all [] [] h = refl
agree-all wanted [] all [] (d ∷ other) h = absurd h
agree-all wanted [] all (c ∷ row) other h = absurd h
agree-all wanted (n ∷ names) all [] other h = absurd h
agree-all wanted (n ∷ names) all (c ∷ row) [] h = absurd h
agree-all wanted (n ∷ names) all (c ∷ row) (d ∷ other) h =
    λ i. h.0 (all n (ap (λ b. b || has_name names n) ((bytes_decides n n).1 refl))) i ∷ agree-all wanted names (λ m e. all m (later (same_name m n) (has_name names m) e)) row other h.1 i
  where
    later : (a b : Bool) → b ≡ true → (a || b) ≡ true
    later true b e = refl
    later false b e = e

-- the value under a name, by the first column
pub value_named-cons : (f : Field) (fields : Fields) (n : Name) (c : Cell) (row : Row) → value_named (f ∷ fields) n (c ∷ row) ≡ cond (same_name n f.0) c (value_named fields n row)
value_named-cons f fields n c row =
    ap (λ o. option_map_or (λ i. value_at i (c ∷ row)) o Null) (position-cons (same_name n) f.0 (names_of fields))
    ∙ go (same_name n f.0) (position_of n (names_of fields))
  where
    go : (b : Bool) (o : Option ℕ) → option_map_or (λ i. value_at i (c ∷ row)) (cond b (Some 0) (option_map suc o)) Null ≡ cond b c (option_map_or (λ i. value_at i row) o Null)
    go true o = refl
    go false None = refl
    go false (Some i) = refl

-- rows that agree in the columns of names have the same value under each of them
pub value_named-agree : (names : List Name) (fields : Fields) (n : Name) → has_name names n ≡ true → (row other : Row) → AgreeOn (marked names fields) row other → value_named fields n row ≡ value_named fields n other
value_named-agree names [] n e [] [] h = refl
value_named-agree names [] n e [] (d ∷ other) h = absurd h
value_named-agree names [] n e (c ∷ row) other h = absurd h
value_named-agree names (f ∷ fields) n e [] other h = absurd h
value_named-agree names (f ∷ fields) n e (c ∷ row) [] h = absurd h
value_named-agree names (f ∷ fields) n e (c ∷ row) (d ∷ other) h =
    value_named-cons f fields n c row ∙ go (same_name n f.0) refl (value_named-agree names fields n e row other h.1) ∙ sym (value_named-cons f fields n d other)
  where
    go : (b : Bool) → same_name n f.0 ≡ b → value_named fields n row ≡ value_named fields n other → cond b c (value_named fields n row) ≡ cond b d (value_named fields n other)
    go true s rest = h.0 (sym (ap (has_name names) ((bytes_decides n f.0).0 s)) ∙ e)
    go false s rest = rest

-- ---- cells that are put under names

-- the row with a cell under a name: in its place, or else last
put_cell : Fields → Name → Cell → Row → Row
put_cell [] n c row = row ++ c ∷ []
put_cell (f ∷ fields) n c [] = []
put_cell (f ∷ fields) n c (d ∷ row) = cond (same_name n f.0) (c ∷ row) (d ∷ put_cell fields n c row)

put_cell-is : (fields : Fields) (n : Name) (k : Kind) (c : Cell) (row : Row) → length row ≡ length fields →
    put_named (zip (names_of fields) row) (n, c) ≡ zip (names_of (put_named fields (n, k))) (put_cell fields n c row)
unfolding put_cell
put_cell-is [] n k c [] e = refl
put_cell-is [] n k c (d ∷ row) e = absurd (omega (arith, e))
put_cell-is (f ∷ fields) n k c [] e = absurd (omega (arith, e))
put_cell-is (f ∷ fields) n k c (d ∷ row) e = go (same_name n f.0) (put_cell-is fields n k c row (omega (arith, e)))
  where
    go : (b : Bool) → put_named (zip (names_of fields) row) (n, c) ≡ zip (names_of (put_named fields (n, k))) (put_cell fields n c row) →
        cond b ((n, c) ∷ zip (names_of fields) row) ((f.0, d) ∷ put_named (zip (names_of fields) row) (n, c))
        ≡ zip (names_of (cond b ((n, k) ∷ fields) (f ∷ put_named fields (n, k)))) (cond b (c ∷ row) (d ∷ put_cell fields n c row))
    go true h = refl
    go false h = ap (λ ps. (f.0, d) ∷ ps) h

neither : (a b : Bool) → not (a || b) ≡ true → (a ≡ false) × (not b ≡ true)
neither true b e = absurd (cc)
neither false b e = (refl, e)

-- rows that agree in wanted columns, of which none has this name
apart-agree : (wanted fewer : Name → Bool) (n : Name) → ((m : Name) → fewer m ≡ true → same_name n m ≡ false → wanted m ≡ true) → (names : List Name) → not (list_any (same_name n) names) ≡ true →
    (row other : Row) → AgreeOn (map wanted names) row other → AgreeOn (map fewer names) row other
apart-agree wanted fewer n le [] d [] [] h = tt
apart-agree wanted fewer n le [] d [] (y ∷ other) h = absurd h
apart-agree wanted fewer n le [] d (x ∷ row) other h = absurd h
apart-agree wanted fewer n le (m ∷ names) d [] other h = absurd h
apart-agree wanted fewer n le (m ∷ names) d (x ∷ row) [] h = absurd h
apart-agree wanted fewer n le (m ∷ names) d (x ∷ row) (y ∷ other) h =
    let p = neither (same_name n m) (list_any (same_name n) names) d in
    (λ k. h.0 (le m k p.0), apart-agree wanted fewer n le names p.1 row other h.1)

-- rows that agree in the columns wanted but for that of the name agree with the same cell under the name
put_cell-agree : (wanted fewer : Name → Bool) (n : Name) (k : Kind) (c : Cell) → ((m : Name) → fewer m ≡ true → same_name n m ≡ false → wanted m ≡ true) →
    (fields : Fields) → is_distinct same_name (names_of fields) ≡ true → (row other : Row) → AgreeOn (map wanted (names_of fields)) row other →
    AgreeOn (map fewer (names_of (put_named fields (n, k)))) (put_cell fields n c row) (put_cell fields n c other)
unfolding put_cell
put_cell-agree wanted fewer n k c le [] d [] [] h = (λ m. refl, tt)
put_cell-agree wanted fewer n k c le [] d [] (y ∷ other) h = absurd h
put_cell-agree wanted fewer n k c le [] d (x ∷ row) other h = absurd h
put_cell-agree wanted fewer n k c le (f ∷ fields) d [] other h = absurd h
put_cell-agree wanted fewer n k c le (f ∷ fields) d (x ∷ row) [] h = absurd h
put_cell-agree wanted fewer n k c le (f ∷ fields) d (x ∷ row) (y ∷ other) h =
    go (same_name n f.0) refl (put_cell-agree wanted fewer n k c le fields apart.1 row other h.1)
  where
    apart : (not (list_any (same_name f.0) (names_of fields)) ≡ true) × (is_distinct same_name (names_of fields) ≡ true)
    apart = (first_so (not (list_any (same_name f.0) (names_of fields))) (is_distinct same_name (names_of fields)) d, second_so (not (list_any (same_name f.0) (names_of fields))) (is_distinct same_name (names_of fields)) d)

    go : (b : Bool) → same_name n f.0 ≡ b → AgreeOn (map fewer (names_of (put_named fields (n, k)))) (put_cell fields n c row) (put_cell fields n c other) →
        AgreeOn (map fewer (names_of (cond b ((n, k) ∷ fields) (f ∷ put_named fields (n, k))))) (cond b (c ∷ row) (x ∷ put_cell fields n c row)) (cond b (c ∷ other) (y ∷ put_cell fields n c other))
    go true e rest = (λ m. refl, apart-agree wanted fewer n le (names_of fields) (ap (λ a. not (list_any (same_name a) (names_of fields))) ((bytes_decides n f.0).0 e) ∙ apart.0) row other h.1)
    go false e rest = (λ m. h.0 (le f.0 m e), rest)

false-or : (a b : Bool) → a ≡ false → b ≡ false → (a || b) ≡ false
false-or true b e f = absurd (cc)
false-or false b e f = f

unmarked : (b : Bool) → not b ≡ true → b ≡ false
unmarked true e = absurd (cc)
unmarked false e = refl

-- the same with the cells of several names
pub put_all-agree : (needed outs : List Name) (kinds : List Kind) (cells : List Cell) → length kinds ≡ length outs → length cells ≡ length outs →
    (wanted : Name → Bool) → ((m : Name) → has_name needed m ≡ true → has_name outs m ≡ false → wanted m ≡ true) →
    (fields : Fields) → is_distinct same_name (names_of fields) ≡ true → (row other : Row) → AgreeOn (map wanted (names_of fields)) row other →
    AgreeOn (marked needed (put_all fields (fields_of outs kinds))) (map (λ p. p.1) (put_all (zip (names_of fields) row) (zip outs cells))) (map (λ p. p.1) (put_all (zip (names_of fields) other) (zip outs cells)))
put_all-agree needed [] kinds cells s t wanted le fields d row other h =
    let names = names_of fields in
    let width = agree-width (map wanted names) row other h in
    let long : length (map wanted names) ≡ length names = length-map names wanted in
    let kept = agree-fewer wanted (has_name needed) names (λ m k. le m k refl) row other h in
    subst (λ (a : Row). AgreeOn (marked needed fields) a (map (λ p. p.1) (zip names other))) (sym (values-zip names row (sym (width.0 ∙ long))))
    (subst (λ (b : Row). AgreeOn (marked needed fields) row b) (sym (values-zip names other (sym (width.1 ∙ long)))) kept)
put_all-agree needed (n ∷ outs) [] cells s t wanted le fields d row other h = absurd (omega (arith, s))
put_all-agree needed (n ∷ outs) (k ∷ kinds) [] s t wanted le fields d row other h = absurd (omega (arith, t))
put_all-agree needed (n ∷ outs) (k ∷ kinds) (c ∷ cells) s t wanted le fields d row other h =
    let names = names_of fields in
    let width = agree-width (map wanted names) row other h in
    let long : length (map wanted names) ≡ length fields = length-map names wanted ∙ length-map fields (λ f. f.0) in
    let later : Name → Bool = λ m. has_name needed m && not (has_name outs m) in
    let first = put_cell-agree wanted later n k c
    (λ m q r. le m (first_so (has_name needed m) (not (has_name outs m)) q)
    (false-or (same_name m n) (has_name outs m) (nat_list_eq_equiv.symm m n ∙ r) (unmarked (has_name outs m) (second_so (has_name needed m) (not (has_name outs m)) q))))
    fields d row other h in
    let rest = put_all-agree needed outs kinds cells (omega (arith, s)) (omega (arith, t)) later (λ m q r. and_from (has_name needed m) (not (has_name outs m)) q (ap not r))
    (put_named fields (n, k)) (is_distinct-put_named fields (n, k) d) (put_cell fields n c row) (put_cell fields n c other) first in
    let marks = marked needed (put_all (put_named fields (n, k)) (fields_of outs kinds)) in
    let over : List (Name × Cell) → Row = λ ps. map (λ p. p.1) (put_all ps (zip outs cells)) in
    subst (λ (ps : List (Name × Cell)). AgreeOn marks (over ps) (over (put_named (zip names other) (n, c)))) (sym (put_cell-is fields n k c row (width.0 ∙ long)))
    (subst (λ (ps : List (Name × Cell)). AgreeOn marks (over (zip (names_of (put_named fields (n, k))) (put_cell fields n c row))) (over ps)) (sym (put_cell-is fields n k c other (width.1 ∙ long))) rest)

-- ---- lists of rows

pub all-agree-append : (marks : List Bool) (xs xs' ys ys' : List Row) → AllAgreeOn marks xs xs' → AllAgreeOn marks ys ys' → AllAgreeOn marks (xs ++ ys) (xs' ++ ys')
all-agree-append marks [] [] ys ys' h g = g
all-agree-append marks [] (x ∷ xs') ys ys' h g = absurd h
all-agree-append marks (x ∷ xs) [] ys ys' h g = absurd h
all-agree-append marks (x ∷ xs) (x' ∷ xs') ys ys' h g = (h.0, all-agree-append marks xs xs' ys ys' h.1 g)

pub all-agree-count : (marks : List Bool) (xs ys : List Row) → AllAgreeOn marks xs ys → length xs ≡ length ys
all-agree-count marks [] [] h = refl
all-agree-count marks [] (y ∷ ys) h = absurd h
all-agree-count marks (x ∷ xs) [] h = absurd h
all-agree-count marks (x ∷ xs) (y ∷ ys) h = ap suc (all-agree-count marks xs ys h.1)

-- what depends only on the columns in which they agree is the same
pub all-agree-map : {X : Type 0} (marks : List Bool) (f : Row → X) → ((row other : Row) → AgreeOn marks row other → f row ≡ f other) → (rows others : List Row) → AllAgreeOn marks rows others → map f rows ≡ map f others
all-agree-map marks f same [] [] h = refl
all-agree-map marks f same [] (other ∷ others) h = absurd h
all-agree-map marks f same (row ∷ rows) [] h = absurd h
all-agree-map marks f same (row ∷ rows) (other ∷ others) h = λ i. same row other h.0 i ∷ all-agree-map marks f same rows others h.1 i

pub all-agree-equal : (marks : List Bool) → ((row other : Row) → AgreeOn marks row other → row ≡ other) → (rows others : List Row) → AllAgreeOn marks rows others → rows ≡ others
all-agree-equal marks same [] [] h = refl
all-agree-equal marks same [] (other ∷ others) h = absurd h
all-agree-equal marks same (row ∷ rows) [] h = absurd h
all-agree-equal marks same (row ∷ rows) (other ∷ others) h = λ i. same row other h.0 i ∷ all-agree-equal marks same rows others h.1 i

-- ---- streams

module _ {F : Type 0} where
  pub streams-equal : (marks : List Bool) → ((row other : Row) → AgreeOn marks row other → row ≡ other) → (u v : Stream F) → StreamsAgreeOn marks u v → u ≡ v
  streams-equal marks same u v h = let rows = all-agree-equal marks same u.rows v.rows h.rows in λ i. record { rows = rows i; fault = h.fault i }

  ended-agree : (marks : List Bool) (end : Option F) (rs ss : List Row) (e f : Option F) → AllAgreeOn marks rs ss → e ≡ f →
      StreamsAgreeOn marks (ended_as end (record { rows = rs; fault = e })) (ended_as end (record { rows = ss; fault = f }))
  ended-agree marks end rs ss None None h p = record { rows = all-agree-append marks rs ss [] [] h tt; fault = refl }
  ended-agree marks end rs ss None (Some f) h p = absurd (cc)
  ended-agree marks end rs ss (Some e) None h p = absurd (cc)
  ended-agree marks end rs ss (Some e) (Some f) h p = record { rows = h; fault = p }

module _ {F G : Type 0} where
  -- a step that takes rows that agree to such rows takes streams that agree to such streams
  pub step_on-agree : (marks after : List Bool) (step : List Row → Stream G) (name : G → F) →
      ((rows others : List Row) → AllAgreeOn marks rows others → StreamsAgreeOn after (step rows) (step others)) →
      (u v : Stream F) → StreamsAgreeOn marks u v → StreamsAgreeOn after (step_on step name u) (step_on step name v)
  step_on-agree marks after step name alike u v h =
      let made = alike u.rows v.rows h.rows in
      subst (λ (end : Option F). StreamsAgreeOn after (step_on step name u) (ended_as end (rename_fault name (step v.rows)))) h.fault
      (ended-agree after u.fault (step u.rows).rows (step v.rows).rows (option_map name (step u.rows).fault) (option_map name (step v.rows).fault) made.rows (ap (option_map name) made.fault))

-- rows that agree, or the same fault
abbrev pub GiveAlike : {F : Type 0} → List Bool → Result (List Row) F → Result (List Row) F → Type 0
GiveAlike marks (Ok rows) (Ok others) = AllAgreeOn marks rows others
GiveAlike marks (Ok rows) (Err f) = ⊥
GiveAlike marks (Err e) (Ok others) = ⊥
GiveAlike marks (Err e) (Err f) = e ≡ f

module _ {F : Type 0} where
  pub after-one : (marks : List Bool) (a b : Result (List Row) F) → GiveAlike marks a b → (u v : Stream F) → StreamsAgreeOn marks u v →
      StreamsAgreeOn marks (elim a [ Ok rows ↦ then_stream (done rows) u | Err f ↦ faulted f ]) (elim b [ Ok rows ↦ then_stream (done rows) v | Err f ↦ faulted f ])
  after-one marks (Ok rows) (Ok others) h u v k = record { rows = all-agree-append marks rows others u.rows v.rows h k.rows; fault = k.fault }
  after-one marks (Ok rows) (Err f) h u v k = absurd h
  after-one marks (Err e) (Ok others) h u v k = absurd h
  after-one marks (Err e) (Err f) h u v k = record { rows = tt; fault = ap Some h }

  pub one_by_one-agree : (marks after : List Bool) (step : Row → Result (List Row) F) → ((row other : Row) → AgreeOn marks row other → GiveAlike after (step row) (step other)) →
      (rows others : List Row) → AllAgreeOn marks rows others → StreamsAgreeOn after (one_by_one step rows) (one_by_one step others)
  one_by_one-agree marks after step alike [] [] h = record { rows = tt; fault = refl }
  one_by_one-agree marks after step alike [] (other ∷ others) h = absurd h
  one_by_one-agree marks after step alike (row ∷ rows) [] h = absurd h
  one_by_one-agree marks after step alike (row ∷ rows) (other ∷ others) h =
      after-one after (step row) (step other) (alike row other h.0) (one_by_one step rows) (one_by_one step others) (one_by_one-agree marks after step alike rows others h.1)
