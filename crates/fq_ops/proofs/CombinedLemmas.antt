-- The values of a function over parts of cells, combined, are its value over all of them.
use Rattle.std.proofs.Common.{◌≡◌, ℕ, suc, ◌+◌, ◌-◌, ◌^◌, ◌<◌, ◌≤◌, ◌⊎◌, inl, inr, Bool, true, false, not, cond, filter, List, [], ◌∷◌, ◌++◌, fold, length, ℤ, pos, ◌+ℤ◌, Option, Some, None, refl, sym, ap, subst, ◌∙◌, true≢false, if◌then◌else◌, arith, rules}
use Rattle.std.specs.Prelude.{slice_index_or}
use Rattle.std.specs.Ordering.{is_lt, is_gt, ordering_reverse}
use Rattle.std.specs.declared.cmp.Ordering.{Ordering}
use Rattle.std.specs.declared.cmp.Ordering.TheVariants.{Less, Equal, Greater}
use Rattle.std.specs.Cmp.{IsTotalOrder}
use Rattle.std.specs.List.{flat_map}
use Rattle.std.proofs.lemmas.Int.{ints}
use Rattle.std.proofs.lemmas.List.Sums.{fold-append}
use Rattle.fq_column.specs.contracts.cells.CellOrd.TheImpl.{cmp-value}
use Rattle.fq_column.specs.contracts.cells.CellOrd.TheImpl.Laws.{total-law}
use Rattle.fq_column.specs.declared.cells.Cell.{Cell}
use Rattle.fq_column.specs.declared.cells.Cell.TheVariants.{Null, Whole, Text, Truth}
use Rattle.fq_column.specs.Cell.{cell_cmp, fits, fitted, is_null}
use Rattle.fq_ops.specs.declared.aggregates.Function.{Function}
use Rattle.fq_ops.specs.declared.aggregates.Function.TheVariants as function
use Rattle.fq_ops.specs.Aggregate.{int_sum, value_of, values, wholes}
use Rattle.fq_ops.specs.Parts.{over_parts}
use Rattle.fq_ops.specs.Running.{AggregateState, Sum, Min, Max, Count, Len, First, Last, finished, greater, lesser, start_of, stepped}
use Rattle.fq_ops.proofs.FinishLemmas.{below}
use Rattle.fq_ops.proofs.GroupLemmas.{same_fn}
use Rattle.fq_ops.proofs.ProbeLemmas.{AllIn}
use Rattle.fq_ops.proofs.RunningLemmas.{all-finished, better, count-along, first-along, last-along, len-along, max-along, min-along, sum-along}

-- ---- the better of cells

-- a test that one value wins over another
pub record IsContest (wins : Cell → Cell → Bool) : Type 0 where
  pub further : (a b c : Cell) → wins a b ≡ true → wins b c ≡ true → wins a c ≡ true
  pub short : (a b c : Cell) → wins a b ≡ false → wins b c ≡ false → wins a c ≡ false

null-is : (c : Cell) → is_null c ≡ true → c ≡ Null
null-is Null e = refl
null-is (Whole n) e = absurd (cc)
null-is (Text t) e = absurd (cc)
null-is (Truth b) e = absurd (cc)

module _ (wins : Cell → Cell → Bool) where
  null-best : (c : Cell) → better wins Null c ≡ c
  null-best Null = refl
  null-best (Whole n) = refl
  null-best (Text t) = refl
  null-best (Truth b) = refl

  abbrev pick : Bool → Cell → Cell → Cell
  pick b x y = if b then x else y

  of-values : (a b : Cell) → is_null a ≡ false → is_null b ≡ false → better wins a b ≡ pick (wins b a) b a
  of-values a b m n = ap (λ x. if x then a else if is_null a then b else pick (wins b a) b a) n ∙ ap (λ x. if x then b else pick (wins b a) b a) m

  not-null : (x : Bool) (a b : Cell) → is_null a ≡ false → is_null b ≡ false → is_null (pick x a b) ≡ false
  not-null true a b m n = m
  not-null false a b m n = n

  module _ (contest : IsContest wins) where
    of-three : (a b c : Cell) → is_null a ≡ false → is_null b ≡ false → is_null c ≡ false → better wins (better wins a b) c ≡ better wins a (better wins b c)
    of-three a b c l m n =
        ap (λ x. better wins x c) (of-values a b l m)
        ∙ of-values (pick (wins b a) b a) c (not-null (wins b a) b a m l) n
        ∙ by (wins b a) refl (wins c b) refl
        ∙ sym (of-values a (pick (wins c b) c b) l (not-null (wins c b) c b n m))
        ∙ ap (better wins a) (sym (of-values b c m n))
      where
        by : (x : Bool) → wins b a ≡ x → (y : Bool) → wins c b ≡ y →
            pick (wins c (pick (wins b a) b a)) c (pick (wins b a) b a) ≡ pick (wins (pick (wins c b) c b) a) (pick (wins c b) c b) a
        by x e y f = ap (λ z. pick (wins c (pick z b a)) c (pick z b a)) e ∙ cases x e y f ∙ sym (ap (λ z. pick (wins (pick z c b) a) (pick z c b) a) f)
          where
            cases : (x : Bool) → wins b a ≡ x → (y : Bool) → wins c b ≡ y → pick (wins c (pick x b a)) c (pick x b a) ≡ pick (wins (pick y c b) a) (pick y c b) a
            cases true e true f = ap (λ z. pick z c b) f ∙ sym (ap (λ z. pick z c a) (contest.further c b a f e))
            cases true e false f = ap (λ z. pick z c b) f ∙ sym (ap (λ z. pick z b a) e)
            cases false e true f = refl
            cases false e false f = ap (λ z. pick z c a) (contest.short c b a f e) ∙ sym (ap (λ z. pick z b a) e)

    together : (a b c : Cell) → better wins (better wins a b) c ≡ better wins a (better wins b c)
    together a b c = by (is_null a) refl (is_null b) refl (is_null c) refl
      where
        by : (x : Bool) → is_null a ≡ x → (y : Bool) → is_null b ≡ y → (z : Bool) → is_null c ≡ z → better wins (better wins a b) c ≡ better wins a (better wins b c)
        by true e y f z g =
            ap (λ n. better wins (better wins n b) c) (null-is a e) ∙ ap (λ n. better wins n c) (null-best b) ∙ sym (null-best (better wins b c)) ∙ ap (λ n. better wins n (better wins b c)) (sym (null-is a e))
        by false e true f z g =
            ap (λ n. better wins (better wins a n) c) (null-is b f) ∙ ap (better wins a) (sym (null-best c)) ∙ ap (λ n. better wins a (better wins n c)) (sym (null-is b f))
        by false e false f true g =
            ap (better wins (better wins a b)) (null-is c g) ∙ ap (λ n. better wins a (better wins b n)) (sym (null-is c g))
        by false e false f false g = of-three a b c e f g

    -- the best of a value and others is the better of it and the best of them
    pub best-apart : (best : Cell) (cells : List Cell) → fold (better wins) best cells ≡ better wins best (fold (better wins) Null cells)
    best-apart best [] = refl
    best-apart best (c ∷ cells) =
        best-apart (better wins best c) cells ∙ together best c (fold (better wins) Null cells)
        ∙ ap (better wins best) (sym (best-apart c cells) ∙ ap (λ n. fold (better wins) n cells) (sym (null-best c)))

ordered : (a b : Cell) → cmp-value.it a b ≡ cell_cmp a b
ordered a b = search rules

cell-order : IsTotalOrder cell_cmp
cell-order = subst (λ R. IsTotalOrder R) (same_fn cmp-value.it cell_cmp ordered) total-law

lt-is : (o : Ordering) → is_lt o ≡ true → o ≡ Less
lt-is Less e = refl
lt-is Equal e = absurd (cc)
lt-is Greater e = absurd (cc)

least-contest : IsContest (λ a b. is_lt (cell_cmp a b))
least-contest = record {
  further = λ a b c e f. ap is_lt (cell-order.trans a b c (lt-is (cell_cmp a b) e) (lt-is (cell_cmp b c) f));
  short = λ a b c e f. not-less a b c (cell_cmp a b) refl e f (cell_cmp a c) refl;
}
  where
    not-less : (a b c : Cell) (o : Ordering) → cell_cmp a b ≡ o → is_lt (cell_cmp a b) ≡ false → is_lt (cell_cmp b c) ≡ false → (r : Ordering) → cell_cmp a c ≡ r → is_lt (cell_cmp a c) ≡ false
    not-less a b c Less h e f r g = absurd (true≢false (ap is_lt (sym h) ∙ e))
    not-less a b c Equal h e f r g = ap is_lt (cell-order.congr a b c h) ∙ f
    not-less a b c Greater h e f Less g =
        let less : cell_cmp b a ≡ Less = cell-order.antisymm b a ∙ ap ordering_reverse h in
        absurd (true≢false (ap is_lt (sym (cell-order.trans b a c less g)) ∙ f))
    not-less a b c Greater h e f Equal g = ap is_lt g
    not-less a b c Greater h e f Greater g = ap is_lt g

gt-is : (a b : Cell) → is_lt (cell_cmp b a) ≡ is_gt (cell_cmp a b)
gt-is a b = ap is_lt (cell-order.antisymm b a) ∙ by (cell_cmp a b)
  where
    by : (o : Ordering) → is_lt (ordering_reverse o) ≡ is_gt o
    by Less = refl
    by Equal = refl
    by Greater = refl

greatest-contest : IsContest (λ a b. is_gt (cell_cmp a b))
greatest-contest = subst (λ wins. IsContest wins) (same_fn (λ a b. is_lt (cell_cmp b a)) (λ a b. is_gt (cell_cmp a b)) gt-is)
    (record { further = λ a b c e f. least-contest.further c b a f e; short = λ a b c e f. least-contest.short c b a f e })

-- ---- running values over all cells, and over the values of parts

-- how the running value over all cells so far, and that over the values of the parts so far, belong together
abbrev pub Stands : Function → AggregateState → AggregateState → Type 0
Stands function.Sum s t = (a : ℤ) × (s ≡ Sum a) × (t ≡ Sum a)
Stands function.Min s t = (c : Cell) × (s ≡ Min c) × (t ≡ Min c)
Stands function.Max s t = (c : Cell) × (s ≡ Max c) × (t ≡ Max c)
Stands function.Count s t = (n : ℕ) × (s ≡ Count n) × (t ≡ Sum (pos n))
Stands function.Len s t = (n : ℕ) × (s ≡ Len n) × (t ≡ Sum (pos n))
Stands function.First s t = (o : Option Cell) × (s ≡ First o) × (t ≡ First o)
Stands function.Last s t = (c : Cell) × (s ≡ Last c) × (t ≡ Last c)
Stands function.NUnique s t = ⊥

starts : (f g : Function) → over_parts f ≡ Some g → Stands f (start_of f) (start_of g)
starts function.Sum g e = let h : function.Sum ≡ g = cc in (pos 0, refl, ap start_of (sym h))
starts function.Min g e = let h : function.Min ≡ g = cc in (Null, refl, ap start_of (sym h))
starts function.Max g e = let h : function.Max ≡ g = cc in (Null, refl, ap start_of (sym h))
starts function.Count g e = let h : function.Sum ≡ g = cc in (0, refl, ap start_of (sym h))
starts function.Len g e = let h : function.Sum ≡ g = cc in (0, refl, ap start_of (sym h))
starts function.First g e = let h : function.First ≡ g = cc in (None, refl, ap start_of (sym h))
starts function.Last g e = let h : function.Last ≡ g = cc in (Null, refl, ap start_of (sym h))
starts function.NUnique g e = absurd (cc)

fitted-is : (z : ℤ) (x : Cell) → fitted z ≡ Some x → x ≡ Whole z
fitted-is z x e = by (fits z) e
  where
    by : (b : Bool) → (let none : Option Cell = None in if b then Some (Whole z) else none) ≡ Some x → x ≡ Whole z
    by true h = cc
    by false h = absurd (cc)

fitted-pos : (n : ℕ) → n < 2 ^ 63 → fitted (pos n) ≡ Some (Whole (pos n))
fitted-pos n low = ap (λ b. let none : Option Cell = None in if b then Some (Whole (pos n)) else none) (below n (2 ^ 63) low)

pub length-filter : {X : Type 0} (p : X → Bool) (xs : List X) → length (filter p xs) ≤ length xs
length-filter p [] = omega arith
length-filter p (x ∷ xs) = elim (p x) as (λ b. length (cond b (x ∷ filter p xs) (filter p xs)) ≤ suc (length xs)) [ true ↦ omega (arith, length-filter p xs) | false ↦ omega (arith, length-filter p xs) ]

plus-apart : (a b : ℤ) (ns : List ℤ) → fold (λ m n. m +ℤ n) (a +ℤ b) ns ≡ a +ℤ fold (λ m n. m +ℤ n) b ns
plus-apart a b [] = refl
plus-apart a b (n ∷ ns) = ap (λ z. fold (λ x y. x +ℤ y) z ns) (let e : (a +ℤ b) +ℤ n ≡ a +ℤ (b +ℤ n) = omega (arith, ints) in e) ∙ plus-apart a (b +ℤ n) ns

sum-apart : (a : ℤ) (ns : List ℤ) → fold (λ m n. m +ℤ n) a ns ≡ a +ℤ int_sum ns
sum-apart a ns = ap (λ z. fold (λ x y. x +ℤ y) z ns) (let e : a ≡ a +ℤ pos 0 = omega (arith, ints) in e) ∙ plus-apart a (pos 0) ns

-- the cells of one more part, and its value
goes-on : (f : Function) (s t : AggregateState) → Stands f s t → (c : Cell) (cells : List Cell) (x : Cell) → value_of f (c ∷ cells) ≡ Some x → Stands f (fold stepped s (c ∷ cells)) (stepped t x)
goes-on function.Sum s t (a, h, k) c cells x e =
    let total = int_sum (wholes (c ∷ cells)) in (
      a +ℤ total,
      ap (λ z. fold stepped z (c ∷ cells)) h ∙ sum-along a (c ∷ cells) ∙ ap Sum (sum-apart a (wholes (c ∷ cells))),
      ap (λ z. stepped z x) k ∙ ap (λ y. stepped (Sum a) y) (fitted-is total x e),
    )
goes-on function.Count s t (n, h, k) c cells x e =
    let count = length (values (c ∷ cells)) in
    let is : Whole (pos count) ≡ x = cc in (
      n + count,
      ap (λ z. fold stepped z (c ∷ cells)) h ∙ count-along n (c ∷ cells),
      ap (λ z. stepped z x) k ∙ ap (λ y. stepped (Sum (pos n)) y) (sym is) ∙ ap Sum (let q : pos n +ℤ pos count ≡ pos (n + count) = omega (arith, ints) in q),
    )
goes-on function.Len s t (n, h, k) c cells x e =
    let count = length (c ∷ cells) in
    let is : Whole (pos count) ≡ x = cc in (
      n + count,
      ap (λ z. fold stepped z (c ∷ cells)) h ∙ len-along n (c ∷ cells),
      ap (λ z. stepped z x) k ∙ ap (λ y. stepped (Sum (pos n)) y) (sym is) ∙ ap Sum (let q : pos n +ℤ pos count ≡ pos (n + count) = omega (arith, ints) in q),
    )
goes-on function.Min s t (b, h, k) c cells x e =
    let wins = λ (p q : Cell). is_lt (cell_cmp p q) in
    let is : fold lesser Null (c ∷ cells) ≡ x = value-is function.Min (fold lesser Null (c ∷ cells)) x (ap finished (min-along Null (c ∷ cells))) (all-finished function.Min (c ∷ cells) ∙ e) in (
      lesser b x,
      ap (λ z. fold stepped z (c ∷ cells)) h ∙ min-along b (c ∷ cells) ∙ ap Min (best-apart wins least-contest b (c ∷ cells) ∙ ap (lesser b) is),
      ap (λ z. stepped z x) k,
    )
  where
    value-is : (f : Function) (y x : Cell) → finished (fold stepped (start_of f) (c ∷ cells)) ≡ Some y → finished (fold stepped (start_of f) (c ∷ cells)) ≡ Some x → y ≡ x
    value-is f y x p q = cc
goes-on function.Max s t (b, h, k) c cells x e =
    let wins = λ (p q : Cell). is_gt (cell_cmp p q) in
    let is : fold greater Null (c ∷ cells) ≡ x = value-is function.Max (fold greater Null (c ∷ cells)) x (ap finished (max-along Null (c ∷ cells))) (all-finished function.Max (c ∷ cells) ∙ e) in (
      greater b x,
      ap (λ z. fold stepped z (c ∷ cells)) h ∙ max-along b (c ∷ cells) ∙ ap Max (best-apart wins greatest-contest b (c ∷ cells) ∙ ap (greater b) is),
      ap (λ z. stepped z x) k,
    )
  where
    value-is : (f : Function) (y x : Cell) → finished (fold stepped (start_of f) (c ∷ cells)) ≡ Some y → finished (fold stepped (start_of f) (c ∷ cells)) ≡ Some x → y ≡ x
    value-is f y x p q = cc
goes-on function.First s t (None, h, k) c cells x e =
    let is : c ≡ x = cc in
    (Some c, ap (λ z. fold stepped z (c ∷ cells)) h ∙ first-along c cells, ap (λ z. stepped z x) k ∙ ap (λ y. First (Some y)) (sym is))
goes-on function.First s t (Some o, h, k) c cells x e =
    (Some o, ap (λ z. fold stepped z (c ∷ cells)) h ∙ first-along o (c ∷ cells), ap (λ z. stepped z x) k)
goes-on function.Last s t (l, h, k) c cells x e =
    let is : slice_index_or (c ∷ cells) (length cells) Null ≡ x = last-is x e in
    (x, ap (λ z. fold stepped z (c ∷ cells)) h ∙ last-along c cells ∙ ap Last is, ap (λ z. stepped z x) k)
  where
    last-is : (x : Cell) → value_of function.Last (c ∷ cells) ≡ Some x → slice_index_or (c ∷ cells) (length cells) Null ≡ x
    last-is x e = ap (λ i. slice_index_or (c ∷ cells) i Null) (let q : length cells ≡ suc (length cells) - 1 = omega arith in q) ∙ (let q : slice_index_or (c ∷ cells) (suc (length cells) - 1) Null ≡ x = cc in q)
goes-on function.NUnique s t h c cells x e = absurd h

-- a part has no cell and no value, or some and the value of these
abbrev pub IsPart : Function → List Cell → List Cell → Type 0
IsPart f cells made = ((cells ≡ []) × (made ≡ [])) ⊎ ((c : Cell) × (rest : List Cell) × (x : Cell) × (cells ≡ c ∷ rest) × (made ≡ x ∷ []) × (value_of f cells ≡ Some x))

module _ {P : Type 0} (f : Function) (cells made : P → List Cell) where
  along : (s t : AggregateState) → Stands f s t → (parts : List P) → AllIn (λ p. IsPart f (cells p) (made p)) parts → Stands f (fold stepped s (flat_map cells parts)) (fold stepped t (flat_map made parts))
  along s t h [] all = h
  along s t h (p ∷ parts) (one, all) =
      subst (λ z. Stands f z (fold stepped t (made p ++ flat_map made parts))) (sym (fold-append stepped s (cells p) (flat_map cells parts)))
      (subst (Stands f (fold stepped (fold stepped s (cells p)) (flat_map cells parts))) (sym (fold-append stepped t (made p) (flat_map made parts)))
      (along (fold stepped s (cells p)) (fold stepped t (made p)) (step one) parts all))
    where
      step : IsPart f (cells p) (made p) → Stands f (fold stepped s (cells p)) (fold stepped t (made p))
      step (inl (e, g)) = subst (λ xs. Stands f (fold stepped s xs) (fold stepped t (made p))) (sym e) (subst (λ xs. Stands f s (fold stepped t xs)) (sym g) h)
      step (inr (c, rest, x, e, g, v)) =
          subst (λ xs. Stands f (fold stepped s xs) (fold stepped t (made p))) (sym e)
          (subst (λ xs. Stands f (fold stepped s (c ∷ rest)) (fold stepped t xs)) (sym g) (goes-on f s t h c rest x (ap (value_of f) (sym e) ∙ v)))

  -- at the end
  ends : (g : Function) → over_parts f ≡ Some g → (all : List Cell) (t : AggregateState) → length all < 2 ^ 63 → Stands f (fold stepped (start_of f) all) t → finished t ≡ value_of f all
  ends g o all t few h = by f h ∙ all-finished f all
    where
      by : (f : Function) → Stands f (fold stepped (start_of f) all) t → finished t ≡ finished (fold stepped (start_of f) all)
      by function.Sum (a, h, k) = ap finished k ∙ sym (ap finished h)
      by function.Min (a, h, k) = ap finished k ∙ sym (ap finished h)
      by function.Max (a, h, k) = ap finished k ∙ sym (ap finished h)
      by function.First (a, h, k) = ap finished k ∙ sym (ap finished h)
      by function.Last (a, h, k) = ap finished k ∙ sym (ap finished h)
      by function.NUnique h = absurd h
      by function.Count (n, h, k) =
          let is : n ≡ 0 + length (values all) = let e : Count n ≡ Count (0 + length (values all)) = sym h ∙ count-along 0 all in cc in
          ap finished k ∙ fitted-pos n (omega (arith, is, few, length-filter (λ c. not (is_null c)) all)) ∙ sym (ap finished h)
      by function.Len (n, h, k) =
          let is : n ≡ 0 + length all = let e : Len n ≡ Len (0 + length all) = sym h ∙ len-along 0 all in cc in
          ap finished k ∙ fitted-pos n (omega (arith, is, few)) ∙ sym (ap finished h)

  pub combined : (g : Function) → over_parts f ≡ Some g → (parts : List P) → AllIn (λ p. IsPart f (cells p) (made p)) parts → length (flat_map cells parts) < 2 ^ 63 →
      value_of g (flat_map made parts) ≡ value_of f (flat_map cells parts)
  combined g o parts all few =
      sym (all-finished g (flat_map made parts))
      ∙ ends g o (flat_map cells parts) (fold stepped (start_of g) (flat_map made parts)) few (along (start_of f) (start_of g) (starts f g o) parts all)
