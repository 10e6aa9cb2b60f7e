-- Aggregates and rolling sums of cells whose ints are multiplied, and what they stand for.
use Rattle.std.proofs.Common.{◌≡◌, ◌∙◌, ◌-◌, ◌<◌, ℕ, zero, suc, ℤ, pos, ◌+ℤ◌, ◌*ℤ◌, List, [], ◌∷◌, Bool, true, false, cond, not, Option, Some, None, Result, Ok, Err, ap, refl, sym, is_lt, is_gt, drop, take, length, map, filter, fold, nat_le, option_map, unwrap_or, get_or, mul-zero, ◌==◌, eqb-true, true≢false, IsErr, is_err, ◌↔◌}
use Rattle.std.specs.List.{reduce}
use Rattle.std.specs.Cmp.Lexicographic.{bytes_decides}
use Rattle.std.proofs.lemmas.List.{drop-map, length-map, take-map}
use Rattle.fq_column.specs.declared.cells.Cell.{Cell}
use Rattle.fq_column.specs.declared.cells.Cell.TheVariants.{Null, Whole, Text, Truth}
use Rattle.fq_column.specs.declared.cells.Kind.{Kind}
use Rattle.fq_column.specs.declared.cells.Kind.TheVariants as kind
use Rattle.fq_column.specs.declared.faults.StepFault.{StepFault}
use Rattle.fq_column.specs.Cell.{cell_cmp, fitted, is_null, same_cell}
use Rattle.fq_column.specs.Frame.{Fields, Name, put_named, same_name}
use Rattle.fq_column.specs.Schema.{kind_named}
use Rattle.fq_notation.specs.Multiplied.{times}
use Rattle.fq_notation.specs.Naming.{column_followed, column_noted, count_noted, notation_of, noted_before, of_column}
use Rattle.fq_notation.specs.Notation.{Named, notation_named}
use Rattle.fq_notation.specs.Scales.{only}
use Rattle.fq_notation.specs.declared.followed.Followed.TheVariants.{Numbers, Days, Others}
use Rattle.fq_notation.specs.declared.naming.Said.TheVariants.{Nothing}
use Rattle.fq_notation.specs.declared.naming.StepUnnoted.TheVariants.{Step}
use Rattle.fq_notation.specs.declared.naming.Unnoted.{Unnoted}
use Rattle.fq_notation.specs.declared.notations.Notation.{Notation}
use Rattle.fq_notation.specs.declared.notations.Notation.TheVariants.{Plain, Decimal, Date}
use Rattle.fq_notation.proofs.MultipliedLemmas.{cell_cmp-times, fitted-times, is_null-times, same_cell-times, times-one, times-sum}
use Rattle.fq_ops.specs.declared.aggregates.Function.{Function}
use Rattle.fq_ops.specs.declared.aggregates.Function.TheVariants.{Sum, Min, Max, Count, Len, First, Last, NUnique}
use Rattle.fq_ops.specs.Aggregate.{count, first_seen, int_sum, kind_over, value_of, values, wholes}
use Rattle.fq_ops.specs.Multiplied.{keeps_scale}
use Rattle.fq_ops.specs.Noted.{function_noted, roll_noted}
use Rattle.fq_ops.specs.Roll.{rolled_at, window_at}

-- ---- lists that are mapped

filter-mapped : {X Y : Type 0} (f : X → Y) (p : Y → Bool) (q : X → Bool) → ((x : X) → p (f x) ≡ q x) → (xs : List X) → filter p (map f xs) ≡ map f (filter q xs)
filter-mapped f p q same [] = refl
filter-mapped f p q same (x ∷ xs) =
    (λ i. cond (same x i) (f x ∷ filter-mapped f p q same xs i) (filter-mapped f p q same xs i)) ∙ go (q x)
  where
    go : (b : Bool) → cond b (f x ∷ map f (filter q xs)) (map f (filter q xs)) ≡ map f (cond b (x ∷ filter q xs) (filter q xs))
    go true = refl
    go false = refl

-- a choice between two that goes with a map
reduce-mapped : {X : Type 0} (f : X → X) (g : X → X → X) → ((x y : X) → g (f x) (f y) ≡ f (g x y)) → (xs : List X) → reduce g (map f xs) ≡ option_map f (reduce g xs)
reduce-mapped f g same [] = refl
reduce-mapped f g same (x ∷ xs) = ap Some (go x xs)
  where
    go : (y : _) (ys : List _) → fold g (f y) (map f ys) ≡ f (fold g y ys)
    go y [] = refl
    go y (z ∷ ys) = ap (λ w. fold g w (map f ys)) (same y z) ∙ go (g y z) ys

get_or-mapped : {X : Type 0} (f : X → X) (xs : List X) (i : ℕ) (d : X) → f d ≡ d → get_or (map f xs) i d ≡ f (get_or xs i d)
get_or-mapped f [] i d same = sym same
get_or-mapped f (x ∷ xs) zero d same = refl
get_or-mapped f (x ∷ xs) (suc i) d same = get_or-mapped f xs i d same

-- ---- cells that are multiplied

module _ (m : ℕ) where
  wholes-times : (cells : List Cell) → wholes (map (times m) cells) ≡ map (λ z. pos m *ℤ z) (wholes cells)
  wholes-times [] = refl
  wholes-times (Null ∷ cells) = wholes-times cells
  wholes-times (Whole z ∷ cells) = ap (λ zs. (pos m *ℤ z) ∷ zs) (wholes-times cells)
  wholes-times (Text t ∷ cells) = wholes-times cells
  wholes-times (Truth b ∷ cells) = wholes-times cells

  int_sum-times : (zs : List ℤ) → int_sum (map (λ z. pos m *ℤ z) zs) ≡ pos m *ℤ int_sum zs
  int_sum-times zs = ap (λ n. fold (λ a z. a +ℤ z) (pos n) (map (λ z. pos m *ℤ z) zs)) (sym (mul-zero m)) ∙ go (pos 0) zs
    where
      go : (a : ℤ) (zs : List ℤ) → fold (λ a z. a +ℤ z) (pos m *ℤ a) (map (λ z. pos m *ℤ z) zs) ≡ pos m *ℤ fold (λ a z. a +ℤ z) a zs
      go a [] = refl
      go a (z ∷ zs) = ap (λ b. fold (λ a z. a +ℤ z) b (map (λ z. pos m *ℤ z) zs)) (times-sum m a z) ∙ go (a +ℤ z) zs

  values-times : (cells : List Cell) → values (map (times m) cells) ≡ map (times m) (values cells)
  values-times cells = filter-mapped (times m) (λ c. not (is_null c)) (λ c. not (is_null c)) (λ c. ap not (is_null-times m c)) cells

  window-times : (n : ℕ) (cells : List Cell) (i : ℕ) → window_at n (map (times m) cells) i ≡ map (λ z. pos m *ℤ z) (window_at n cells i)
  window-times n cells i =
      ap wholes (ap (drop (suc i - n)) (take-map (times m) (suc i) cells) ∙ drop-map (times m) (suc i - n) (take (suc i) cells))
      ∙ wholes-times (drop (suc i - n) (take (suc i) cells))

  counted : {X Y : Type 0} (xs : List X) (ys : List Y) (c : Cell) → length xs ≡ length ys → Some (count xs) ≡ Some c → option_map (times 1) (Some (count ys)) ≡ Some c
  counted xs ys c same e = ap Some (times-one (count ys) ∙ ap (λ n. Whole (pos n)) (sym same)) ∙ e

module _ (m : ℕ) (above : 0 < m) where
  sum-times : (ns zs : List ℤ) (c : Cell) → ns ≡ map (λ z. pos m *ℤ z) zs → fitted (int_sum ns) ≡ Some c → option_map (times m) (fitted (int_sum zs)) ≡ Some c
  sum-times ns zs c same e = fitted-times m above (int_sum zs) c (ap fitted (sym (ap int_sum same ∙ int_sum-times m zs)) ∙ e)

  -- the least or the greatest, by a test of the order
  picked-times : (test : Cell → Cell → Bool) → ((a b : Cell) → test (times m a) (times m b) ≡ test a b) → (cells : List Cell) →
      unwrap_or (reduce (λ a b. cond (test b a) b a) (values (map (times m) cells))) Null ≡ times m (unwrap_or (reduce (λ a b. cond (test b a) b a) (values cells)) Null)
  picked-times test same cells =
      ap (λ cs. unwrap_or (reduce (λ a b. cond (test b a) b a) cs) Null) (values-times m cells)
      ∙ ap (λ o. unwrap_or o Null) (reduce-mapped (times m) (λ a b. cond (test b a) b a) choice (values cells))
      ∙ out (reduce (λ a b. cond (test b a) b a) (values cells))
    where
      either : (t : Bool) (a b : Cell) → cond t (times m b) (times m a) ≡ times m (cond t b a)
      either true a b = refl
      either false a b = refl

      choice : (a b : Cell) → cond (test (times m b) (times m a)) (times m b) (times m a) ≡ times m (cond (test b a) b a)
      choice a b = ap (λ t. cond t (times m b) (times m a)) (same b a) ∙ either (test b a) a b

      out : (o : Option Cell) → unwrap_or (option_map (times m) o) Null ≡ times m (unwrap_or o Null)
      out None = refl
      out (Some c) = refl

  first_seen-times : (cells : List Cell) → first_seen same_cell (map (times m) cells) ≡ map (times m) (first_seen same_cell cells)
  first_seen-times [] = refl
  first_seen-times (c ∷ cells) =
      ap (λ cs. times m c ∷ filter (λ d. not (same_cell (times m c) d)) cs) (first_seen-times cells)
      ∙ ap (λ cs. times m c ∷ cs) (filter-mapped (times m) (λ d. not (same_cell (times m c) d)) (λ d. not (same_cell c d)) (λ d. ap not (same_cell-times m above c d)) (first_seen same_cell cells))

  pub value_of-times : (f : Function) (cells : List Cell) (c : Cell) → value_of f (map (times m) cells) ≡ Some c → option_map (times (cond (keeps_scale f) m 1)) (value_of f cells) ≡ Some c
  value_of-times Sum cells c e = sum-times (wholes (map (times m) cells)) (wholes cells) c (wholes-times m cells) e
  value_of-times Min cells c e = ap Some (sym (picked-times (λ a b. is_lt (cell_cmp a b)) (λ a b. ap is_lt (cell_cmp-times m above a b)) cells)) ∙ e
  value_of-times Max cells c e = ap Some (sym (picked-times (λ a b. is_gt (cell_cmp a b)) (λ a b. ap is_gt (cell_cmp-times m above a b)) cells)) ∙ e
  value_of-times Count cells c e = counted m (values (map (times m) cells)) (values cells) c (ap length (values-times m cells) ∙ length-map (values cells) (times m)) e
  value_of-times Len cells c e = counted m (map (times m) cells) cells c (length-map cells (times m)) e
  value_of-times First cells c e = ap Some (sym (get_or-mapped (times m) cells 0 Null refl)) ∙ e
  value_of-times Last cells c e =
      ap Some (sym (ap (λ n. get_or (map (times m) cells) (n - 1) Null) (length-map cells (times m)) ∙ get_or-mapped (times m) cells (length cells - 1) Null refl)) ∙ e
  value_of-times NUnique cells c e =
      counted m (first_seen same_cell (map (times m) cells)) (first_seen same_cell cells) c (ap length (first_seen-times cells) ∙ length-map (first_seen same_cell cells) (times m)) e

  pub rolled_at-times : (n k : ℕ) (cells : List Cell) (i : ℕ) (c : Cell) → rolled_at n k (map (times m) cells) i ≡ Some c → option_map (times m) (rolled_at n k cells i) ≡ Some c
  rolled_at-times n k cells i c e =
      let same = window-times m n cells i in
      go (nat_le k (length (window_at n cells i))) (sym (ap (λ l. cond (nat_le k l) (fitted (int_sum (window_at n (map (times m) cells) i))) (Some Null)) (ap length same ∙ length-map (window_at n cells i) (λ z. pos m *ℤ z))) ∙ e)
    where
      go : (t : Bool) → cond t (fitted (int_sum (window_at n (map (times m) cells) i))) (Some Null) ≡ Some c → option_map (times m) (cond t (fitted (int_sum (window_at n cells i))) (Some Null)) ≡ Some c
      go true h = sum-times (window_at n (map (times m) cells) i) (window_at n cells i) c (window-times m n cells i) h
      go false h = h

-- ---- what they stand for

same_Ok : {X E : Type 0} (x y : X) → ◌≡◌ {A = Result X E} (Ok x) (Ok y) → x ≡ y
same_Ok x y e = cc

-- the numbers of a notation of a scale
of_notation_of : (s : ℕ) → of_column kind.Whole (notation_of s) ≡ Numbers (only s)
of_notation_of s = go (s == 0) refl
  where
    go : (b : Bool) → (s == 0) ≡ b → of_column kind.Whole (cond b Plain (Decimal s)) ≡ Numbers (only s)
    go true e = ap (λ n. Numbers (only n)) (sym (eqb-true s 0 e))
    go false e = refl

-- where nothing is said, a column that has the ints of another stands for what that stands for
column_noted-follows : (sums : Bool) (m n : Notation) → column_noted sums Nothing (of_column kind.Whole m) ≡ Ok n → of_column kind.Whole n ≡ of_column kind.Whole m
column_noted-follows sums Plain n e = ap (of_column kind.Whole) (sym (same_Ok _ n e))
column_noted-follows sums (Decimal s) n e = ap (of_column kind.Whole) (sym (same_Ok (notation_of s) n e)) ∙ of_notation_of s
column_noted-follows true Date n e = absurd (cc)
column_noted-follows false Date n e = ap (of_column kind.Whole) (sym (same_Ok Date n e))

same-self : (name : Name) → same_name name name ≡ true
same-self name = (bytes_decides name name).1 refl

-- a column that is put under a name has the kind that is put
kind_named-put : (fs : Fields) (name : Name) (k : Kind) → kind_named (put_named fs (name, k)) name ≡ Ok k
kind_named-put [] name k = ap (λ b. cond b (Ok k) (kind_named [] name)) (same-self name)
kind_named-put (f ∷ fs) name k = go (same_name name f.0) refl (kind_named-put fs name k)
  where
    go : (b : Bool) → same_name name f.0 ≡ b → kind_named (put_named fs (name, k)) name ≡ Ok k → kind_named (cond b ((name, k) ∷ fs) (f ∷ put_named fs (name, k))) name ≡ Ok k
    go true e later = ap (λ b. cond b (Ok k) (kind_named fs name)) (same-self name)
    go false e later = ap (λ b. cond b (Ok f.1) (kind_named (put_named fs (name, k)) name)) e ∙ later

module _ (fields : Fields) (named : List Named) where
  -- of a column whose kind is known
  followed-known : (name : Name) (k : Kind) → kind_named fields name ≡ Ok k → column_followed fields named name ≡ of_column k (notation_named named name)
  followed-known name k known = ap (λ (r : Result Kind StepFault). elim r [ Ok k ↦ of_column k (notation_named named name) | Err fault ↦ Others ]) known

  int-noted : (sums : Bool) (name : Name) (n : Notation) → kind_named fields name ≡ Ok kind.Whole → column_noted sums Nothing (column_followed fields named name) ≡ Ok n →
      of_column kind.Whole n ≡ column_followed fields named name
  int-noted sums name n known e =
      let f = followed-known name kind.Whole known in
      column_noted-follows sums (notation_named named name) n (ap (column_noted sums Nothing) (sym f) ∙ e) ∙ sym f

  kept-noted : (name : Name) (k after : Kind) (n : Notation) → kind_named fields name ≡ Ok k → ◌≡◌ {A = Result Kind StepFault} (Ok k) (Ok after) → column_noted false Nothing (column_followed fields named name) ≡ Ok n →
      of_column after n ≡ column_followed fields named name
  kept-noted name kind.Whole after n known same e = ap (λ k. of_column k n) (sym (same_Ok kind.Whole after same)) ∙ int-noted false name n known e
  kept-noted name kind.Text after n known same e = ap (λ k. of_column k n) (sym (same_Ok kind.Text after same)) ∙ sym (followed-known name kind.Text known)
  kept-noted name kind.Truth after n known same e = ap (λ k. of_column k n) (sym (same_Ok kind.Truth after same)) ∙ sym (followed-known name kind.Truth known)

  count-noted : (after : Kind) (n : Notation) → ◌≡◌ {A = Result Kind StepFault} (Ok kind.Whole) (Ok after) → count_noted Nothing ≡ Ok n → of_column after n ≡ Numbers (only 0)
  count-noted after n same e = sym (λ i. of_column (same_Ok kind.Whole after same i) (same_Ok Plain n e i))

  pub function_noted-follows : (f : Function) (name : Name) (k after : Kind) (n : Notation) → kind_named fields name ≡ Ok k → kind_over f k ≡ Ok after → function_noted fields named Nothing f name ≡ Ok n →
      of_column after n ≡ cond (keeps_scale f) (column_followed fields named name) (Numbers (only 0))
  function_noted-follows Sum name kind.Whole after n known same e = ap (λ k. of_column k n) (sym (same_Ok kind.Whole after same)) ∙ int-noted true name n known e
  function_noted-follows Sum name kind.Text after n known same e = absurd (cc)
  function_noted-follows Sum name kind.Truth after n known same e = absurd (cc)
  function_noted-follows Min name k after n known same e = kept-noted name k after n known same e
  function_noted-follows Max name k after n known same e = kept-noted name k after n known same e
  function_noted-follows Count name k after n known same e = count-noted after n same e
  function_noted-follows Len name k after n known same e = count-noted after n same e
  function_noted-follows First name k after n known same e = kept-noted name k after n known same e
  function_noted-follows Last name k after n known same e = kept-noted name k after n known same e
  function_noted-follows NUnique name k after n known same e = count-noted after n same e

  pub roll_noted-follows : (after : List Named) (column name : Name) → kind_named fields column ≡ Ok kind.Whole → roll_noted fields named Nothing column name ≡ Ok after →
      column_followed (put_named fields (name, kind.Whole)) after name ≡ column_followed fields named column
  roll_noted-follows after column name known e = go (column_noted true Nothing (column_followed fields named column)) refl e
    where
      go : (r : Result Notation Unnoted) → column_noted true Nothing (column_followed fields named column) ≡ r → noted_before name Step r (Ok named) ≡ Ok after →
          column_followed (put_named fields (name, kind.Whole)) after name ≡ column_followed fields named column
      go (Ok n) noted h =
          let these : (name, n) ∷ named ≡ after = same_Ok _ after h in
          ap (λ (r : Result Kind StepFault). elim r [ Ok k ↦ of_column k (notation_named after name) | Err fault ↦ Others ]) (kind_named-put fields name kind.Whole)
          ∙ ap (λ (ns : List Named). of_column kind.Whole (notation_named ns name)) (sym these)
          ∙ ap (λ b. of_column kind.Whole (cond b n (notation_named named name))) (same-self name)
          ∙ int-noted true column n known noted
      go (Err why) noted h = absurd (cc)

  -- ---- what has no notation

  column_noted-refused : (sums : Bool) (k : Kind) (m : Notation) → IsErr (column_noted sums Nothing (of_column k m)) → (sums ≡ true) × (of_column k m ≡ Days)
  column_noted-refused sums kind.Whole Plain e = absurd (true≢false (sym e))
  column_noted-refused sums kind.Whole (Decimal s) e = absurd (true≢false (sym e))
  column_noted-refused true kind.Whole Date e = (refl, refl)
  column_noted-refused false kind.Whole Date e = absurd (true≢false (sym e))
  column_noted-refused sums kind.Text m e = absurd (true≢false (sym e))
  column_noted-refused sums kind.Truth m e = absurd (true≢false (sym e))

  days-refused : (sums : Bool) (name : Name) → IsErr (column_noted sums Nothing (column_followed fields named name)) → (sums ≡ true) × (column_followed fields named name ≡ Days)
  days-refused sums name e = go (kind_named fields name) e
    where
      go : (r : Result Kind StepFault) → IsErr (column_noted sums Nothing (elim r [ Ok k ↦ of_column k (notation_named named name) | Err fault ↦ Others ])) →
          (sums ≡ true) × (elim r [ Ok k ↦ of_column k (notation_named named name) | Err fault ↦ Others ] ≡ Days)
      go (Ok k) h = column_noted-refused sums k (notation_named named name) h
      go (Err fault) h = absurd (true≢false (sym h))

  sum-refused : (name : Name) → column_followed fields named name ≡ Days → IsErr (column_noted true Nothing (column_followed fields named name))
  sum-refused name e = ap (λ f. is_err (column_noted true Nothing f)) e

  only-sums : (f : Function) (name : Name) → IsErr (function_noted fields named Nothing f name) → (f ≡ Sum) × (column_followed fields named name ≡ Days)
  only-sums Sum name e = (refl, (days-refused true name e).1)
  only-sums Min name e = absurd (true≢false (sym (days-refused false name e).0))
  only-sums Max name e = absurd (true≢false (sym (days-refused false name e).0))
  only-sums Count name e = absurd (true≢false (sym e))
  only-sums Len name e = absurd (true≢false (sym e))
  only-sums First name e = absurd (true≢false (sym (days-refused false name e).0))
  only-sums Last name e = absurd (true≢false (sym (days-refused false name e).0))
  only-sums NUnique name e = absurd (true≢false (sym e))

  pub function_noted-refused : (f : Function) (name : Name) → IsErr (function_noted fields named Nothing f name) ↔ ((f ≡ Sum) × (column_followed fields named name ≡ Days))
  function_noted-refused f name = (only-sums f name, λ h. ap (λ g. is_err (function_noted fields named Nothing g name)) h.0 ∙ sum-refused name h.1)

  pub roll_noted-refused : (column name : Name) → IsErr (roll_noted fields named Nothing column name) ↔ (column_followed fields named column ≡ Days)
  roll_noted-refused column name = (λ e. (days-refused true column (sym (same r) ∙ e)).1, λ h. same r ∙ sum-refused column h)
    where
      r : Result Notation Unnoted
      r = column_noted true Nothing (column_followed fields named column)

      same : (o : Result Notation Unnoted) → is_err (noted_before name Step o (Ok named)) ≡ is_err o
      same (Ok n) = refl
      same (Err why) = refl
