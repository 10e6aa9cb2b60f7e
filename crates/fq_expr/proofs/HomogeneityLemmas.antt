-- Values of rows whose ints are multiplied: those before, multiplied by what the expression stands for.
use Rattle.std.proofs.Common.{◌≡◌, ◌∙◌, ◌+◌, ◌-◌, ◌*◌, ◌/◌, ◌^◌, ◌<◌, ◌≤◌, ℕ, suc, ℤ, pos, negsuc, neg_ℤ, ◌+ℤ◌, ◌-ℤ◌, ◌*ℤ◌, Bool, true, false, cond, List, Option, Some, None, Ordering, ap, arith, refl, sym, subst, int_lt, int_eq, is_eq, is_lt, is_le, is_gt, is_ge, option_map, option_and_then, is_some, nat_le, true≢false, eqb-true, le-ltb, mul-zero}
use native.Mathlib.Nat.{div-div-eq-div-mul, div-eq_of_lt, mul-add-div, mul-div-mul_left, one-le-pow, pow-zero}
use Rattle.std.specs.Prelude.{◌&&◌, ◌||◌, not}
use Rattle.std.specs.Int.{int_div_euclid}
use Rattle.std.specs.Option.{option_map_or}
use Rattle.std.specs.Ordering.{is_ne}
use Rattle.std.proofs.lemmas.Bool.{and_parts, leb-true, or_parts}
use Rattle.std.proofs.lemmas.Nat.{pow-add}
use Rattle.std.proofs.lemmas.Option.{cond_some, none-some, option_and_then_some, same_Some}
use Rattle.fq_column.specs.declared.cells.Cell.{Cell}
use Rattle.fq_column.specs.declared.cells.Cell.TheVariants as cell
use Rattle.fq_column.specs.Cell.{cell_cmp, fitted, same_cell}
use Rattle.fq_column.specs.Cell as cells
use Rattle.fq_column.specs.Frame.{Fields, Row, value_named}
use Rattle.fq_notation.specs.Multiplied.{factor, rescaled, times}
use Rattle.fq_notation.specs.Naming.{column_followed}
use Rattle.fq_notation.specs.Notation.{Named}
use Rattle.fq_notation.specs.Scales.{ScaleRange, are_read_alike, common, is_possible, only, product, quotient}
use Rattle.fq_notation.specs.declared.followed.Followed.{Followed}
use Rattle.fq_notation.specs.declared.followed.Followed.TheVariants.{Numbers, Days, Others}
use Rattle.fq_notation.proofs.MultipliedLemmas.{cell_cmp-times, fitted-times, int_cmp-times, is_null-times, same_cell-times, times-both, times-difference, times-first, times-negative, times-negsuc, times-one, times-sum, value_named-times}
use Rattle.fq_notation.proofs.ScaleLemmas.{common-only, product-only}
use Rattle.fq_expr.specs.declared.expressions.Unary.{Unary}
use Rattle.fq_expr.specs.declared.expressions.Unary.TheVariants.{Neg, Not, IsNull, IsNotNull}
use Rattle.fq_expr.specs.declared.expressions.Binary.{Binary}
use Rattle.fq_expr.specs.declared.expressions.Binary.TheVariants.{Add, Sub, Mul, FloorDiv, Mod, Eq, Ne, Lt, Le, Gt, Ge, EqMissing, And, Or, FillNull}
use Rattle.fq_expr.specs.Division.{floor_quotient, floor_remainder}
use Rattle.fq_expr.specs.Expression.{Expression, column, null, whole, text, truth, unary, binary}
use Rattle.fq_expr.specs.Followed.{and_both, binary_followed, divided, either, either_of_two, either_with, followed, has_columns, is_as_day, is_null, literal, numbers_of, other_of, part_of_day, product_of, remainder, scales_of_divisor, sum, sum_of_two, unary_followed}
use Rattle.fq_expr.specs.Followed as stands
use Rattle.fq_expr.specs.Homogeneous.{divides_alike, is_homogeneous, is_quotient}
use Rattle.fq_expr.specs.Kleene.{and_table, not_table, or_table}
use Rattle.fq_expr.specs.Value.{binary_value, compared, negated, of_wholes, truth_cell, truth_of, unary_value, unless_zero, value_of}
use Rattle.fq_expr.proofs.FollowedLemmas.{AreHomogeneous, IsOne, OfNumbers, homogeneous-parts, literal-none, one-followed, quotient-alike}

-- ---- division

-- a quotient by a number that is not below 0
quotient-times : (m n : ℕ) (a : ℤ) → 0 < m → int_div_euclid (pos m *ℤ a) (pos (m * n)) ≡ int_div_euclid a (pos n)
quotient-times m n (pos a) above = ap pos (mul-div-mul_left a n above)
quotient-times m n (negsuc a) above =
    let least : m * suc a - 1 ≡ m * a + (m - 1) = omega (arith, above) in
    let rest : (m - 1) / m ≡ 0 = div-eq_of_lt (omega (arith, above)) in
    let first : (m * a + (m - 1)) / m ≡ a = mul-add-div above a (m - 1) ∙ ap (λ x. a + x) rest ∙ omega arith in
    ap (λ z. int_div_euclid z (pos (m * n))) (times-negsuc m above a)
    ∙ ap negsuc (ap (λ x. x / (m * n)) least ∙ sym (div-div-eq-div-mul (m * a + (m - 1)) m n) ∙ ap (λ x. x / n) first)

not-below : (n : ℕ) → int_lt (pos n) (pos 0) ≡ false
not-below n = le-ltb n 0 (omega arith)

module _ (m : ℕ) (above : 0 < m) where
  floor_quotient-times : (a b : ℤ) → floor_quotient (pos m *ℤ a) (pos m *ℤ b) ≡ floor_quotient a b
  floor_quotient-times a (pos n) =
      ap (λ t. cond t (int_div_euclid (neg_ℤ (pos m *ℤ a)) (neg_ℤ (pos (m * n)))) (int_div_euclid (pos m *ℤ a) (pos (m * n)))) (not-below (m * n))
      ∙ quotient-times m n a above
      ∙ sym (ap (λ t. cond t (int_div_euclid (neg_ℤ a) (neg_ℤ (pos n))) (int_div_euclid a (pos n))) (not-below n))
  floor_quotient-times a (negsuc n) =
      let below : neg_ℤ (negsuc (m * suc n - 1)) ≡ pos (m * suc n) = ap neg_ℤ (sym (times-negsuc m above n)) ∙ times-negative m (negsuc n) in
      ap (floor_quotient (pos m *ℤ a)) (times-negsuc m above n)
      ∙ ap (int_div_euclid (neg_ℤ (pos m *ℤ a))) below
      ∙ ap (λ z. int_div_euclid z (pos (m * suc n))) (times-negative m a)
      ∙ quotient-times m (suc n) (neg_ℤ a) above

  floor_remainder-times : (a b : ℤ) → floor_remainder (pos m *ℤ a) (pos m *ℤ b) ≡ pos m *ℤ floor_remainder a b
  floor_remainder-times a b =
      ap (λ q. (pos m *ℤ a) -ℤ ((pos m *ℤ b) *ℤ q)) (floor_quotient-times a b)
      ∙ ap (λ z. (pos m *ℤ a) -ℤ z) (times-first m b (floor_quotient a b))
      ∙ times-difference m a (b *ℤ floor_quotient a b)

  zero-times : (b : ℤ) → int_eq (pos m *ℤ b) (pos 0) ≡ int_eq b (pos 0)
  zero-times b = ap (λ n. int_eq (pos m *ℤ b) (pos n)) (sym (mul-zero m)) ∙ ap is_eq (int_cmp-times m above b (pos 0))

-- ---- operations on two ints

module _ (m n k : ℕ) (f : ℤ → ℤ → Option Cell) (kept : (x y : ℤ) (c : Cell) → f (pos m *ℤ x) (pos n *ℤ y) ≡ Some c → option_map (times k) (f x y) ≡ Some c) where
  of_wholes-times : (a b c : Cell) → of_wholes f (times m a) (times n b) ≡ Some c → option_map (times k) (of_wholes f a b) ≡ Some c
  of_wholes-times cell.Null b c e = e
  of_wholes-times (cell.Whole x) cell.Null c e = e
  of_wholes-times (cell.Whole x) (cell.Whole y) c e = kept x y c e
  of_wholes-times (cell.Whole x) (cell.Text t) c e = e
  of_wholes-times (cell.Whole x) (cell.Truth d) c e = e
  of_wholes-times (cell.Text s) b c e = e
  of_wholes-times (cell.Truth s) b c e = e

  unless_zero-times : 0 < n → (x y : ℤ) (c : Cell) → unless_zero f (pos m *ℤ x) (pos n *ℤ y) ≡ Some c → option_map (times k) (unless_zero f x y) ≡ Some c
  unless_zero-times above x y c e = go (int_eq y (pos 0)) (sym (ap (λ t. cond t (Some cell.Null) (f (pos m *ℤ x) (pos n *ℤ y))) (zero-times n above y)) ∙ e)
    where
      go : (t : Bool) → cond t (Some cell.Null) (f (pos m *ℤ x) (pos n *ℤ y)) ≡ Some c → option_map (times k) (cond t (Some cell.Null) (f x y)) ≡ Some c
      go true h = h
      go false h = kept x y c h

times-one-all : (o : Option Cell) → option_map (times 1) o ≡ o
times-one-all None = refl
times-one-all (Some c) = ap Some (times-one c)

truth_of-times : (m : ℕ) (c : Cell) → truth_of (times m c) ≡ truth_of c
truth_of-times m cell.Null = refl
truth_of-times m (cell.Whole z) = refl
truth_of-times m (cell.Text t) = refl
truth_of-times m (cell.Truth b) = refl

module _ (m : ℕ) (above : 0 < m) where
  add-times : (a b c : Cell) → binary_value Add (times m a) (times m b) ≡ Some c → option_map (times m) (binary_value Add a b) ≡ Some c
  add-times = of_wholes-times m m m (λ x y. fitted (x +ℤ y)) (λ x y c e. fitted-times m above (x +ℤ y) c (ap fitted (sym (times-sum m x y)) ∙ e))

  sub-times : (a b c : Cell) → binary_value Sub (times m a) (times m b) ≡ Some c → option_map (times m) (binary_value Sub a b) ≡ Some c
  sub-times = of_wholes-times m m m (λ x y. fitted (x -ℤ y)) (λ x y c e. fitted-times m above (x -ℤ y) c (ap fitted (sym (times-difference m x y)) ∙ e))

  mod-times : (a b c : Cell) → binary_value Mod (times m a) (times m b) ≡ Some c → option_map (times m) (binary_value Mod a b) ≡ Some c
  mod-times = of_wholes-times m m m (unless_zero rest) (unless_zero-times m m m rest (λ x y c e. ap (λ z. Some (cell.Whole z)) (sym (floor_remainder-times m above x y)) ∙ e) above)
    where
      rest : ℤ → ℤ → Option Cell
      rest x y = Some (cell.Whole (floor_remainder x y))

  quotient-kept : (a b c : Cell) → binary_value FloorDiv (times m a) (times m b) ≡ Some c → option_map (times 1) (binary_value FloorDiv a b) ≡ Some c
  quotient-kept = of_wholes-times m m 1 (unless_zero whole_part) (unless_zero-times m m 1 whole_part (λ x y c e. times-one-all (whole_part x y) ∙ ap fitted (sym (floor_quotient-times m above x y)) ∙ e) above)
    where
      whole_part : ℤ → ℤ → Option Cell
      whole_part x y = fitted (floor_quotient x y)

  mul-times : (n : ℕ) → 0 < m * n → (a b c : Cell) → binary_value Mul (times m a) (times n b) ≡ Some c → option_map (times (m * n)) (binary_value Mul a b) ≡ Some c
  mul-times n both = of_wholes-times m n (m * n) (λ x y. fitted (x *ℤ y)) (λ x y c e. fitted-times (m * n) both (x *ℤ y) c (ap fitted (sym (times-both m n x y)) ∙ e))

  neg-times : (a c : Cell) → negated (times m a) ≡ Some c → option_map (times m) (negated a) ≡ Some c
  neg-times cell.Null c e = e
  neg-times (cell.Whole x) c e = fitted-times m above (neg_ℤ x) c (ap fitted (sym (times-negative m x)) ∙ e)
  neg-times (cell.Text t) c e = e
  neg-times (cell.Truth b) c e = e

  compared-times : (test : Ordering → Bool) (a b : Cell) → compared test (times m a) (times m b) ≡ compared test a b
  compared-times test a b =
      λ i. Some (cond (is_null-times m a i || is_null-times m b i) cell.Null (cell.Truth (test (cell_cmp-times m above a b i))))

  fill-times : (a b c : Cell) → binary_value FillNull (times m a) (times m b) ≡ Some c → option_map (times m) (binary_value FillNull a b) ≡ Some c
  fill-times a b c e = go (cells.is_null a) ∙ ap (λ t. Some (cond t (times m b) (times m a))) (sym (is_null-times m a)) ∙ e
    where
      go : (t : Bool) → Some (times m (cond t b a)) ≡ Some (cond t (times m b) (times m a))
      go true = refl
      go false = refl

-- ---- what does not read a column is not an int

abbrev IsNotWhole : Cell → Type 0
IsNotWhole cell.Null = Unit {0}
IsNotWhole (cell.Whole z) = ⊥
IsNotWhole (cell.Text t) = Unit {0}
IsNotWhole (cell.Truth b) = Unit {0}

not_whole-times : (m : ℕ) (c : Cell) → IsNotWhole c → times m c ≡ c
not_whole-times m cell.Null h = refl
not_whole-times m (cell.Whole z) h = absurd h
not_whole-times m (cell.Text t) h = refl
not_whole-times m (cell.Truth b) h = refl

truth_cell-not_whole : (o : Option Bool) → IsNotWhole (truth_cell o)
truth_cell-not_whole None = tt
truth_cell-not_whole (Some b) = tt

some-not_whole : (c d : Cell) → IsNotWhole c → Some c ≡ Some d → IsNotWhole d
some-not_whole c d h e = subst IsNotWhole (same_Some c d e) h

cond-not_whole : (t : Bool) (c d : Cell) → IsNotWhole c → IsNotWhole d → IsNotWhole (cond t c d)
cond-not_whole true c d g h = g
cond-not_whole false c d g h = h

of_wholes-not_whole : (f : ℤ → ℤ → Option Cell) (a b c : Cell) → IsNotWhole a → of_wholes f a b ≡ Some c → IsNotWhole c
of_wholes-not_whole f cell.Null b c h e = some-not_whole cell.Null c tt e
of_wholes-not_whole f (cell.Whole z) b c h e = absurd h
of_wholes-not_whole f (cell.Text t) b c h e = some-not_whole cell.Null c tt e
of_wholes-not_whole f (cell.Truth t) b c h e = some-not_whole cell.Null c tt e

unary-not_whole : (op : Unary) (a c : Cell) → IsNotWhole a → unary_value op a ≡ Some c → IsNotWhole c
unary-not_whole Neg cell.Null c h e = some-not_whole cell.Null c tt e
unary-not_whole Neg (cell.Whole z) c h e = absurd h
unary-not_whole Neg (cell.Text t) c h e = some-not_whole cell.Null c tt e
unary-not_whole Neg (cell.Truth b) c h e = some-not_whole cell.Null c tt e
unary-not_whole Not a c h e = some-not_whole _ c (truth_cell-not_whole (not_table (truth_of a))) e
unary-not_whole IsNull a c h e = some-not_whole _ c tt e
unary-not_whole IsNotNull a c h e = some-not_whole _ c tt e

compared-not_whole : (test : Ordering → Bool) (a b c : Cell) → compared test a b ≡ Some c → IsNotWhole c
compared-not_whole test a b c e = some-not_whole _ c (cond-not_whole (cells.is_null a || cells.is_null b) cell.Null (cell.Truth (test (cell_cmp a b))) tt tt) e

binary-not_whole : (op : Binary) (a b c : Cell) → IsNotWhole a → IsNotWhole b → binary_value op a b ≡ Some c → IsNotWhole c
binary-not_whole Add a b c g h e = of_wholes-not_whole _ a b c g e
binary-not_whole Sub a b c g h e = of_wholes-not_whole _ a b c g e
binary-not_whole Mul a b c g h e = of_wholes-not_whole _ a b c g e
binary-not_whole FloorDiv a b c g h e = of_wholes-not_whole _ a b c g e
binary-not_whole Mod a b c g h e = of_wholes-not_whole _ a b c g e
binary-not_whole Eq a b c g h e = compared-not_whole is_eq a b c e
binary-not_whole Ne a b c g h e = compared-not_whole is_ne a b c e
binary-not_whole Lt a b c g h e = compared-not_whole is_lt a b c e
binary-not_whole Le a b c g h e = compared-not_whole is_le a b c e
binary-not_whole Gt a b c g h e = compared-not_whole is_gt a b c e
binary-not_whole Ge a b c g h e = compared-not_whole is_ge a b c e
binary-not_whole EqMissing a b c g h e = some-not_whole _ c tt e
binary-not_whole And a b c g h e = some-not_whole _ c (truth_cell-not_whole (and_table (truth_of a) (truth_of b))) e
binary-not_whole Or a b c g h e = some-not_whole _ c (truth_cell-not_whole (or_table (truth_of a) (truth_of b))) e
binary-not_whole FillNull a b c g h e = some-not_whole _ c (cond-not_whole (cells.is_null a) b a h g) e

module _ (fields : Fields) (named : List Named) (row : Row) where
  columnless : (e : Expression) (c : Cell) → is_homogeneous fields named e ≡ true → has_columns e ≡ false → value_of fields e row ≡ Some c → IsNotWhole c
  columnless (column name) c h n v = absurd (true≢false n)
  columnless (null k) c h n v = some-not_whole cell.Null c tt v
  columnless (whole z) c h n v = absurd (true≢false (sym h))
  columnless (text t) c h n v = some-not_whole _ c tt v
  columnless (truth b) c h n v = some-not_whole _ c tt v
  columnless (unary op e) c h n v = option_and_then_some (unary_value op) (value_of fields e row) c v (λ x p q. unary-not_whole op x c (columnless e x h n p) q)
  columnless (binary op d e) c h n v =
      let parts = homogeneous-parts fields named op d e h in
      let none = or_parts (has_columns d) (has_columns e) n in
      option_and_then_some (λ a. option_and_then (binary_value op a) (value_of fields e row)) (value_of fields d row) c v (λ x p q.
      option_and_then_some (binary_value op x) (value_of fields e row) c q (λ y s t.
      binary-not_whole op x y c (columnless d x parts.left none.0 p) (columnless e y parts.right none.1 s) t))

null-columnless : (e : Expression) → is_null e ≡ true → has_columns e ≡ false
null-columnless (column name) h = absurd (true≢false (sym h))
null-columnless (null k) h = refl
null-columnless (whole z) h = refl
null-columnless (text t) h = refl
null-columnless (truth b) h = refl
null-columnless (unary Neg e) h = null-columnless e h
null-columnless (unary Not e) h = absurd (true≢false (sym h))
null-columnless (unary IsNull e) h = absurd (true≢false (sym h))
null-columnless (unary IsNotNull e) h = absurd (true≢false (sym h))
null-columnless (binary op d e) h = absurd (true≢false (sym h))

-- ---- what stands where there is something

numbers_of-some : (o : Option ScaleRange) (f : Followed) → numbers_of o ≡ Some f → (scales : ScaleRange) × (o ≡ Some scales) × (Numbers scales ≡ f)
numbers_of-some None f e = absurd (none-some f e)
numbers_of-some (Some scales) f e = (scales, refl, same_Some (Numbers scales) f e)

other_of-some : (o : Option Followed) (f : Followed) → other_of o ≡ Some f → (g : Followed) × (o ≡ Some g) × (Others ≡ f)
other_of-some None f e = absurd (none-some f e)
other_of-some (Some g) f e = (g, refl, same_Some Others f e)

times-some : (m : ℕ) (o : Option Cell) (c : Cell) → option_map (times m) o ≡ Some c → (d : Cell) × (o ≡ Some d) × (times m d ≡ c)
times-some m None c e = absurd (none-some c e)
times-some m (Some d) c e = (d, refl, same_Some (times m d) c e)

negated-same : (a f : Followed) → stands.negated a ≡ Some f → a ≡ f
negated-same (Numbers a) f e = same_Some (Numbers a) f e
negated-same Days f e = absurd (none-some f e)
negated-same Others f e = absurd (none-some f e)

either_with-same : (a : Followed) (e : Expression) (f : Followed) → either_with a e ≡ Some f → a ≡ f
either_with-same (Numbers a) e f h = same_Some (Numbers a) f h
either_with-same Days e f h = (cond_some (is_as_day e) Days f h).1
either_with-same Others e f h = same_Some Others f h

-- ---- by what the sides of an operation are multiplied

module _ (r : ℕ) where
  abbrev SameFactors : Followed → Followed → Followed → Type 0
  SameFactors a b f = (factor r a ≡ factor r f) × (factor r b ≡ factor r f)

  -- two cells are multiplied as their result is
  abbrev Alike : Followed → Cell → Followed → Cell → Followed → Type 0
  Alike a x b y f = (times (factor r a) x ≡ times (factor r f) x) × (times (factor r b) y ≡ times (factor r f) y)

  one-factor : (a : ScaleRange) (n : ℕ) → a ≡ only n → factor r (Numbers a) ≡ r ^ n
  one-factor a n e = ap (λ scales. factor r (Numbers scales)) e

  common-factors : (a b : ScaleRange) (f : Followed) → IsOne a → IsOne b → numbers_of (common a b) ≡ Some f → SameFactors (Numbers a) (Numbers b) f
  common-factors a b f x y e =
      let s = numbers_of-some (common a b) f e in
      let c = common-only x.0 y.0 s.0 (sym (λ i. common (x.1 i) (y.1 i)) ∙ s.1) in
      let whole : factor r f ≡ r ^ x.0 = sym (ap (factor r) s.2) ∙ one-factor s.0 x.0 c.1 in
      (one-factor a x.0 x.1 ∙ sym whole, one-factor b y.0 y.1 ∙ ap (λ n. r ^ n) (sym c.0) ∙ sym whole)

  sum_of_two-factors : (a b f : Followed) → OfNumbers IsOne (Some a) → OfNumbers IsOne (Some b) → sum_of_two a b ≡ Some f → SameFactors a b f
  sum_of_two-factors (Numbers a) (Numbers b) f x y e = common-factors a b f x y e
  sum_of_two-factors (Numbers a) Days f x y e = absurd (none-some f e)
  sum_of_two-factors (Numbers a) Others f x y e = absurd (none-some f e)
  sum_of_two-factors Days b f x y e = absurd (none-some f e)
  sum_of_two-factors Others b f x y e = absurd (none-some f e)

  either_of_two-factors : (a b f : Followed) → OfNumbers IsOne (Some a) → OfNumbers IsOne (Some b) → either_of_two a b ≡ Some f → SameFactors a b f
  either_of_two-factors (Numbers a) (Numbers b) f x y e = common-factors a b f x y e
  either_of_two-factors (Numbers a) Days f x y e = absurd (none-some f e)
  either_of_two-factors (Numbers a) Others f x y e = absurd (none-some f e)
  either_of_two-factors Days (Numbers b) f x y e = absurd (none-some f e)
  either_of_two-factors Days Days f x y e = (ap (factor r) (same_Some Days f e), ap (factor r) (same_Some Days f e))
  either_of_two-factors Days Others f x y e = absurd (none-some f e)
  either_of_two-factors Others (Numbers b) f x y e = absurd (none-some f e)
  either_of_two-factors Others Days f x y e = absurd (none-some f e)
  either_of_two-factors Others Others f x y e = (ap (factor r) (same_Some Others f e), ap (factor r) (same_Some Others f e))

  -- below, the cells of two sides: that of a side which does not read a column is not an int
  module _ (d e : Expression) (x y : Cell) (left_int : has_columns d ≡ false → IsNotWhole x) (right_int : has_columns e ≡ false → IsNotWhole y) where
    sides-alike : (a b f : Followed) (left right two : Option Followed) → (left ≡ Some f → a ≡ f) → (right ≡ Some f → b ≡ f) → (two ≡ Some f → SameFactors a b f) →
        cond (has_columns d && not (has_columns e)) left (cond (has_columns e && not (has_columns d)) right two) ≡ Some f → Alike a x b y f
    sides-alike a b f left right two left_is right_is both h = go (has_columns d) (has_columns e) left_int right_int h
      where
        unlike : (m n : ℕ) (z : Cell) → IsNotWhole z → times m z ≡ times n z
        unlike m n z k = not_whole-times m z k ∙ sym (not_whole-times n z k)

        of_two : two ≡ Some f → Alike a x b y f
        of_two e = let s = both e in (ap (λ m. times m x) s.0, ap (λ m. times m y) s.1)

        go : (s t : Bool) → (s ≡ false → IsNotWhole x) → (t ≡ false → IsNotWhole y) → cond (s && not t) left (cond (t && not s) right two) ≡ Some f → Alike a x b y f
        go true true g k e = of_two e
        go true false g k e = (ap (λ z. times (factor r z) x) (left_is e), unlike (factor r b) (factor r f) y (k refl))
        go false true g k e = (unlike (factor r a) (factor r f) x (g refl), ap (λ z. times (factor r z) y) (right_is e))
        go false false g k e = of_two e

    sum-alike : (a b f : Followed) → OfNumbers IsOne (Some a) → OfNumbers IsOne (Some b) → sum d a e b ≡ Some f → Alike a x b y f
    sum-alike a b f g k h = sides-alike a b f (stands.negated a) (stands.negated b) (sum_of_two a b) (negated-same a f) (negated-same b f) (sum_of_two-factors a b f g k) h

    either-alike : (a b f : Followed) → OfNumbers IsOne (Some a) → OfNumbers IsOne (Some b) → either d a e b ≡ Some f → Alike a x b y f
    either-alike a b f g k h = sides-alike a b f (either_with a e) (either_with b d) (either_of_two a b) (either_with-same a e f) (either_with-same b d f) (either_of_two-factors a b f g k) h

    -- a part of a day stays, and so does what the day is divided by
    part-alike : (b f : Followed) → literal e ≡ None → OfNumbers IsOne (Some b) → part_of_day e b ≡ Some f → (times (factor r b) y ≡ y) × (factor r f ≡ 1)
    part-alike (Numbers b) f l k h =
        let p = cond_some (is_some (literal e) || is_null e || (has_columns e && is_possible b 0)) (Numbers (only 0)) f h in
        (go (is_null e) (has_columns e) refl right_int (ap (λ o. is_some o || is_null e || (has_columns e && is_possible b 0)) (sym l) ∙ p.0), ap (factor r) (sym p.1) ∙ pow-zero r)
      where
        digits : is_possible b 0 ≡ true → factor r (Numbers b) ≡ 1
        digits t =
            let low : b.least ≤ 0 = leb-true b.least 0 (and_parts (nat_le b.least 0) (nat_le 0 b.most) t).0 in
            let none : k.0 ≡ 0 = omega (arith, low, ap (λ scales. scales.least) k.1) in
            one-factor b k.0 k.1 ∙ ap (λ n. r ^ n) none ∙ pow-zero r

        go : (s t : Bool) → is_null e ≡ s → (t ≡ false → IsNotWhole y) → (s || (t && is_possible b 0)) ≡ true → times (factor r (Numbers b)) y ≡ y
        go true t s n q = not_whole-times (factor r (Numbers b)) y (right_int (null-columnless e s))
        go false true s n q = ap (λ m. times m y) (digits q) ∙ times-one y
        go false false s n q = absurd (true≢false (sym q))
    part-alike Days f l k h = absurd (none-some f h)
    part-alike Others f l k h = absurd (none-some f h)

-- ---- operations

module _ (r : ℕ) (above : 0 < r) where
  factor-above : (f : Followed) → 0 < factor r f
  factor-above (Numbers scales) = go scales.read
    where
      go : (o : Option ℕ) → 0 < option_map_or (λ n. r ^ n) o 1
      go None = omega arith
      go (Some n) = one-le-pow n r above
  factor-above Days = omega arith
  factor-above Others = omega arith

  others-keep : (f : Followed) → Others ≡ f → (o : Option Cell) (c : Cell) → o ≡ Some c → option_map (times (factor r f)) o ≡ Some c
  others-keep f s o c e = ap (λ g. option_map (times (factor r g)) o) (sym s) ∙ times-one-all o ∙ e

  unary-keeps : (op : Unary) (a f : Followed) → unary_followed op a ≡ Some f → (x c : Cell) → unary_value op (times (factor r a) x) ≡ Some c → option_map (times (factor r f)) (unary_value op x) ≡ Some c
  unary-keeps Neg a f h x c v = neg-times (factor r f) (factor-above f) x c (ap (λ g. negated (times (factor r g) x)) (sym (negated-same a f h)) ∙ v)
  unary-keeps Not a f h x c v = others-keep f (same_Some Others f h) _ c (ap (λ t. Some (truth_cell (not_table t))) (sym (truth_of-times (factor r a) x)) ∙ v)
  unary-keeps IsNull a f h x c v = others-keep f (same_Some Others f h) _ c (ap (λ t. Some (cell.Truth t)) (sym (is_null-times (factor r a) x)) ∙ v)
  unary-keeps IsNotNull a f h x c v = others-keep f (same_Some Others f h) _ c (ap (λ t. Some (cell.Truth (not t))) (sym (is_null-times (factor r a) x)) ∙ v)

  -- below, two sides and their cells
  module _ (d e : Expression) (x y : Cell) (left_int : has_columns d ≡ false → IsNotWhole x) (right_int : has_columns e ≡ false → IsNotWhole y) (c : Cell) where
    part-keeps : (op : Binary) (b f : Followed) → literal e ≡ None → OfNumbers IsOne (Some b) → part_of_day e b ≡ Some f →
        binary_value op (times 1 x) (times (factor r b) y) ≡ Some c → option_map (times (factor r f)) (binary_value op x y) ≡ Some c
    part-keeps op b f l k h v =
        let p = part-alike r d e x y left_int right_int b f l k h in
        ap (λ m. option_map (times m) (binary_value op x y)) p.1 ∙ times-one-all (binary_value op x y) ∙ sym (λ i. binary_value op (times-one x i) (p.0 i)) ∙ v

    product-keeps : (a b f : Followed) → OfNumbers IsOne (Some a) → OfNumbers IsOne (Some b) → product_of a b ≡ Some f →
        binary_value Mul (times (factor r a) x) (times (factor r b) y) ≡ Some c → option_map (times (factor r f)) (binary_value Mul x y) ≡ Some c
    product-keeps (Numbers a) (Numbers b) f g k h v =
        let s = numbers_of-some (product a b) f h in
        let p = product-only g.0 k.0 s.0 (sym (λ i. product (g.1 i) (k.1 i)) ∙ s.1) in
        let whole : factor r f ≡ factor r (Numbers a) * factor r (Numbers b) =
        sym (ap (factor r) s.2) ∙ one-factor r s.0 (g.0 + k.0) p ∙ pow-add r g.0 k.0 ∙ sym (λ i. one-factor r a g.0 g.1 i * one-factor r b k.0 k.1 i) in
        ap (λ m. option_map (times m) (binary_value Mul x y)) whole
        ∙ mul-times (factor r (Numbers a)) (factor-above (Numbers a)) (factor r (Numbers b)) (subst (λ m. 0 < m) whole (factor-above f)) x y c v
    product-keeps (Numbers a) Days f g k h v = absurd (none-some f h)
    product-keeps (Numbers a) Others f g k h v = absurd (none-some f h)
    product-keeps Days b f g k h v = absurd (none-some f h)
    product-keeps Others b f g k h v = absurd (none-some f h)

    quotient-keeps : (a b f : Followed) → literal e ≡ None → divides_alike (Some a) (Some b) ≡ true → OfNumbers IsOne (Some a) → OfNumbers IsOne (Some b) → divided a e b ≡ Some f →
        binary_value FloorDiv (times (factor r a) x) (times (factor r b) y) ≡ Some c → option_map (times (factor r f)) (binary_value FloorDiv x y) ≡ Some c
    quotient-keeps (Numbers a) (Numbers b) f l alike g k h v =
        let s = numbers_of-some (quotient a b) f (ap (λ o. numbers_of (quotient a (option_map_or scales_of_divisor o b))) (sym l) ∙ h) in
        let none : factor r f ≡ 1 = sym (ap (factor r) s.2) ∙ one-factor r s.0 0 (quotient-alike a b s.0 g k alike s.1) ∙ pow-zero r in
        let same : g.0 ≡ k.0 = eqb-true g.0 k.0 (sym (λ i. are_read_alike (g.1 i).read (k.1 i).read) ∙ alike) in
        let one : factor r (Numbers a) ≡ factor r (Numbers b) = one-factor r a g.0 g.1 ∙ ap (λ n. r ^ n) same ∙ sym (one-factor r b k.0 k.1) in
        ap (λ m. option_map (times m) (binary_value FloorDiv x y)) none
        ∙ quotient-kept (factor r (Numbers a)) (factor-above (Numbers a)) x y c (ap (λ m. binary_value FloorDiv (times (factor r (Numbers a)) x) (times m y)) one ∙ v)
    quotient-keeps (Numbers a) Days f l alike g k h v = absurd (none-some f h)
    quotient-keeps (Numbers a) Others f l alike g k h v = absurd (none-some f h)
    quotient-keeps Days b f l alike g k h v = part-keeps FloorDiv b f l k h v
    quotient-keeps Others b f l alike g k h v = absurd (none-some f h)

    remainder-keeps : (a b f : Followed) → literal e ≡ None → OfNumbers IsOne (Some a) → OfNumbers IsOne (Some b) → remainder d a e b ≡ Some f →
        binary_value Mod (times (factor r a) x) (times (factor r b) y) ≡ Some c → option_map (times (factor r f)) (binary_value Mod x y) ≡ Some c
    remainder-keeps (Numbers a) b f l g k h v =
        let s = sum-alike r d e x y left_int right_int (Numbers a) b f g k h in
        mod-times (factor r f) (factor-above f) x y c (sym (λ i. binary_value Mod (s.0 i) (s.1 i)) ∙ v)
    remainder-keeps Days b f l g k h v = part-keeps Mod b f l k h v
    remainder-keeps Others b f l g k h v = absurd (none-some f h)

    test-keeps : (test : Ordering → Bool) (a b f : Followed) → OfNumbers IsOne (Some a) → OfNumbers IsOne (Some b) → other_of (either d a e b) ≡ Some f →
        compared test (times (factor r a) x) (times (factor r b) y) ≡ Some c → option_map (times (factor r f)) (compared test x y) ≡ Some c
    test-keeps test a b f g k h v =
        let o = other_of-some (either d a e b) f h in
        let s = either-alike r d e x y left_int right_int a b o.0 g k o.1 in
        others-keep f o.2 (compared test x y) c (sym (compared-times (factor r o.0) (factor-above o.0) test x y) ∙ sym (λ i. compared test (s.0 i) (s.1 i)) ∙ v)

    binary-keeps : (op : Binary) (a b f : Followed) → literal e ≡ None → (is_quotient op ≡ true → divides_alike (Some a) (Some b) ≡ true) → OfNumbers IsOne (Some a) → OfNumbers IsOne (Some b) →
        binary_followed op d a e b ≡ Some f → binary_value op (times (factor r a) x) (times (factor r b) y) ≡ Some c → option_map (times (factor r f)) (binary_value op x y) ≡ Some c
    binary-keeps Add a b f l alike g k h v =
        let s = sum-alike r d e x y left_int right_int a b f g k h in
        add-times (factor r f) (factor-above f) x y c (sym (λ i. binary_value Add (s.0 i) (s.1 i)) ∙ v)
    binary-keeps Sub a b f l alike g k h v =
        let s = sum-alike r d e x y left_int right_int a b f g k h in
        sub-times (factor r f) (factor-above f) x y c (sym (λ i. binary_value Sub (s.0 i) (s.1 i)) ∙ v)
    binary-keeps Mul a b f l alike g k h v = product-keeps a b f g k h v
    binary-keeps FloorDiv a b f l alike g k h v = quotient-keeps a b f l (alike refl) g k h v
    binary-keeps Mod a b f l alike g k h v = remainder-keeps a b f l g k h v
    binary-keeps Eq a b f l alike g k h v = test-keeps is_eq a b f g k h v
    binary-keeps Ne a b f l alike g k h v = test-keeps is_ne a b f g k h v
    binary-keeps Lt a b f l alike g k h v = test-keeps is_lt a b f g k h v
    binary-keeps Le a b f l alike g k h v = test-keeps is_le a b f g k h v
    binary-keeps Gt a b f l alike g k h v = test-keeps is_gt a b f g k h v
    binary-keeps Ge a b f l alike g k h v = test-keeps is_ge a b f g k h v
    binary-keeps EqMissing a b f l alike g k h v =
        let o = other_of-some (either d a e b) f h in
        let s = either-alike r d e x y left_int right_int a b o.0 g k o.1 in
        others-keep f o.2 (binary_value EqMissing x y) c (ap (λ t. Some (cell.Truth t)) (sym (same_cell-times (factor r o.0) (factor-above o.0) x y)) ∙ sym (λ i. binary_value EqMissing (s.0 i) (s.1 i)) ∙ v)
    binary-keeps And a b f l alike g k h v =
        others-keep f (same_Some Others f h) (binary_value And x y) c (sym (λ i. Some (truth_cell (and_table (truth_of-times (factor r a) x i) (truth_of-times (factor r b) y i)))) ∙ v)
    binary-keeps Or a b f l alike g k h v =
        others-keep f (same_Some Others f h) (binary_value Or x y) c (sym (λ i. Some (truth_cell (or_table (truth_of-times (factor r a) x i) (truth_of-times (factor r b) y i)))) ∙ v)
    binary-keeps FillNull a b f l alike g k h v =
        let s = either-alike r d e x y left_int right_int a b f g k h in
        fill-times (factor r f) (factor-above f) x y c (sym (λ i. binary_value FillNull (s.0 i) (s.1 i)) ∙ v)

  -- ---- expressions

  module _ (fields : Fields) (named : List Named) (row : Row) where
    pub value-keeps : (e : Expression) (f : Followed) (c : Cell) → is_homogeneous fields named e ≡ true → followed fields named e ≡ Some f →
        value_of fields e (rescaled r fields named row) ≡ Some c → option_map (times (factor r f)) (value_of fields e row) ≡ Some c
    value-keeps (column name) f c h s v =
        ap (λ g. Some (times (factor r g) (value_named fields name row))) (sym (same_Some (column_followed fields named name) f s))
        ∙ ap Some (sym (value_named-times (λ n. factor r (column_followed fields named n)) fields name row)) ∙ v
    value-keeps (null k) f c h s v = v
    value-keeps (whole z) f c h s v = absurd (true≢false (sym h))
    value-keeps (text t) f c h s v = v
    value-keeps (truth b) f c h s v = v
    value-keeps (unary op e) f c h s v = go (λ a x p w. value-keeps e a x h p w) (followed fields named e) refl s
      where
        go : ((a : Followed) (x : Cell) → followed fields named e ≡ Some a → value_of fields e (rescaled r fields named row) ≡ Some x → option_map (times (factor r a)) (value_of fields e row) ≡ Some x) →
            (o : Option Followed) → followed fields named e ≡ o → elim o [ None ↦ None | Some a ↦ unary_followed op a ] ≡ Some f → option_map (times (factor r f)) (option_and_then (unary_value op) (value_of fields e row)) ≡ Some c
        go part None p q = absurd (none-some f q)
        go part (Some a) p q = option_and_then_some (unary_value op) (value_of fields e (rescaled r fields named row)) c v (λ x w t.
            let b = times-some (factor r a) (value_of fields e row) x (part a x p w) in
            ap (λ o. option_map (times (factor r f)) (option_and_then (unary_value op) o)) b.1 ∙ unary-keeps op a f q b.0 c (ap (unary_value op) b.2 ∙ t))
    value-keeps (binary op d e) f c h s v =
        let parts = homogeneous-parts fields named op d e h in
        go parts (λ a x p w. value-keeps d a x parts.left p w) (λ b y p w. value-keeps e b y parts.right p w) (followed fields named d) (followed fields named e) refl refl s
      where
        go : AreHomogeneous fields named op d e →
            ((a : Followed) (x : Cell) → followed fields named d ≡ Some a → value_of fields d (rescaled r fields named row) ≡ Some x → option_map (times (factor r a)) (value_of fields d row) ≡ Some x) →
            ((b : Followed) (y : Cell) → followed fields named e ≡ Some b → value_of fields e (rescaled r fields named row) ≡ Some y → option_map (times (factor r b)) (value_of fields e row) ≡ Some y) →
            (o p : Option Followed) → followed fields named d ≡ o → followed fields named e ≡ p → and_both o p (λ a b. binary_followed op d a e b) ≡ Some f →
            option_map (times (factor r f)) (option_and_then (λ a. option_and_then (binary_value op a) (value_of fields e row)) (value_of fields d row)) ≡ Some c
        go parts left right None p i j q = absurd (none-some f q)
        go parts left right (Some a) None i j q = absurd (none-some f q)
        go parts left right (Some a) (Some b) i j q =
            option_and_then_some (λ x. option_and_then (binary_value op x) (value_of fields e (rescaled r fields named row))) (value_of fields d (rescaled r fields named row)) c v (λ x w t.
            option_and_then_some (binary_value op x) (value_of fields e (rescaled r fields named row)) c t (λ y u z.
            let m = times-some (factor r a) (value_of fields d row) x (left a x i w) in
            let n = times-some (factor r b) (value_of fields e row) y (right b y j u) in
            let before : option_and_then (λ a. option_and_then (binary_value op a) (value_of fields e row)) (value_of fields d row) ≡ binary_value op m.0 n.0 =
            λ k. option_and_then (λ a. option_and_then (binary_value op a) (n.1 k)) (m.1 k) in
            ap (option_map (times (factor r f))) before
            ∙ binary-keeps d e m.0 n.0 (λ none. columnless fields named row d m.0 parts.left none m.1) (λ none. columnless fields named row e n.0 parts.right none n.1) c op a b f (literal-none fields named e parts.right)
            (λ k. sym (λ t. divides_alike (i t) (j t)) ∙ parts.alike k)
            (subst (OfNumbers IsOne) i (one-followed fields named d parts.left)) (subst (OfNumbers IsOne) j (one-followed fields named e parts.right)) q ((λ k. binary_value op (m.2 k) (n.2 k)) ∙ z)))
