-- Ints that are multiplied by a number: their sums and products, and, if the number is above 0, their order and whether they fit.
use Rattle.std.proofs.Common.{◌≡◌, ◌∙◌, ◌*◌, ◌^◌, ◌<◌, ◌-◌, ℕ, zero, suc, ℤ, pos, negsuc, neg_ℤ, ◌+ℤ◌, ◌-ℤ◌, ◌*ℤ◌, ◌<ℤ◌, [], ◌∷◌, Bool, true, false, cond, Option, Some, None, Ordering, Less, Equal, Greater, ap, arith, refl, sym, int_cmp, is_eq, option_map, ltb-true, lt-ltb, mul-lt-mul_of_pos_right, le-mul_of_pos_right}
use lib.IntN.{*ℤ_comm}
use borrow.Author.Differences.{up, down, lt_out, product_is, same_in, sum_is_lem}
use Rattle.std.specs.Option.{option_map_or}
use Rattle.std.specs.Ordering.{MatchOrdering}
use Rattle.std.specs.Cmp.{int_cmp_is, int_ranks}
use Rattle.std.specs.Cmp.Lexicographic.{bytes_decides}
use Rattle.std.proofs.lemmas.Int.{ints}
use Rattle.std.proofs.lemmas.Option.{cond_some}
use Rattle.fq_column.specs.declared.cells.Cell.{Cell}
use Rattle.fq_column.specs.declared.cells.Cell.TheVariants.{Null, Whole, Text, Truth}
use Rattle.fq_column.specs.Cell.{cell_cmp, fits, fitted, is_null, same_cell}
use Rattle.fq_column.specs.Frame.{Field, Fields, Name, Row, names_of, position_of, same_name, value_at, value_named}
use Rattle.fq_column.specs.Lists.{zip_with}
use Rattle.fq_column.proofs.AgreementLemmas.{value_named-cons}
use Rattle.fq_notation.specs.Multiplied.{times}

-- ---- sums and products

module _ (m : ℕ) where
  pub times-sum : (a b : ℤ) → (pos m *ℤ a) +ℤ (pos m *ℤ b) ≡ pos m *ℤ (a +ℤ b)
  times-sum a b = let e = ap (λ x. m * x) (sum_is_lem a b) in omega (arith, ints, e)

  pub times-negative : (a : ℤ) → neg_ℤ (pos m *ℤ a) ≡ pos m *ℤ neg_ℤ a
  times-negative (pos zero) = omega (arith, ints)
  times-negative (pos (suc n)) = refl
  times-negative (negsuc n) = omega (arith, ints)

  pub times-difference : (a b : ℤ) → (pos m *ℤ a) -ℤ (pos m *ℤ b) ≡ pos m *ℤ (a -ℤ b)
  times-difference a b = ap (λ z. (pos m *ℤ a) +ℤ z) (times-negative b) ∙ times-sum a (neg_ℤ b)

  -- a product whose first factor is multiplied
  pub times-first : (a b : ℤ) → (pos m *ℤ a) *ℤ b ≡ pos m *ℤ (a *ℤ b)
  times-first a b =
      let first = product_is (pos m) a in
      let both = product_is a b in
      let left = product_is (pos m *ℤ a) b in
      let right = product_is (pos m) (a *ℤ b) in
      let by = λ (k x y : ℕ) (e : x ≡ y). ap (λ z. z * k) e in
      same_in _ _ (omega (arith, left, right, by (up b) _ _ first.0, by (down b) _ _ first.0, by (up b) _ _ first.1, by (down b) _ _ first.1, by m _ _ both.0, by m _ _ both.1))

-- a product whose factors are both multiplied
pub times-both : (m n : ℕ) (a b : ℤ) → (pos m *ℤ a) *ℤ (pos n *ℤ b) ≡ pos (m * n) *ℤ (a *ℤ b)
times-both m n a b =
    times-first m a (pos n *ℤ b)
    ∙ ap (λ z. pos m *ℤ z) (*ℤ_comm a (pos n *ℤ b) ∙ times-first n b a ∙ ap (λ z. pos n *ℤ z) (*ℤ_comm b a))
    ∙ sym (times-first m (pos n) (a *ℤ b))

pub times-one : (c : Cell) → times 1 c ≡ c
times-one Null = refl
times-one (Whole z) = ap Whole (omega (arith, ints))
times-one (Text t) = refl
times-one (Truth b) = refl

pub is_null-times : (m : ℕ) (c : Cell) → is_null (times m c) ≡ is_null c
is_null-times m Null = refl
is_null-times m (Whole z) = refl
is_null-times m (Text t) = refl
is_null-times m (Truth b) = refl

-- ---- by a number above 0

module _ (m : ℕ) (above : 0 < m) where
  pub below-times : (a b : ℤ) → a <ℤ b → (pos m *ℤ a) <ℤ (pos m *ℤ b)
  below-times a b h = let e = mul-lt-mul_of_pos_right (lt_out a b h) above in omega (arith, ints, e)

  pub int_cmp-times : (a b : ℤ) → int_cmp (pos m *ℤ a) (pos m *ℤ b) ≡ int_cmp a b
  int_cmp-times a b = sym (int_cmp_is (pos m *ℤ a) (pos m *ℤ b) (int_cmp a b) (kept (int_cmp a b) (int_ranks a b)))
    where
      kept : (r : Ordering) → MatchOrdering r (a <ℤ b) (a ≡ b) (b <ℤ a) → MatchOrdering r ((pos m *ℤ a) <ℤ (pos m *ℤ b)) (pos m *ℤ a ≡ pos m *ℤ b) ((pos m *ℤ b) <ℤ (pos m *ℤ a))
      kept Less h = below-times a b h
      kept Equal h = ap (λ z. pos m *ℤ z) h
      kept Greater h = below-times b a h

  pub cell_cmp-times : (a b : Cell) → cell_cmp (times m a) (times m b) ≡ cell_cmp a b
  cell_cmp-times Null Null = refl
  cell_cmp-times Null (Whole y) = refl
  cell_cmp-times Null (Text t) = refl
  cell_cmp-times Null (Truth d) = refl
  cell_cmp-times (Whole x) Null = refl
  cell_cmp-times (Whole x) (Whole y) = int_cmp-times x y
  cell_cmp-times (Whole x) (Text t) = refl
  cell_cmp-times (Whole x) (Truth d) = refl
  cell_cmp-times (Text s) Null = refl
  cell_cmp-times (Text s) (Whole y) = refl
  cell_cmp-times (Text s) (Text t) = refl
  cell_cmp-times (Text s) (Truth d) = refl
  cell_cmp-times (Truth b) Null = refl
  cell_cmp-times (Truth b) (Whole y) = refl
  cell_cmp-times (Truth b) (Text t) = refl
  cell_cmp-times (Truth b) (Truth d) = refl

  pub same_cell-times : (a b : Cell) → same_cell (times m a) (times m b) ≡ same_cell a b
  same_cell-times Null Null = refl
  same_cell-times Null (Whole y) = refl
  same_cell-times Null (Text t) = refl
  same_cell-times Null (Truth d) = refl
  same_cell-times (Whole x) Null = refl
  same_cell-times (Whole x) (Whole y) = ap is_eq (int_cmp-times x y)
  same_cell-times (Whole x) (Text t) = refl
  same_cell-times (Whole x) (Truth d) = refl
  same_cell-times (Text s) Null = refl
  same_cell-times (Text s) (Whole y) = refl
  same_cell-times (Text s) (Text t) = refl
  same_cell-times (Text s) (Truth d) = refl
  same_cell-times (Truth b) Null = refl
  same_cell-times (Truth b) (Whole y) = refl
  same_cell-times (Truth b) (Text t) = refl
  same_cell-times (Truth b) (Truth d) = refl

  pub times-negsuc : (n : ℕ) → pos m *ℤ negsuc n ≡ negsuc (m * suc n - 1)
  times-negsuc n = omega (arith, ints, above, le-mul_of_pos_right (suc n) above)

  -- what fits if it is multiplied fits
  pub fits-times : (z : ℤ) → fits (pos m *ℤ z) ≡ true → fits z ≡ true
  fits-times (pos n) e = lt-ltb n (2 ^ 63) (omega (arith, ltb-true (m * n) (2 ^ 63) e, le-mul_of_pos_right n above))
  fits-times (negsuc n) e =
      let f : fits (negsuc (m * suc n - 1)) ≡ true = ap fits (sym (times-negsuc n)) ∙ e in
      lt-ltb n (2 ^ 63) (omega (arith, ltb-true (m * suc n - 1) (2 ^ 63) f, le-mul_of_pos_right (suc n) above))

  pub fitted-times : (z : ℤ) (c : Cell) → fitted (pos m *ℤ z) ≡ Some c → option_map (times m) (fitted z) ≡ Some c
  fitted-times z c e =
      let p = cond_some (fits (pos m *ℤ z)) (Whole (pos m *ℤ z)) c e in
      ap (λ t. option_map (times m) (cond t (Some (Whole z)) None)) (fits-times z p.0) ∙ ap Some p.1

-- ---- rows

-- the value under a name, in a row whose cells are multiplied each by a number of its name
pub value_named-times : (m : Name → ℕ) (fields : Fields) (n : Name) (row : Row) →
    value_named fields n (zip_with (λ (f : Field) c. times (m f.0) c) fields row) ≡ times (m n) (value_named fields n row)
value_named-times m [] n row = refl
value_named-times m (f ∷ fields) n [] = none (position_of n (names_of (f ∷ fields)))
  where
    none : (o : Option ℕ) → option_map_or (λ i. value_at i []) o Null ≡ times (m n) (option_map_or (λ i. value_at i []) o Null)
    none None = refl
    none (Some i) = refl
value_named-times m (f ∷ fields) n (c ∷ row) =
    value_named-cons f fields n (times (m f.0) c) (zip_with (λ (g : Field) d. times (m g.0) d) fields row)
    ∙ go (same_name n f.0) refl (value_named-times m fields n row) ∙ sym (ap (times (m n)) (value_named-cons f fields n c row))
  where
    go : (b : Bool) → same_name n f.0 ≡ b → value_named fields n (zip_with (λ (g : Field) d. times (m g.0) d) fields row) ≡ times (m n) (value_named fields n row) →
        cond b (times (m f.0) c) (value_named fields n (zip_with (λ (g : Field) d. times (m g.0) d) fields row)) ≡ times (m n) (cond b c (value_named fields n row))
    go true s rest = ap (λ name. times (m name) c) (sym ((bytes_decides n f.0).0 s))
    go false s rest = rest
