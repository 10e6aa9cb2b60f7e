-- Operations on cells: one operand as a constant, and operands of a kind.
use Rattle.std.proofs.Common.{◌≡◌, ℕ, zero, suc, Bool, true, false, List, [], ◌∷◌, length, map, replicate, refl, ap, ◌∙◌, arith, Option, Some, None, ℤ, pos, neg_ℤ, ◌-ℤ◌}
use Rattle.std.proofs.lemmas.Int.{ints}
use Rattle.fq_column.specs.declared.cells.Cell.{Cell}
use Rattle.fq_column.specs.declared.cells.Cell.TheVariants as cell
use Rattle.fq_column.specs.declared.cells.Kind.{Kind}
use Rattle.fq_column.specs.declared.cells.Kind.TheVariants as kind
use Rattle.fq_column.specs.Cell.{fitted}
use Rattle.std.specs.Prelude.{Result, Ok, Err, IfOk, IsOk}
use Rattle.fq_column.specs.declared.columns.Values.{Values}
use Rattle.fq_column.specs.declared.faults.Memory.{Memory}
use Rattle.fq_column.specs.Column.{cells_of, nullable}
use Rattle.fq_column.specs.Lists.{before_missing, zip_with}
use Rattle.fq_expr.specs.declared.comparison.Comparison.{Comparison}
use Rattle.fq_expr.specs.declared.expressions.Unary.TheVariants.{Neg, Not, IsNull, IsNotNull}
use Rattle.fq_expr.specs.declared.operands.AnyOperand.{AnyOperand}
use Rattle.fq_expr.specs.declared.operands.AnyOperand.TheVariants.{Whole, Text, Truth}
use Rattle.fq_expr.specs.Comparison.{answer_for, sameness_of}
use Rattle.fq_expr.specs.Kinds.{unary_kind}
use Rattle.fq_expr.specs.Operand.{AnyHasRows, cells_in_rows, kind_in_rows, first_values}
use Rattle.fq_expr.specs.Value.{of_wholes, compared, unary_value}
use Rattle.fq_expr.proofs.OperandLemmas.{length-cells_in}

pub map-replicate : {X Y : Type 0} (f : X → Y) (n : ℕ) (x : X) → map f (replicate n x) ≡ replicate n (f x)
map-replicate f zero x = refl
map-replicate f (suc n) x = ap (λ l. f x ∷ l) (map-replicate f n x)

pub length-cells_in_rows : (n : ℕ) (o : AnyOperand) → AnyHasRows n o → length (cells_in_rows n o) ≡ n
length-cells_in_rows n (Whole o) h = length-cells_in cell.Whole n o h
length-cells_in_rows n (Text o) h = length-cells_in cell.Text n o h
length-cells_in_rows n (Truth o) h = length-cells_in cell.Truth n o h

-- a list with one constant beside it
pub zip_with-left : {X Y Z : Type 0} (f : X → Y → Z) (g : Y → Z) (x : X) (ys : List Y) (n : ℕ) → ((y : Y) → f x y ≡ g y) → length ys ≡ n → zip_with f (replicate n x) ys ≡ map g ys
zip_with-left f g x [] zero h e = refl
zip_with-left f g x [] (suc n) h e = absurd (omega (arith, e))
zip_with-left f g x (y ∷ ys) zero h e = absurd (omega (arith, e))
zip_with-left f g x (y ∷ ys) (suc n) h e = λ i. h y i ∷ zip_with-left f g x ys n h (omega (arith, e)) i

pub zip_with-right : {X Y Z : Type 0} (f : X → Y → Z) (g : X → Z) (y : Y) (xs : List X) (n : ℕ) → ((x : X) → f x y ≡ g x) → length xs ≡ n → zip_with f xs (replicate n y) ≡ map g xs
zip_with-right f g y [] zero h e = refl
zip_with-right f g y [] (suc n) h e = refl
zip_with-right f g y (x ∷ xs) zero h e = absurd (omega (arith, e))
zip_with-right f g y (x ∷ xs) (suc n) h e = λ i. h x i ∷ zip_with-right f g y xs n h (omega (arith, e)) i

zip_with-right-map : {X Y Z W : Type 0} (f : X → Y → Z) (g : X → Z) (k : W → X) (y : Y) (ws : List W) (n : ℕ) → ((w : W) → f (k w) y ≡ g (k w)) → length (map k ws) ≡ n → zip_with f (map k ws) (replicate n y) ≡ map g (map k ws)
zip_with-right-map f g k y [] n h e = refl
zip_with-right-map f g k y (w ∷ ws) zero h e = absurd (omega (arith, e))
zip_with-right-map f g k y (w ∷ ws) (suc n) h e = λ i. h w i ∷ zip_with-right-map f g k y ws n h (omega (arith, e)) i

-- a negation is the difference from 0
from_zero : (a : ℤ) → pos 0 -ℤ a ≡ neg_ℤ a
from_zero a = omega (arith, ints)

pub negation : (c : Cell) → of_wholes (λ a b. fitted (a -ℤ b)) (cell.Whole (pos 0)) c ≡ unary_value Neg c
negation cell.Null = refl
negation (cell.Whole a) = ap fitted (from_zero a)
negation (cell.Text t) = refl
negation (cell.Truth b) = refl

-- not is equal to false
opposite : (v : Option Bool) → compared (answer_for (let t : Comparison = record { less = false; equal = true; greater = false } in t)) (nullable cell.Truth v) (cell.Truth false) ≡ unary_value Not (nullable cell.Truth v)
opposite None = refl
opposite (Some true) = refl
opposite (Some false) = refl

pub not-equal : (n : ℕ) (o : AnyOperand) → kind_in_rows o ≡ kind.Truth → AnyHasRows n o →
    zip_with (compared (answer_for (let t : Comparison = record { less = false; equal = true; greater = false } in t))) (cells_in_rows n o) (replicate n (cell.Truth false)) ≡ map (unary_value Not) (cells_in_rows n o)
not-equal n (Whole o) k h = absurd (cc)
not-equal n (Text o) k h = absurd (cc)
not-equal n (Truth o) k h = zip_with-right-map _ (unary_value Not) (nullable cell.Truth) (cell.Truth false) (first_values n o) n opposite (length-cells_in cell.Truth n o h)

-- null is the same as null alone
pub null-same : (c : Cell) → sameness_of true c cell.Null ≡ unary_value IsNull c
null-same cell.Null = refl
null-same (cell.Whole a) = refl
null-same (cell.Text t) = refl
null-same (cell.Truth b) = refl

pub null-differs : (c : Cell) → sameness_of false c cell.Null ≡ unary_value IsNotNull c
null-differs cell.Null = refl
null-differs (cell.Whole a) = refl
null-differs (cell.Text t) = refl
null-differs (cell.Truth b) = refl

-- values whose cells are those of an equal list
pub same-cells : (r : Result Values Memory) (xs ys : List (Option Cell)) → xs ≡ ys → IfOk r (λ v. (cells_of v).cells ≡ before_missing xs) → IfOk r (λ v. (cells_of v).cells ≡ before_missing ys)
same-cells (Ok v) xs ys e h = h ∙ ap before_missing e
same-cells (Err m) xs ys e h = h

-- the operand of a `not` that is not refused
pub truth-operand : (k : Kind) → IsOk (unary_kind Not k) → k ≡ kind.Truth
truth-operand kind.Whole h = absurd (cc)
truth-operand kind.Text h = absurd (cc)
truth-operand kind.Truth h = refl
