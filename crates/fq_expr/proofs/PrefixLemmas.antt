-- The values before the first that is missing, under the operations of an expression.
use Rattle.std.proofs.Common.{◌≡◌, ℕ, zero, suc, ◌≤◌, not, cond, nat_lt, List, [], ◌∷◌, length, map, take, replicate, refl, ap, sym, ◌∙◌, arith, Option, Some, None}
use Rattle.std.specs.Prelude.{option_and_then}
use Rattle.std.specs.Option.{is_none, option_copied}
use Rattle.std.specs.List.{prefix_len}
use Rattle.fq_column.specs.Lists.{before_missing, first_missing, zip_with}
use Rattle.fq_column.specs.declared.cells.Cell.{Cell}
use Rattle.fq_column.specs.declared.cells.Cell.TheVariants as cell
use Rattle.fq_column.specs.Column.{nullable}
use Rattle.fq_expr.specs.declared.operands.Operand.{Operand}
use Rattle.fq_expr.specs.declared.operands.Operand.TheVariants.{Borrowed, Owned, Scalar}
use Rattle.fq_expr.specs.declared.operands.AnyOperand.{AnyOperand}
use Rattle.fq_expr.specs.declared.operands.AnyOperand.TheVariants.{Whole, Text, Truth}
use Rattle.fq_expr.specs.Operand.{HasRows, AnyHasRows, cells_in, cells_in_rows}

-- ---- lists of which none is missing

pub before_missing-all : {X Y : Type 0} (f : X → Y) (xs : List X) → before_missing (map (λ x. Some (f x)) xs) ≡ map f xs
before_missing-all f [] = refl
before_missing-all f (x ∷ xs) = ap (λ l. f x ∷ l) (before_missing-all f xs)

pub map-constant : {X Y : Type 0} (y : Y) (xs : List X) → map (λ x. y) xs ≡ replicate (length xs) y
map-constant y [] = refl
map-constant y (x ∷ xs) = ap (λ l. y ∷ l) (map-constant y xs)

pub before_missing-constant : {X Y : Type 0} (y : Y) (n : ℕ) (xs : List X) → length xs ≡ n → replicate n y ≡ before_missing (map (λ x. Some y) xs)
before_missing-constant y n xs e = sym (before_missing-all (λ x. y) xs ∙ map-constant y xs ∙ ap (λ k. replicate k y) e)

-- ---- an operation on the values of its parts

pub before_missing-one : {R A B : Type 0} (f : A → Option B) (g : R → Option A) (rs : List R) → before_missing (map f (before_missing (map g rs))) ≡ before_missing (map (λ r. option_and_then f (g r)) rs)
before_missing-one f g [] = refl
before_missing-one {R} {A} {B} f g (r ∷ rs) = elim (g r) as (λ o. before_missing (map f (before_missing (o ∷ map g rs))) ≡ before_missing (option_and_then f o ∷ map (λ r. option_and_then f (g r)) rs)) [
  | None ↦ refl
  | Some a ↦ elim (f a) as (λ o. before_missing (o ∷ map f (before_missing (map g rs))) ≡ before_missing (o ∷ map (λ r. option_and_then f (g r)) rs))
      [ None ↦ refl | Some b ↦ ap (λ l. b ∷ l) (before_missing-one f g rs) ]
]

-- the right part is evaluated on the rows that the left part has values for
pub before_missing-two : {R A B C : Type 0} (f : A → B → Option C) (g : R → Option A) (h : R → Option B) (rs : List R) →
    before_missing (zip_with f (take (length (before_missing (map h (take (length (before_missing (map g rs))) rs)))) (before_missing (map g rs))) (before_missing (map h (take (length (before_missing (map g rs))) rs))))
    ≡ before_missing (map (λ r. option_and_then (λ a. option_and_then (f a) (h r)) (g r)) rs)
before_missing-two f g h [] = refl
before_missing-two {R} {A} {B} {C} f g h (r ∷ rs) = elim (g r) as (λ o.
    before_missing (zip_with f (take (length (before_missing (map h (take (length (before_missing (o ∷ map g rs))) (r ∷ rs))))) (before_missing (o ∷ map g rs))) (before_missing (map h (take (length (before_missing (o ∷ map g rs))) (r ∷ rs)))))
    ≡ before_missing (option_and_then (λ a. option_and_then (f a) (h r)) o ∷ map (λ r. option_and_then (λ a. option_and_then (f a) (h r)) (g r)) rs)) [
      | None ↦ refl
      | Some a ↦ elim (h r) as (λ o.
          before_missing (zip_with f (take (length (before_missing (o ∷ map h (take (length (before_missing (map g rs))) rs)))) (a ∷ before_missing (map g rs))) (before_missing (o ∷ map h (take (length (before_missing (map g rs))) rs))))
          ≡ before_missing (option_and_then (f a) o ∷ map (λ r. option_and_then (λ a. option_and_then (f a) (h r)) (g r)) rs)) [
            | None ↦ refl
            | Some b ↦ elim (f a b) as (λ o.
                before_missing (o ∷ zip_with f (take (length (before_missing (map h (take (length (before_missing (map g rs))) rs)))) (before_missing (map g rs))) (before_missing (map h (take (length (before_missing (map g rs))) rs))))
                ≡ before_missing (o ∷ map (λ r. option_and_then (λ a. option_and_then (f a) (h r)) (g r)) rs))
                [ None ↦ refl | Some c ↦ ap (λ l. c ∷ l) (before_missing-two f g h rs) ]
          ]
    ]

-- ---- how many there are

pub length-before_missing : {X : Type 0} (xs : List (Option X)) → length (before_missing xs) ≤ length xs
length-before_missing [] = omega arith
length-before_missing (None ∷ xs) = omega arith
length-before_missing (Some x ∷ xs) = omega (arith, length-before_missing xs)

prefix_len-before_missing : {X : Type 0} (xs : List (Option X)) → prefix_len (λ x. not (is_none x)) xs ≡ length (before_missing xs)
prefix_len-before_missing [] = refl
prefix_len-before_missing (None ∷ xs) = refl
prefix_len-before_missing (Some x ∷ xs) = omega (arith, prefix_len-before_missing xs)

-- the first that is missing stands after those before it
pub first_missing-is : {X : Type 0} (xs : List (Option X)) → (let none : Option ℕ = None in cond (nat_lt (length (before_missing xs)) (length xs)) (Some (length (before_missing xs))) none) ≡ first_missing xs
first_missing-is xs = ap (λ n. let none : Option ℕ = None in cond (nat_lt n (length xs)) (Some n) none) (sym (prefix_len-before_missing xs))

-- ---- operands in fewer rows

pub take-take-le : {X : Type 0} (n m : ℕ) (xs : List X) → n ≤ m → take n (take m xs) ≡ take n xs
take-take-le zero m xs h = refl
take-take-le (suc n) zero xs h = absurd (omega (arith, h))
take-take-le (suc n) (suc m) [] h = refl
take-take-le (suc n) (suc m) (x ∷ xs) h = ap (λ l. x ∷ l) (take-take-le n m xs (omega (arith, h)))

pub take-replicate-le : {X : Type 0} (n m : ℕ) (x : X) → n ≤ m → take n (replicate m x) ≡ replicate n x
take-replicate-le zero m x h = refl
take-replicate-le (suc n) zero x h = absurd (omega (arith, h))
take-replicate-le (suc n) (suc m) x h = ap (λ l. x ∷ l) (take-replicate-le n m x (omega (arith, h)))

pub map-take : {X Y : Type 0} (f : X → Y) (n : ℕ) (xs : List X) → map f (take n xs) ≡ take n (map f xs)
map-take f zero xs = refl
map-take f (suc n) [] = refl
map-take f (suc n) (x ∷ xs) = ap (λ l. f x ∷ l) (map-take f n xs)

module _ {T : Type 0} (make : T → Cell) where
  cells_in-take : (n m : ℕ) (o : Operand T) → n ≤ m → cells_in make n o ≡ take n (cells_in make m o)
  cells_in-take n m (Borrowed a) h = ap (map (nullable make)) (sym (take-take-le n m a.now h)) ∙ map-take (nullable make) n (take m a.now)
  cells_in-take n m (Owned a) h = ap (map (nullable make)) (sym (take-take-le n m a h)) ∙ map-take (nullable make) n (take m a)
  cells_in-take n m (Scalar x) h = ap (map (nullable make)) (sym (take-replicate-le n m (option_copied x) h)) ∙ map-take (nullable make) n (replicate m (option_copied x))

pub cells_in_rows-take : (n m : ℕ) (o : AnyOperand) → n ≤ m → cells_in_rows n o ≡ take n (cells_in_rows m o)
cells_in_rows-take n m (Whole o) h = cells_in-take cell.Whole n m o h
cells_in_rows-take n m (Text o) h = cells_in-take cell.Text n m o h
cells_in_rows-take n m (Truth o) h = cells_in-take cell.Truth n m o h

HasRows-le : {T : Type 0} (n m : ℕ) (o : Operand T) → n ≤ m → HasRows m o → HasRows n o
HasRows-le n m (Borrowed a) h k = omega (arith, h, k)
HasRows-le n m (Owned a) h k = omega (arith, h, k)
HasRows-le n m (Scalar x) h k = tt

pub AnyHasRows-le : (n m : ℕ) (o : AnyOperand) → n ≤ m → AnyHasRows m o → AnyHasRows n o
AnyHasRows-le n m (Whole o) h k = HasRows-le n m o h k
AnyHasRows-le n m (Text o) h k = HasRows-le n m o h k
AnyHasRows-le n m (Truth o) h k = HasRows-le n m o h k
