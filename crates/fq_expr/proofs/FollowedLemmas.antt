-- The scales of expressions: one that is read is the only one, and one is read if there are no literal numbers and each quotient is of one scale.
use Rattle.std.proofs.Common.{◌≡◌, ◌∙◌, ◌+◌, ◌^◌, ℕ, Bool, true, false, cond, List, Option, Some, None, Ok, Err, Result, is_some, ap, refl, sym, subst, nat_abs, nat_lt, true≢false, eqb-true}
use Rattle.std.specs.Prelude.{◌&&◌, ◌||◌, ◌==◌, not}
use Rattle.std.specs.Option.{option_map_or}
use Rattle.std.proofs.lemmas.Bool.{and_parts}
use Rattle.fq_column.specs.declared.cells.Kind.{Kind}
use Rattle.fq_column.specs.declared.cells.Kind.TheVariants as kind
use Rattle.fq_column.specs.declared.faults.StepFault.{StepFault}
use Rattle.fq_column.specs.Frame.{Fields, Name}
use Rattle.fq_column.specs.Schema.{kind_named}
use Rattle.fq_notation.specs.Naming.{column_followed, of_column}
use Rattle.fq_notation.specs.Notation.{Named, notation_named}
use Rattle.fq_notation.specs.Scales.{ScaleRange, are_read_alike, common, only, product, quotient, up_to}
use Rattle.fq_notation.specs.declared.followed.Followed.{Followed}
use Rattle.fq_notation.specs.declared.followed.Followed.TheVariants.{Numbers, Days, Others}
use Rattle.fq_notation.specs.declared.notations.Notation.{Notation}
use Rattle.fq_notation.specs.declared.notations.Notation.TheVariants.{Plain, Decimal, Date}
use Rattle.fq_notation.proofs.ScaleLemmas.{IsReadAlone, alone-common, alone-only, alone-product, alone-quotient, alone-up_to, common-only, product-only, quotient-only}
use Rattle.fq_expr.specs.declared.expressions.Unary.{Unary}
use Rattle.fq_expr.specs.declared.expressions.Unary.TheVariants.{Neg, Not, IsNull, IsNotNull}
use Rattle.fq_expr.specs.declared.expressions.Binary.{Binary}
use Rattle.fq_expr.specs.declared.expressions.Binary.TheVariants.{Add, Sub, Mul, FloorDiv, Mod, Eq, Ne, Lt, Le, Gt, Ge, EqMissing, And, Or, FillNull}
use Rattle.fq_expr.specs.Expression.{Expression, column, null, whole, text, truth, unary, binary}
use Rattle.fq_expr.specs.Followed.{and_both, binary_followed, divided, either, either_of_two, either_with, followed, has_columns, is_as_day, literal, negated, numbers_of, of_null, other_of, part_of_day, product_of, remainder, scales_of_divisor, sum, sum_of_two, unary_followed, zeros}
use Rattle.fq_expr.specs.Homogeneous.{divides_alike, is_homogeneous, is_quotient}

-- ---- what each operation keeps

-- P of the scales, if ints are numbers
abbrev pub OfNumbers : (ScaleRange → Type 0) → Option Followed → Type 0
OfNumbers P None = Unit {0}
OfNumbers P (Some (Numbers scales)) = P scales
OfNumbers P (Some Days) = Unit {0}
OfNumbers P (Some Others) = Unit {0}

module _ (P : ScaleRange → Type 0) where
  of_numbers : (o : Option ScaleRange) → ((scales : ScaleRange) → o ≡ Some scales → P scales) → OfNumbers P (numbers_of o)
  of_numbers None h = tt
  of_numbers (Some scales) h = h scales refl

  of_other : (o : Option Followed) → OfNumbers P (other_of o)
  of_other None = tt
  of_other (Some a) = tt

  of_either : (b : Bool) (x y : Option Followed) → OfNumbers P x → OfNumbers P y → OfNumbers P (cond b x y)
  of_either true x y f g = f
  of_either false x y f g = g

  of_negated : (a : Followed) → OfNumbers P (Some a) → OfNumbers P (negated a)
  of_negated (Numbers a) f = f
  of_negated Days f = tt
  of_negated Others f = tt

  of_either_with : (a : Followed) (e : Expression) → OfNumbers P (Some a) → OfNumbers P (either_with a e)
  of_either_with (Numbers a) e f = f
  of_either_with Days e f = of_either (is_as_day e) (Some Days) None tt tt
  of_either_with Others e f = tt

  of_unary : (op : Unary) (a : Followed) → OfNumbers P (Some a) → OfNumbers P (unary_followed op a)
  of_unary Neg a f = of_negated a f
  of_unary Not a f = tt
  of_unary IsNull a f = tt
  of_unary IsNotNull a f = tt

  -- below, P holds of digits, of the common scales of two, and of those of their product
  module _ (zero : P (only 0)) where
    of_part : (e : Expression) (b : Followed) → OfNumbers P (part_of_day e b)
    of_part e (Numbers b) = of_either _ (Some (Numbers (only 0))) None zero tt
    of_part e Days = tt
    of_part e Others = tt

    of_null_alone : (k : Kind) → OfNumbers P (Some (of_null k))
    of_null_alone kind.Whole = zero
    of_null_alone kind.Text = tt
    of_null_alone kind.Truth = tt

    module _ (sums : (a b scales : ScaleRange) → P a → P b → common a b ≡ Some scales → P scales) where
      of_sum_of_two : (a b : Followed) → OfNumbers P (Some a) → OfNumbers P (Some b) → OfNumbers P (sum_of_two a b)
      of_sum_of_two (Numbers a) (Numbers b) f g = of_numbers (common a b) (λ scales e. sums a b scales f g e)
      of_sum_of_two (Numbers a) Days f g = tt
      of_sum_of_two (Numbers a) Others f g = tt
      of_sum_of_two Days b f g = tt
      of_sum_of_two Others b f g = tt

      of_either_of_two : (a b : Followed) → OfNumbers P (Some a) → OfNumbers P (Some b) → OfNumbers P (either_of_two a b)
      of_either_of_two (Numbers a) (Numbers b) f g = of_numbers (common a b) (λ scales e. sums a b scales f g e)
      of_either_of_two (Numbers a) Days f g = tt
      of_either_of_two (Numbers a) Others f g = tt
      of_either_of_two Days (Numbers b) f g = tt
      of_either_of_two Days Days f g = tt
      of_either_of_two Days Others f g = tt
      of_either_of_two Others (Numbers b) f g = tt
      of_either_of_two Others Days f g = tt
      of_either_of_two Others Others f g = tt

      of_sum : (d : Expression) (a : Followed) (e : Expression) (b : Followed) → OfNumbers P (Some a) → OfNumbers P (Some b) → OfNumbers P (sum d a e b)
      of_sum d a e b f g =
          of_either (has_columns d && not (has_columns e)) (negated a) _ (of_negated a f)
          (of_either (has_columns e && not (has_columns d)) (negated b) (sum_of_two a b) (of_negated b g) (of_sum_of_two a b f g))

      of_one : (d : Expression) (a : Followed) (e : Expression) (b : Followed) → OfNumbers P (Some a) → OfNumbers P (Some b) → OfNumbers P (either d a e b)
      of_one d a e b f g =
          of_either (has_columns d && not (has_columns e)) (either_with a e) _ (of_either_with a e f)
          (of_either (has_columns e && not (has_columns d)) (either_with b d) (either_of_two a b) (of_either_with b d g) (of_either_of_two a b f g))

      of_remainder : (d : Expression) (a : Followed) (e : Expression) (b : Followed) → OfNumbers P (Some a) → OfNumbers P (Some b) → OfNumbers P (remainder d a e b)
      of_remainder d (Numbers a) e b f g = of_sum d (Numbers a) e b f g
      of_remainder d Days e b f g = of_part e b
      of_remainder d Others e b f g = tt

      module _ (products : (a b scales : ScaleRange) → P a → P b → product a b ≡ Some scales → P scales) where
        of_product : (a b : Followed) → OfNumbers P (Some a) → OfNumbers P (Some b) → OfNumbers P (product_of a b)
        of_product (Numbers a) (Numbers b) f g = of_numbers (product a b) (λ scales e. products a b scales f g e)
        of_product (Numbers a) Days f g = tt
        of_product (Numbers a) Others f g = tt
        of_product Days b f g = tt
        of_product Others b f g = tt

        -- once a quotient keeps it, each operation does
        of_binary : (op : Binary) (d : Expression) (a : Followed) (e : Expression) (b : Followed) → (is_quotient op ≡ true → OfNumbers P (divided a e b)) →
            OfNumbers P (Some a) → OfNumbers P (Some b) → OfNumbers P (binary_followed op d a e b)
        of_binary Add d a e b q f g = of_sum d a e b f g
        of_binary Sub d a e b q f g = of_sum d a e b f g
        of_binary Mul d a e b q f g = of_product a b f g
        of_binary FloorDiv d a e b q f g = q refl
        of_binary Mod d a e b q f g = of_remainder d a e b f g
        of_binary Eq d a e b q f g = of_other (either d a e b)
        of_binary Ne d a e b q f g = of_other (either d a e b)
        of_binary Lt d a e b q f g = of_other (either d a e b)
        of_binary Le d a e b q f g = of_other (either d a e b)
        of_binary Gt d a e b q f g = of_other (either d a e b)
        of_binary Ge d a e b q f g = of_other (either d a e b)
        of_binary EqMissing d a e b q f g = of_other (either d a e b)
        of_binary And d a e b q f g = tt
        of_binary Or d a e b q f g = tt
        of_binary FillNull d a e b q f g = of_one d a e b f g

-- the scales of a column
of_columns : (P : ScaleRange → Type 0) → ((n : ℕ) → P (only n)) → (fields : Fields) (named : List Named) (name : Name) → OfNumbers P (Some (column_followed fields named name))
of_columns P h fields named name = go (kind_named fields name)
  where
    of : (k : Kind) (n : Notation) → OfNumbers P (Some (of_column k n))
    of kind.Whole Plain = h 0
    of kind.Whole (Decimal scale) = h scale
    of kind.Whole Date = tt
    of kind.Text n = tt
    of kind.Truth n = tt

    go : (r : Result Kind StepFault) → OfNumbers P (Some (elim r [ Ok k ↦ of_column k (notation_named named name) | Err fault ↦ Others ]))
    go (Ok k) = of k (notation_named named name)
    go (Err fault) = tt

-- ---- a scale that is read is the only one

alone-divided : (a : Followed) (e : Expression) (b : Followed) → OfNumbers IsReadAlone (Some a) → OfNumbers IsReadAlone (Some b) → OfNumbers IsReadAlone (divided a e b)
alone-divided (Numbers a) e (Numbers b) f g = of_numbers IsReadAlone _ (λ scales h. alone-quotient a (option_map_or scales_of_divisor (literal e) b) scales f (divisor (literal e)) h)
  where
    divisor : (o : Option ℕ) → IsReadAlone (option_map_or scales_of_divisor o b)
    divisor None = g
    divisor (Some n) = either-scales (nat_lt 0 (zeros n))
      where
        either-scales : (t : Bool) → IsReadAlone (cond t (up_to (zeros n)) (only 0))
        either-scales true = alone-up_to (zeros n)
        either-scales false = alone-only 0
alone-divided (Numbers a) e Days f g = tt
alone-divided (Numbers a) e Others f g = tt
alone-divided Days e b f g = of_part IsReadAlone (alone-only 0) e b
alone-divided Others e b f g = tt

module _ (fields : Fields) (named : List Named) where
  pub alone-followed : (e : Expression) → OfNumbers IsReadAlone (followed fields named e)
  alone-followed (column name) = of_columns IsReadAlone alone-only fields named name
  alone-followed (null k) = of_null_alone IsReadAlone (alone-only 0) k
  alone-followed (whole n) = factor-scales (nat_lt 0 (zeros (nat_abs n)) && (nat_abs n == 10 ^ zeros (nat_abs n)))
    where
      factor-scales : (t : Bool) → IsReadAlone (cond t (up_to (zeros (nat_abs n))) (only 0))
      factor-scales true = alone-up_to (zeros (nat_abs n))
      factor-scales false = alone-only 0
  alone-followed (text t) = tt
  alone-followed (truth b) = tt
  alone-followed (unary op e) = go (followed fields named e) (alone-followed e)
    where
      go : (o : Option Followed) → OfNumbers IsReadAlone o → OfNumbers IsReadAlone (elim o [ None ↦ None | Some a ↦ unary_followed op a ])
      go None f = tt
      go (Some a) f = of_unary IsReadAlone op a f
  alone-followed (binary op d e) = go (followed fields named d) (followed fields named e) (alone-followed d) (alone-followed e)
    where
      go : (o p : Option Followed) → OfNumbers IsReadAlone o → OfNumbers IsReadAlone p → OfNumbers IsReadAlone (and_both o p (λ a b. binary_followed op d a e b))
      go None p f g = tt
      go (Some a) None f g = tt
      go (Some a) (Some b) f g = of_binary IsReadAlone (alone-only 0) alone-common alone-product op d a e b (λ q. alone-divided a e b f g) f g

  -- as the law has it
  pub read-alone : (e : Expression) (scales : ScaleRange) (n : ℕ) → followed fields named e ≡ Some (Numbers scales) → scales.read ≡ Some n → scales ≡ only n
  read-alone e scales n h = let alone : IsReadAlone scales = subst (OfNumbers IsReadAlone) h (alone-followed e) in alone n

-- ---- a scale is read

-- one scale is possible, and it is read
abbrev pub IsOne : ScaleRange → Type 0
IsOne scales = (n : ℕ) × (scales ≡ only n)

one-only : (n : ℕ) → IsOne (only n)
one-only n = (n, refl)

pub one-common : (a b scales : ScaleRange) → IsOne a → IsOne b → common a b ≡ Some scales → IsOne scales
one-common a b scales f g e = (f.0, (common-only f.0 g.0 scales (sym (λ i. common (f.1 i) (g.1 i)) ∙ e)).1)

one-product : (a b scales : ScaleRange) → IsOne a → IsOne b → product a b ≡ Some scales → IsOne scales
one-product a b scales f g e = (f.0 + g.0, product-only f.0 g.0 scales (sym (λ i. product (f.1 i) (g.1 i)) ∙ e))

-- the scale of a quotient of two of one scale
pub quotient-alike : (a b scales : ScaleRange) → IsOne a → IsOne b → are_read_alike a.read b.read ≡ true → quotient a b ≡ Some scales → scales ≡ only 0
quotient-alike a b scales f g alike e =
    let same : f.0 ≡ g.0 = eqb-true f.0 g.0 (sym (λ i. are_read_alike (f.1 i).read (g.1 i).read) ∙ alike) in
    quotient-only g.0 scales (ap (λ n. quotient (only n) (only g.0)) (sym same) ∙ sym (λ i. quotient (f.1 i) (g.1 i)) ∙ e)

-- an expression without literal numbers is not one
pub literal-none : (fields : Fields) (named : List Named) (e : Expression) → is_homogeneous fields named e ≡ true → literal e ≡ None
literal-none fields named (column name) h = refl
literal-none fields named (null k) h = refl
literal-none fields named (whole n) h = absurd (true≢false (sym h))
literal-none fields named (text t) h = refl
literal-none fields named (truth b) h = refl
literal-none fields named (unary Neg e) h = literal-none fields named e h
literal-none fields named (unary Not e) h = refl
literal-none fields named (unary IsNull e) h = refl
literal-none fields named (unary IsNotNull e) h = refl
literal-none fields named (binary op d e) h = refl

one-divided : (a : Followed) (e : Expression) (b : Followed) → literal e ≡ None → divides_alike (Some a) (Some b) ≡ true → OfNumbers IsOne (Some a) → OfNumbers IsOne (Some b) → OfNumbers IsOne (divided a e b)
one-divided (Numbers a) e (Numbers b) l alike f g =
    of_numbers IsOne _ (λ scales h. (0, quotient-alike a b scales f g alike (ap (λ o. quotient a (option_map_or scales_of_divisor o b)) (sym l) ∙ h)))
one-divided (Numbers a) e Days l alike f g = tt
one-divided (Numbers a) e Others l alike f g = tt
one-divided Days e b l alike f g = of_part IsOne (one-only 0) e b
one-divided Others e b l alike f g = tt

-- the parts of a homogeneous operation
pub record AreHomogeneous (fields : Fields) (named : List Named) (op : Binary) (d e : Expression) : Type 0 where
  pub left : is_homogeneous fields named d ≡ true
  pub right : is_homogeneous fields named e ≡ true
  pub alike : is_quotient op ≡ true → divides_alike (followed fields named d) (followed fields named e) ≡ true

pub homogeneous-parts : (fields : Fields) (named : List Named) (op : Binary) (d e : Expression) → is_homogeneous fields named (binary op d e) ≡ true → AreHomogeneous fields named op d e
homogeneous-parts fields named op d e h =
    let p = and_parts (is_homogeneous fields named d && is_homogeneous fields named e) (not (is_quotient op) || divides_alike (followed fields named d) (followed fields named e)) h in
    let q = and_parts (is_homogeneous fields named d) (is_homogeneous fields named e) p.0 in
    record { left = q.0; right = q.1; alike = λ k. ap (λ t. not t || divides_alike (followed fields named d) (followed fields named e)) (sym k) ∙ p.1 }

pub one-followed : (fields : Fields) (named : List Named) (e : Expression) → is_homogeneous fields named e ≡ true → OfNumbers IsOne (followed fields named e)
one-followed fields named (column name) h = of_columns IsOne one-only fields named name
one-followed fields named (null k) h = of_null_alone IsOne (one-only 0) k
one-followed fields named (whole n) h = absurd (true≢false (sym h))
one-followed fields named (text t) h = tt
one-followed fields named (truth b) h = tt
one-followed fields named (unary op e) h = go (followed fields named e) (one-followed fields named e h)
  where
    go : (o : Option Followed) → OfNumbers IsOne o → OfNumbers IsOne (elim o [ None ↦ None | Some a ↦ unary_followed op a ])
    go None f = tt
    go (Some a) f = of_unary IsOne op a f
one-followed fields named (binary op d e) h =
    let parts = homogeneous-parts fields named op d e h in
    go (followed fields named d) (followed fields named e) parts.alike (one-followed fields named d parts.left) (one-followed fields named e parts.right) (literal-none fields named e parts.right)
  where
    go : (o p : Option Followed) → (is_quotient op ≡ true → divides_alike o p ≡ true) → OfNumbers IsOne o → OfNumbers IsOne p → literal e ≡ None → OfNumbers IsOne (and_both o p (λ a b. binary_followed op d a e b))
    go None p alike f g l = tt
    go (Some a) None alike f g l = tt
    go (Some a) (Some b) alike f g l = of_binary IsOne (one-only 0) one-common one-product op d a e b (λ q. one-divided a e b l (alike q) f g) f g

-- as the law has it
pub is-read : (fields : Fields) (named : List Named) (e : Expression) (scales : ScaleRange) → is_homogeneous fields named e ≡ true → followed fields named e ≡ Some (Numbers scales) → is_some scales.read ≡ true
is-read fields named e scales h s = let one : IsOne scales = subst (OfNumbers IsOne) s (one-followed fields named e h) in ap (λ (x : ScaleRange). is_some x.read) one.1
