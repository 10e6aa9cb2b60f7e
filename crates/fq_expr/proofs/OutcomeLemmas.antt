-- What an expression was evaluated to, form by form.
use Rattle.std.proofs.Common.{◌≡◌, ℕ, ◌≤◌, List, [], ◌∷◌, length, map, take, replicate, refl, ap, sym, ◌∙◌, arith, Some, Ok}
use Rattle.std.proofs.lemmas.List.{length-take-le, length-map}
use Rattle.fq_column.specs.declared.cells.Cell.{Cell}
use Rattle.fq_column.specs.Frame.{Fields, Name, Row, value_named}
use Rattle.fq_column.specs.Lists.{before_missing, zip_with}
use Rattle.fq_column.specs.Refusal.{and_then}
use Rattle.fq_column.specs.Schema.{kind_named}
use Rattle.fq_expr.specs.declared.expressions.Unary.{Unary}
use Rattle.fq_expr.specs.declared.expressions.Binary.{Binary}
use Rattle.fq_expr.specs.declared.operands.AnyOperand.{AnyOperand}
use Rattle.fq_expr.specs.declared.operands.Outcome.{Outcome}
use Rattle.fq_expr.specs.Expression.{Expression, column, unary, binary}
use Rattle.fq_expr.specs.Kinds.{kind_of, unary_kind, binary_kind}
use Rattle.fq_expr.specs.Operand.{kind_in_rows, AnyHasRows, cells_in_rows}
use Rattle.fq_expr.specs.Evaluated.{IsOutcome, IsUnaryOutcome, IsBinaryOutcome}
use Rattle.fq_expr.specs.Value.{value_of, unary_value, binary_value}
use Rattle.fq_expr.proofs.EvaluationLemmas.{length-cells_in_rows}
use Rattle.fq_expr.proofs.PrefixLemmas.{before_missing-all, before_missing-constant, before_missing-one, before_missing-two, length-before_missing, take-take-le, map-take, cells_in_rows-take, AnyHasRows-le}

abbrev pub outcome_of : AnyOperand → ℕ → Outcome
outcome_of o n = record { operand = o; rows = n }

map-same : {X Y : Type 0} (f g : X → Y) (xs : List X) → ((x : X) → f x ≡ g x) → map f xs ≡ map g xs
map-same f g [] h = refl
map-same f g (x ∷ xs) h = λ i. h x i ∷ map-same f g xs h i

-- a literal
pub constant-outcome : (fields : Fields) (e : Expression) (k : ℕ) (all : List Row) (o : AnyOperand) (c : Cell) → k ≤ length all → kind_of fields e ≡ Ok (kind_in_rows o) → ((row : Row) → value_of fields e row ≡ Some c) →
    AnyHasRows k o → cells_in_rows k o ≡ replicate k c → IsOutcome fields e (take k all) (outcome_of o k)
constant-outcome fields e k all o c h kind value rows cells = record {
  kind = kind;
  has_rows = rows;
  cells = cells ∙ before_missing-constant c k (take k all) (length-take-le k all h) ∙ ap before_missing (sym (map-same (value_of fields e) (λ row. Some c) (take k all) value));
}

-- a column
pub column-outcome : (fields : Fields) (name : Name) (k : ℕ) (all : List Row) (o : AnyOperand) → k ≤ length all → kind_named fields name ≡ Ok (kind_in_rows o) →
    AnyHasRows (length all) o → cells_in_rows (length all) o ≡ map (value_named fields name) all → IsOutcome fields (column name) (take k all) (outcome_of o k)
column-outcome fields name k all o h kind rows cells = record {
  kind = kind;
  has_rows = AnyHasRows-le k (length all) o h rows;
  cells = cells_in_rows-take k (length all) o h ∙ ap (take k) cells ∙ sym (map-take (value_named fields name) k all) ∙ sym (before_missing-all (value_named fields name) (take k all));
}

-- how many rows an outcome has: at most as many as it was evaluated on
pub outcome-rows : (fields : Fields) (e : Expression) (rows : List Row) (u : Outcome) → IsOutcome fields e rows u → u.rows ≡ length (before_missing (map (value_of fields e) rows))
outcome-rows fields e rows u is = sym (length-cells_in_rows u.rows u.operand is.has_rows) ∙ ap length is.cells

pub outcome-rows-le : (fields : Fields) (e : Expression) (rows : List Row) (u : Outcome) → IsOutcome fields e rows u → u.rows ≤ length rows
outcome-rows-le fields e rows u is = omega (arith, outcome-rows fields e rows u is, length-before_missing (map (value_of fields e) rows), length-map rows (value_of fields e))

-- an operation on one part
pub unary-outcome : (fields : Fields) (op : Unary) (e : Expression) (rows : List Row) (part u : Outcome) → IsOutcome fields e rows part → IsUnaryOutcome op part u → IsOutcome fields (unary op e) rows u
unary-outcome fields op e rows part u is made = record {
  kind = ap (λ r. and_then r (unary_kind op)) is.kind ∙ made.kind;
  has_rows = made.has_rows;
  cells = made.cells ∙ ap (λ l. before_missing (map (unary_value op) l)) is.cells ∙ before_missing-one (unary_value op) (value_of fields e) rows;
}

-- an operation on two parts, the right one evaluated on the rows that the left one has
pub binary-outcome : (fields : Fields) (op : Binary) (d e : Expression) (k : ℕ) (all : List Row) (left right u : Outcome) → k ≤ length all →
    IsOutcome fields d (take k all) left → IsOutcome fields e (take left.rows all) right → IsBinaryOutcome op left right u → IsOutcome fields (binary op d e) (take k all) u
binary-outcome fields op d e k all left right u h isl isr made =
    let lk : left.rows ≤ k = omega (arith, outcome-rows-le fields d (take k all) left isl, length-take-le k all h) in
    let same : take left.rows all ≡ take left.rows (take k all) = sym (take-take-le left.rows k all lk) in
    let rl : right.rows ≤ left.rows = omega (arith, outcome-rows-le fields e (take left.rows all) right isr, length-take-le left.rows all (omega (arith, lk, h))) in
    let ls = before_missing (map (value_of fields d) (take k all)) in
    let ln : left.rows ≡ length ls = outcome-rows fields d (take k all) left isl in
    let r_cells : cells_in_rows right.rows right.operand ≡ before_missing (map (value_of fields e) (take (length ls) (take k all))) = isr.cells ∙ ap (λ l. before_missing (map (value_of fields e) l)) (same ∙ ap (λ n. take n (take k all)) ln) in
    let rn : right.rows ≡ length (before_missing (map (value_of fields e) (take (length ls) (take k all)))) = sym (length-cells_in_rows right.rows right.operand isr.has_rows) ∙ ap length r_cells in
    let l_cells : cells_in_rows right.rows left.operand ≡ take (length (before_missing (map (value_of fields e) (take (length ls) (take k all))))) ls = cells_in_rows-take right.rows left.rows left.operand rl ∙ ap (take right.rows) isl.cells ∙ ap (λ n. take n ls) rn in
    record {
      kind = ap (λ r. and_then r (λ a. and_then (kind_of fields e) (binary_kind op a))) isl.kind ∙ ap (λ r. and_then r (binary_kind op (kind_in_rows left.operand))) isr.kind ∙ made.kind;
      has_rows = made.has_rows;
      cells = made.cells ∙ (λ i. before_missing (zip_with (binary_value op) (l_cells i) (r_cells i))) ∙ before_missing-two (binary_value op) (value_of fields d) (value_of fields e) (take k all);
    }
