-- Worked examples: the definitions over these steps and rows.
use Rattle.std.specs.Prelude.{◌≡◌, ℕ, ◌-◌, ◌^◌, true, false, List, [], ◌∷◌, pos, negsuc, Option, Some, None, Ok, Err, codes, map}
use Rattle.fq_column.specs.declared.cells.Kind.{Kind}
use Rattle.fq_column.specs.declared.cells.Kind.TheVariants as kind
use Rattle.fq_column.specs.declared.cells.Cell.{Cell}
use Rattle.fq_column.specs.declared.cells.Cell.TheVariants.{Null, Whole, Truth}
use Rattle.fq_column.specs.declared.faults.StepFault.TheVariants.{NoSuchColumn, WrongKind, DoubleName, NoColumn, NotBool}
use Rattle.fq_column.specs.Agreement.{marked}
use Rattle.fq_column.specs.Frame.{Fields, Name, Row}
use Rattle.fq_column.specs.Lists.{before_missing, first_missing, pieces}
use Rattle.fq_column.specs.Stream.{Stream, done, then_stream}
use Rattle.fq_expr.specs.declared.expressions.Unary.TheVariants.{Not, IsNull}
use Rattle.fq_expr.specs.declared.expressions.Binary.TheVariants.{Add, FloorDiv, Mod, Eq, Lt, Gt, EqMissing, And, Or, FillNull}
use Rattle.fq_expr.specs.Kinds.{kind_of, step_schema, steps_schema}
use Rattle.fq_expr.specs.Needed.{needed_before}
use Rattle.fq_expr.specs.Steps.{apply_steps}
use Rattle.fq_expr.specs.Expression.{Expression, column, null, whole, text, truth, unary, binary, Step, filter_by, with_columns, select}
use Rattle.fq_expr.specs.Value.{value_of}

-- the greatest and the least whole number
abbrev pub greatest : Cell
greatest = Whole (pos (2 ^ 63 - 1))

abbrev pub least : Cell
least = Whole (negsuc (2 ^ 63 - 1))

abbrev pub n : ℕ → Cell
n k = Whole (pos k)

abbrev pub int : List ℕ → Name × Kind
int name = (name, kind.Whole)

abbrev pub run : Fields → List Step → List Row → Stream (ℕ × ℕ)
run fields steps rows = apply_steps (λ s i. (s, i)) 0 fields steps (done rows)

abbrev pub gives : List Row → Stream (ℕ × ℕ)
gives rows = done rows

abbrev pub overflow_at : ℕ → ℕ → List Row → Stream (ℕ × ℕ)
overflow_at s i rows = record { rows = rows; fault = Some (s, i) }

-- null and Kleene's logic
abbrev pub logic_step : Step
logic_step = let N = null kind.Truth in let M = null kind.Whole in select
    ((codes "a", binary And N (truth false)) ∷ (codes "b", binary Or N (truth true)) ∷ (codes "c", unary Not N) ∷ (codes "d", binary And N (truth true))
    ∷ (codes "e", binary Eq M M) ∷ (codes "f", binary EqMissing M M) ∷ (codes "g", binary FillNull M (whole (pos 7))) ∷ [])

abbrev pub LogicValues : Type 0
LogicValues = run (int (codes "x") ∷ []) (logic_step ∷ []) ((n 1 ∷ []) ∷ []) ≡ gives ((Truth false ∷ Truth true ∷ Null ∷ Null ∷ Null ∷ Truth true ∷ n 7 ∷ []) ∷ [])

abbrev pub LogicKinds : Type 0
LogicKinds = steps_schema (int (codes "x") ∷ []) (logic_step ∷ []) ≡ Ok ((codes "a", kind.Truth) ∷ (codes "b", kind.Truth) ∷ (codes "c", kind.Truth) ∷ (codes "d", kind.Truth) ∷ (codes "e", kind.Truth) ∷ (codes "f", kind.Truth) ∷ int (codes "g") ∷ [])

-- two steps, of which each overflows on one row
abbrev pub plus_one : List ℕ → List ℕ → Step
plus_one out name = with_columns ((out, binary Add (column name) (whole (pos 1))) ∷ [])

abbrev pub ab : Fields
ab = int (codes "a") ∷ int (codes "b") ∷ []

abbrev pub two_steps : List Step
two_steps = plus_one (codes "p") (codes "a") ∷ plus_one (codes "q") (codes "b") ∷ []

abbrev pub EarliestRow : Type 0
EarliestRow = run ab two_steps ((n 0 ∷ greatest ∷ []) ∷ (n 0 ∷ n 0 ∷ []) ∷ (greatest ∷ n 0 ∷ []) ∷ []) ≡ overflow_at 1 0 []

abbrev pub EarliestRowFirst : Type 0
EarliestRowFirst = run ab two_steps ((greatest ∷ n 0 ∷ []) ∷ (n 0 ∷ n 0 ∷ []) ∷ (n 0 ∷ greatest ∷ []) ∷ []) ≡ overflow_at 0 0 []

-- the same row by row, as at batch size 1
abbrev pub run_each : Fields → List Step → List (List Row) → Stream (ℕ × ℕ)
run_each fields steps [] = done []
run_each fields steps (p ∷ ps) = then_stream (run fields steps p) (run_each fields steps ps)

abbrev pub EarliestRowByBatches : Type 0
EarliestRowByBatches = run_each ab two_steps (pieces 1 ((n 0 ∷ greatest ∷ []) ∷ (n 0 ∷ n 0 ∷ []) ∷ (greatest ∷ n 0 ∷ []) ∷ [])) ≡ overflow_at 1 0 []

abbrev pub NumberedFrom : Type 0
NumberedFrom = apply_steps (λ s i. (s, i)) 3 ab two_steps (done ((n 1 ∷ n 1 ∷ []) ∷ (greatest ∷ n 1 ∷ []) ∷ (n 1 ∷ greatest ∷ []) ∷ [])) ≡ overflow_at 3 0 ((n 1 ∷ n 1 ∷ n 2 ∷ n 2 ∷ []) ∷ [])

-- division
abbrev pub quotient : Name × Expression
quotient = (codes "q", binary FloorDiv (column (codes "a")) (column (codes "b")))

abbrev pub remainder : Name × Expression
remainder = (codes "r", binary Mod (column (codes "a")) (column (codes "b")))

abbrev pub DivisionValues : Type 0
DivisionValues = run ab (with_columns (quotient ∷ remainder ∷ []) ∷ [])
    ((Whole (negsuc 6) ∷ n 2 ∷ []) ∷ (n 7 ∷ n 0 ∷ []) ∷ (n 7 ∷ Whole (negsuc 1) ∷ []) ∷ (least ∷ n 1 ∷ []) ∷ [])
    ≡ gives ((Whole (negsuc 6) ∷ n 2 ∷ Whole (negsuc 3) ∷ n 1 ∷ []) ∷ (n 7 ∷ n 0 ∷ Null ∷ Null ∷ [])
    ∷ (n 7 ∷ Whole (negsuc 1) ∷ Whole (negsuc 3) ∷ Whole (negsuc 0) ∷ []) ∷ (least ∷ n 1 ∷ least ∷ n 0 ∷ []) ∷ [])

abbrev pub DivisionFault : Type 0
DivisionFault = run ab (with_columns (quotient ∷ remainder ∷ []) ∷ []) ((least ∷ Whole (negsuc 0) ∷ []) ∷ []) ≡ overflow_at 0 0 []

abbrev pub RemainderOfLowest : Type 0
RemainderOfLowest = run ab (with_columns (remainder ∷ []) ∷ []) ((least ∷ Whole (negsuc 0) ∷ []) ∷ []) ≡ gives ((least ∷ Whole (negsuc 0) ∷ n 0 ∷ []) ∷ [])

-- kinds
abbrev pub a_whole_b_text : Fields
a_whole_b_text = int (codes "a") ∷ (codes "b", kind.Text) ∷ []

abbrev pub ExpressionKinds : Type 0
ExpressionKinds = (kind_of a_whole_b_text (binary Add (column (codes "c")) (column (codes "b"))) ≡ Err NoSuchColumn)
    × (kind_of a_whole_b_text (binary Add (column (codes "a")) (column (codes "b"))) ≡ Err WrongKind)
    × (kind_of a_whole_b_text (binary Lt (column (codes "b")) (text (codes "x"))) ≡ Ok kind.Truth)

-- values over a batch
abbrev pub values : Fields → Expression → List Row → List Cell × Option ℕ
values fields e rows = (before_missing (map (value_of fields e) rows), first_missing (map (value_of fields e) rows))

abbrev pub a_plus_one : Expression
a_plus_one = binary Add (column (codes "a")) (whole (pos 1))

abbrev pub ExpressionValues : Type 0
ExpressionValues = (values (int (codes "a") ∷ []) a_plus_one ((n 1 ∷ []) ∷ (greatest ∷ []) ∷ (n 3 ∷ []) ∷ []) ≡ (n 2 ∷ [], Some 1))
    × (values (int (codes "a") ∷ []) (binary And (truth false) (binary Gt a_plus_one (whole (pos 0)))) ((n 1 ∷ []) ∷ (greatest ∷ []) ∷ (n 3 ∷ []) ∷ []) ≡ (Truth false ∷ [], Some 1))
    × (values (int (codes "a") ∷ []) (unary IsNull (column (codes "a"))) ((Null ∷ []) ∷ (n 1 ∷ []) ∷ []) ≡ (Truth true ∷ Truth false ∷ [], None))

-- schemas of steps
abbrev pub StepSchemas : Type 0
StepSchemas = let s = int (codes "a") ∷ [] in let p : Name × Expression = (codes "p", column (codes "a")) in
    (step_schema s (filter_by (column (codes "a"))) ≡ Err NotBool)
    × (step_schema s (select []) ≡ Err NoColumn)
    × (step_schema s (with_columns (p ∷ p ∷ [])) ≡ Err DoubleName)
    × (step_schema s (with_columns (p ∷ [])) ≡ Ok (int (codes "a") ∷ int (codes "p") ∷ []))

-- a filter keeps the rows where its expression is true, and drops those where it is false or null
abbrev pub above_ten : Step
above_ten = filter_by (binary Gt (column (codes "v")) (whole (pos 10)))

abbrev pub FilteredRows : Type 0
FilteredRows = (run (int (codes "v") ∷ []) (above_ten ∷ []) ((n 9 ∷ []) ∷ (n 11 ∷ []) ∷ (Null ∷ []) ∷ (n 11 ∷ []) ∷ []) ≡ gives ((n 11 ∷ []) ∷ (n 11 ∷ []) ∷ []))
    × (run (int (codes "a") ∷ []) (plus_one (codes "p") (codes "a") ∷ []) ((greatest ∷ []) ∷ []) ≡ overflow_at 0 0 [])

-- all items are valued on the row as it was; a name that is there keeps its place
abbrev pub swapped : Step
swapped = with_columns ((codes "a", column (codes "b")) ∷ (codes "b", column (codes "a")) ∷ (codes "c", column (codes "a")) ∷ [])

abbrev pub ReplacedInPlace : Type 0
ReplacedInPlace = (run ab (swapped ∷ []) ((n 1 ∷ n 2 ∷ []) ∷ []) ≡ gives ((n 2 ∷ n 1 ∷ n 1 ∷ []) ∷ []))
    × (step_schema ab swapped ≡ Ok (int (codes "a") ∷ int (codes "b") ∷ int (codes "c") ∷ []))
    × (run ab (with_columns ((codes "p", binary Add (column (codes "a")) (whole (pos 1))) ∷ (codes "q", binary Add (column (codes "b")) (whole (pos 1))) ∷ []) ∷ []) ((n 1 ∷ greatest ∷ []) ∷ (greatest ∷ greatest ∷ []) ∷ []) ≡ overflow_at 0 1 [])

-- the columns that steps need, if a and b are needed after them: what they read, even if it is not needed, and what they do not put
abbrev pub NeededColumns : Type 0
NeededColumns = let needs : Step → List Name = λ step. needed_before step (codes "a" ∷ codes "b" ∷ []) in
    (needs above_ten ≡ codes "v" ∷ codes "a" ∷ codes "b" ∷ [])
    × (needs (plus_one (codes "b") (codes "v")) ≡ codes "v" ∷ codes "a" ∷ [])
    × (needs (plus_one (codes "p") (codes "v")) ≡ codes "v" ∷ codes "a" ∷ codes "b" ∷ [])
    × (needs (select ((codes "a", column (codes "v")) ∷ (codes "b", whole (pos 1)) ∷ [])) ≡ codes "v" ∷ [])
    × (marked (needs above_ten) (int (codes "a") ∷ int (codes "c") ∷ int (codes "v") ∷ []) ≡ true ∷ false ∷ true ∷ [])
