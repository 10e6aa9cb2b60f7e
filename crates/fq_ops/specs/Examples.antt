-- Worked examples: the definitions over these columns and rows.
use Rattle.std.specs.Prelude.{◌≡◌, ℕ, ◌-◌, ◌^◌, Bool, true, false, List, [], ◌∷◌, ◌++◌, drop, length, pos, negsuc, Option, Some, None, Ok, Err, codes}
use Rattle.fq_column.specs.declared.cells.Kind.{Kind}
use Rattle.fq_column.specs.declared.cells.Kind.TheVariants as kind
use Rattle.fq_column.specs.declared.cells.Cell.{Cell}
use Rattle.fq_column.specs.declared.cells.Cell.TheVariants.{Null, Whole, Text}
use Rattle.fq_column.specs.declared.faults.StepFault.TheVariants.{WrongKind, DoubleName, NoColumn, Window, Samples}
use Rattle.fq_column.specs.Frame.{Fields, Name, Row}
use Rattle.fq_column.specs.Lists.{before_missing, first_missing}
use Rattle.fq_column.specs.Stream.{Stream, done}
use Rattle.fq_ops.specs.declared.joins.How.{How}
use Rattle.fq_ops.specs.declared.joins.How.TheVariants.{Inner, Left, Semi, Anti}
use Rattle.fq_ops.specs.declared.aggregates.Function.TheVariants as function
use Rattle.fq_ops.specs.Group.{group_schema, grouped}
use Rattle.fq_ops.specs.Join.{join_schema, join_rows}
use Rattle.fq_ops.specs.Aggregate.{len, over, Output}
use Rattle.fq_ops.specs.Roll.{roll_schema, rolled, roll_rows}

abbrev pub most : Cell
most = Whole (pos (2 ^ 63 - 1))

abbrev pub n : ℕ → Cell
n k = Whole (pos k)

abbrev pub t : List ℕ → Cell
t bytes = Text bytes

abbrev pub int : List ℕ → Name × Kind
int name = (name, kind.Whole)

abbrev pub txt : List ℕ → Name × Kind
txt name = (name, kind.Text)

abbrev pub g : Name
g = codes "g"

abbrev pub k : Name
k = codes "k"

abbrev pub v : Name
v = codes "v"

abbrev pub gv : Fields
gv = int g ∷ int v ∷ []

abbrev pub sum_item : List Output
sum_item = (codes "s", over function.Sum v) ∷ []

-- a group's sum is judged as a whole
abbrev pub file_up : List Row
file_up = (n 1 ∷ most ∷ []) ∷ (n 1 ∷ n 1 ∷ []) ∷ []

abbrev pub file_down : List Row
file_down = (n 1 ∷ Whole (negsuc 0) ∷ []) ∷ []

abbrev pub SumExamples : Type 0
SumExamples = (grouped gv (g ∷ []) sum_item (file_up ++ file_down) ≡ Ok ((n 1 ∷ most ∷ []) ∷ []))
    × (grouped gv (g ∷ []) sum_item file_up ≡ Err 0)
    × (grouped gv (g ∷ []) ((codes "n", len) ∷ sum_item) file_up ≡ Err 1)
    × (grouped gv (g ∷ []) sum_item (file_down ++ file_up) ≡ Ok ((n 1 ∷ most ∷ []) ∷ []))

-- groups in order of first appearance, null a key
abbrev pub kv : Fields
kv = txt k ∷ int v ∷ []

abbrev pub GroupExamples : Type 0
GroupExamples = grouped kv (k ∷ []) ((codes "n", len) ∷ sum_item)
    ((t (codes "b") ∷ n 1 ∷ []) ∷ (Null ∷ n 2 ∷ []) ∷ (t (codes "a") ∷ n 3 ∷ []) ∷ (Null ∷ n 10 ∷ []) ∷ (t (codes "b") ∷ n 5 ∷ []) ∷ [])
    ≡ Ok ((t (codes "b") ∷ n 2 ∷ n 6 ∷ []) ∷ (Null ∷ n 2 ∷ n 12 ∷ []) ∷ (t (codes "a") ∷ n 1 ∷ n 3 ∷ []) ∷ [])

abbrev pub all_items : List Output
all_items = (codes "s", over function.Sum v) ∷ (codes "lo", over function.Min v) ∷ (codes "hi", over function.Max v) ∷ (codes "c", over function.Count v) ∷ (codes "n", len) ∷ (codes "f", over function.First v) ∷ (codes "l", over function.Last v) ∷ (codes "u", over function.NUnique v) ∷ []

abbrev pub AggregateExamples : Type 0
AggregateExamples = (grouped gv (g ∷ []) all_items ((n 1 ∷ Null ∷ []) ∷ (n 1 ∷ Null ∷ []) ∷ [])
    ≡ Ok ((n 1 ∷ n 0 ∷ Null ∷ Null ∷ n 0 ∷ n 2 ∷ Null ∷ Null ∷ n 1 ∷ []) ∷ []))
    × (grouped kv (k ∷ []) ((codes "u", over function.NUnique v) ∷ (codes "hi", over function.Max v) ∷ [])
    ((t (codes "a") ∷ n 1 ∷ []) ∷ (t (codes "b") ∷ Null ∷ []) ∷ (t (codes "a") ∷ n 1 ∷ []) ∷ (t (codes "b") ∷ n 4 ∷ []) ∷ [])
    ≡ Ok ((t (codes "a") ∷ n 1 ∷ n 1 ∷ []) ∷ (t (codes "b") ∷ n 2 ∷ n 4 ∷ []) ∷ []))

abbrev pub GroupSchemaExamples : Type 0
GroupSchemaExamples = (group_schema kv [] sum_item ≡ Err NoColumn)
    × (group_schema kv (k ∷ []) ((codes "s", over function.Sum k) ∷ []) ≡ Err WrongKind)
    × (group_schema kv (k ∷ []) ((k, over function.Sum v) ∷ []) ≡ Err DoubleName)
    × (group_schema kv (k ∷ []) sum_item ≡ Ok (txt k ∷ int (codes "s") ∷ []))

-- joins
abbrev pub kw : Fields
kw = int k ∷ txt (codes "w") ∷ []

abbrev pub ikv : Fields
ikv = int k ∷ int v ∷ []

abbrev pub right_rows : List Row
right_rows = (n 1 ∷ t (codes "a") ∷ []) ∷ (Null ∷ t (codes "b") ∷ []) ∷ (n 1 ∷ t (codes "c") ∷ []) ∷ []

abbrev pub left_rows : List Row
left_rows = (n 2 ∷ n 10 ∷ []) ∷ (n 1 ∷ n 20 ∷ []) ∷ (Null ∷ n 30 ∷ []) ∷ []

abbrev pub joined_by : How → Bool → Stream ℕ
joined_by how nulls_equal = join_rows how nulls_equal ikv kw (k ∷ []) right_rows 4294967295 left_rows

abbrev pub JoinExamples : Type 0
JoinExamples = (joined_by Left false ≡ done ((n 2 ∷ n 10 ∷ Null ∷ []) ∷ (n 1 ∷ n 20 ∷ t (codes "a") ∷ []) ∷ (n 1 ∷ n 20 ∷ t (codes "c") ∷ []) ∷ (Null ∷ n 30 ∷ Null ∷ []) ∷ []))
    × (joined_by Inner false ≡ done ((n 1 ∷ n 20 ∷ t (codes "a") ∷ []) ∷ (n 1 ∷ n 20 ∷ t (codes "c") ∷ []) ∷ []))
    × (joined_by Semi false ≡ done ((n 1 ∷ n 20 ∷ []) ∷ []))
    × (joined_by Anti false ≡ done ((n 2 ∷ n 10 ∷ []) ∷ (Null ∷ n 30 ∷ []) ∷ []))

abbrev pub EqualNullsExamples : Type 0
EqualNullsExamples = (joined_by Left true ≡ done ((n 2 ∷ n 10 ∷ Null ∷ []) ∷ (n 1 ∷ n 20 ∷ t (codes "a") ∷ []) ∷ (n 1 ∷ n 20 ∷ t (codes "c") ∷ []) ∷ (Null ∷ n 30 ∷ t (codes "b") ∷ []) ∷ []))
    × (joined_by Inner true ≡ done ((n 1 ∷ n 20 ∷ t (codes "a") ∷ []) ∷ (n 1 ∷ n 20 ∷ t (codes "c") ∷ []) ∷ (Null ∷ n 30 ∷ t (codes "b") ∷ []) ∷ []))
    × (joined_by Semi true ≡ done ((n 1 ∷ n 20 ∷ []) ∷ (Null ∷ n 30 ∷ []) ∷ []))
    × (joined_by Anti true ≡ done ((n 2 ∷ n 10 ∷ []) ∷ []))

abbrev pub SuffixExamples : Type 0
SuffixExamples = (join_schema Inner ikv ikv (k ∷ []) ≡ Ok (int k ∷ int v ∷ int (codes "v_right") ∷ []))
    × (join_rows Inner false ikv ikv (k ∷ []) ((n 1 ∷ n 7 ∷ []) ∷ []) 10 ((n 1 ∷ n 5 ∷ []) ∷ []) ≡ done ((n 1 ∷ n 5 ∷ n 7 ∷ []) ∷ []))
    × (join_schema Inner (int k ∷ int v ∷ int (codes "v_right") ∷ []) ikv (k ∷ []) ≡ Err DoubleName)
    × (join_schema Inner ikv (int k ∷ int v ∷ int (codes "v_right") ∷ []) (k ∷ []) ≡ Err DoubleName)
    × (join_schema Inner ikv kw (k ∷ []) ≡ Ok (int k ∷ int v ∷ txt (codes "w") ∷ []))
    × (join_schema Semi (int k ∷ int v ∷ int (codes "v_right") ∷ []) ikv (k ∷ []) ≡ Ok (int k ∷ int v ∷ int (codes "v_right") ∷ []))
    × (join_schema Anti ikv kw (k ∷ []) ≡ Ok ikv)

abbrev pub probe_with : How → ℕ → Stream ℕ
probe_with how room = join_rows how false (int k ∷ []) (int k ∷ int (codes "w") ∷ []) (k ∷ []) ((n 1 ∷ n 7 ∷ []) ∷ (n 1 ∷ n 8 ∷ []) ∷ []) room ((n 1 ∷ []) ∷ (n 1 ∷ []) ∷ [])

abbrev pub RoomExamples : Type 0
RoomExamples = (probe_with Inner 3 ≡ record { rows = (n 1 ∷ n 7 ∷ []) ∷ (n 1 ∷ n 8 ∷ []) ∷ []; fault = Some 1 })
    × (probe_with Inner 4 ≡ done ((n 1 ∷ n 7 ∷ []) ∷ (n 1 ∷ n 8 ∷ []) ∷ (n 1 ∷ n 7 ∷ []) ∷ (n 1 ∷ n 8 ∷ []) ∷ []))
    × (probe_with Semi 1 ≡ record { rows = (n 1 ∷ []) ∷ []; fault = Some 1 })

-- rolling sums
abbrev pub iv : Fields
iv = int (codes "i") ∷ int v ∷ []

abbrev pub RollExamples : Type 0
RollExamples = (roll_rows iv v 3 2 (codes "r") ((n 1 ∷ n 1 ∷ []) ∷ (n 2 ∷ Null ∷ []) ∷ (n 3 ∷ n 4 ∷ []) ∷ (n 4 ∷ Null ∷ []) ∷ (n 5 ∷ Null ∷ []) ∷ (n 6 ∷ n 7 ∷ []) ∷ [])
    ≡ done ((n 1 ∷ n 1 ∷ Null ∷ []) ∷ (n 2 ∷ Null ∷ Null ∷ []) ∷ (n 3 ∷ n 4 ∷ n 5 ∷ []) ∷ (n 4 ∷ Null ∷ Null ∷ []) ∷ (n 5 ∷ Null ∷ Null ∷ []) ∷ (n 6 ∷ n 7 ∷ Null ∷ []) ∷ []))
    × (roll_rows iv v 2 2 (codes "r") ((n 1 ∷ most ∷ []) ∷ (n 2 ∷ n 1 ∷ []) ∷ []) ≡ record { rows = (n 1 ∷ most ∷ Null ∷ []) ∷ []; fault = Some tt })
    × (roll_rows iv v 3 3 (codes "r") ((n 1 ∷ most ∷ []) ∷ (n 2 ∷ Null ∷ []) ∷ (n 3 ∷ n 1 ∷ []) ∷ [])
    ≡ done ((n 1 ∷ most ∷ Null ∷ []) ∷ (n 2 ∷ Null ∷ Null ∷ []) ∷ (n 3 ∷ n 1 ∷ Null ∷ []) ∷ []))

abbrev pub RollSchemaExamples : Type 0
RollSchemaExamples = (roll_schema (int v ∷ []) v (pos 0) (pos 0) (codes "r") ≡ Err Window)
    × (roll_schema (int v ∷ []) v (pos 65537) (pos 1) (codes "r") ≡ Err Window)
    × (roll_schema (int v ∷ []) v (pos 3) (pos 4) (codes "r") ≡ Err Samples)
    × (roll_schema (int v ∷ []) v (pos 3) (pos 1) v ≡ Ok (int v ∷ []))

-- what a `take` of these cells gives after those
abbrev pub sums_after : List Cell → List Cell → List Cell × Option ℕ
sums_after before cells = let sums = drop (length before) (rolled 2 1 (before ++ cells)) in (before_missing sums, first_missing sums)

abbrev pub TakeExamples : Type 0
TakeExamples = (sums_after [] (most ∷ Null ∷ []) ≡ (most ∷ most ∷ [], None))
    × (sums_after (most ∷ Null ∷ []) (n 1 ∷ []) ≡ (n 1 ∷ [], None))
    × (sums_after (most ∷ Null ∷ n 1 ∷ []) (most ∷ n 0 ∷ []) ≡ ([], Some 0))
