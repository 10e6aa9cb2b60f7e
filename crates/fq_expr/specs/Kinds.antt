-- The kind of an expression and the schema after a row-wise step, or the first refusal.
use Rattle.std.specs.Prelude.{ℕ, ◌+◌, Bool, not, ◌&&◌, List, [], ◌∷◌, map, filter, length, nat_lt, ◌==◌, Result, Ok, Err, if◌then◌else◌}
use Rattle.fq_column.specs.declared.cells.Kind.{Kind}
use Rattle.fq_column.specs.declared.cells.Kind.TheVariants.{Whole, Text, Truth}
use Rattle.fq_column.specs.declared.faults.StepFault.{StepFault}
use Rattle.fq_column.specs.declared.schemas.TheConstants.{MAX_COLUMNS}
use Rattle.fq_column.specs.declared.faults.StepFault.TheVariants.{WrongKind, DoubleName, NotBool, TooMany, NoColumn}
use Rattle.fq_column.specs.Cell.{same_kind}
use Rattle.fq_column.specs.Frame.{Fields, Name, names_of, same_name, has_name, put_all}
use Rattle.fq_column.specs.Lists.{is_distinct}
use Rattle.fq_column.specs.Refusal.{refuse_if, unless_refused, and_then}
use Rattle.fq_column.specs.Schema.{kind_named}
use Rattle.fq_expr.specs.declared.expressions.Unary.{Unary}
use Rattle.fq_expr.specs.declared.expressions.Unary.TheVariants.{Neg, Not, IsNull, IsNotNull}
use Rattle.fq_expr.specs.declared.expressions.Binary.{Binary}
use Rattle.fq_expr.specs.declared.expressions.Binary.TheVariants.{Add, Sub, Mul, FloorDiv, Mod, Eq, Ne, Lt, Le, Gt, Ge, EqMissing, And, Or, FillNull}
use Rattle.fq_expr.specs.Expression.{Expression, column, null, whole, text, truth, unary, binary, Item, Step, filter_by, with_columns, select}

-- the kind k, if the condition holds
abbrev pub kind_if : Bool → Kind → Result Kind StepFault
kind_if condition k = if condition then Ok k else Err WrongKind

abbrev pub unary_kind : Unary → Kind → Result Kind StepFault
unary_kind Neg a = kind_if (same_kind a Whole) Whole
unary_kind Not a = kind_if (same_kind a Truth) Truth
unary_kind IsNull a = Ok Truth
unary_kind IsNotNull a = Ok Truth

abbrev pub binary_kind : Binary → Kind → Kind → Result Kind StepFault
binary_kind Add a b = kind_if (same_kind a Whole && same_kind b Whole) Whole
binary_kind Sub a b = kind_if (same_kind a Whole && same_kind b Whole) Whole
binary_kind Mul a b = kind_if (same_kind a Whole && same_kind b Whole) Whole
binary_kind FloorDiv a b = kind_if (same_kind a Whole && same_kind b Whole) Whole
binary_kind Mod a b = kind_if (same_kind a Whole && same_kind b Whole) Whole
binary_kind Eq a b = kind_if (same_kind a b) Truth
binary_kind Ne a b = kind_if (same_kind a b) Truth
binary_kind Lt a b = kind_if (same_kind a b) Truth
binary_kind Le a b = kind_if (same_kind a b) Truth
binary_kind Gt a b = kind_if (same_kind a b) Truth
binary_kind Ge a b = kind_if (same_kind a b) Truth
binary_kind EqMissing a b = kind_if (same_kind a b) Truth
binary_kind And a b = kind_if (same_kind a Truth && same_kind b Truth) Truth
binary_kind Or a b = kind_if (same_kind a Truth && same_kind b Truth) Truth
binary_kind FillNull a b = kind_if (same_kind a b) a

-- the left part is judged first, then the right part, then the operation
abbrev pub kind_of : Fields → Expression → Result Kind StepFault
kind_of fields (column name) = kind_named fields name
kind_of fields (null k) = Ok k
kind_of fields (whole n) = Ok Whole
kind_of fields (text t) = Ok Text
kind_of fields (truth b) = Ok Truth
kind_of fields (unary op e) = and_then (kind_of fields e) (unary_kind op)
kind_of fields (binary op d e) = and_then (kind_of fields d) (λ a. and_then (kind_of fields e) (binary_kind op a))

-- the fields that items make, item by item
abbrev pub item_fields : Fields → List Item → Result Fields StepFault
item_fields fields [] = Ok []
item_fields fields (i ∷ items) = and_then (kind_of fields i.1) (λ k. and_then (item_fields fields items) (λ rest. Ok ((i.0, k) ∷ rest)))

-- how many of the names are not among the columns
abbrev pub count_new : Fields → List Name → ℕ
count_new fields names = length (filter (λ n. not (has_name (names_of fields) n)) names)

abbrev pub item_names : List Item → List Name
item_names items = map (λ i. i.0) items

-- the schema after a step, or its first refusal
abbrev pub step_schema : Fields → Step → Result Fields StepFault
step_schema fields (filter_by e) = and_then (kind_of fields e) (λ k.
    unless_refused (refuse_if (not (same_kind k Truth)) NotBool ∷ []) fields)
step_schema fields (with_columns items) = and_then (item_fields fields items) (λ outputs.
    unless_refused (refuse_if (nat_lt MAX_COLUMNS (length fields + count_new fields (item_names items))) TooMany
    ∷ refuse_if (not (is_distinct same_name (item_names items))) DoubleName ∷ [])
    (put_all fields outputs))
step_schema fields (select items) = and_then (unless_refused (refuse_if (length items == 0) NoColumn ∷ []) items) (λ items.
    and_then (item_fields fields items) (λ outputs.
    unless_refused (refuse_if (nat_lt MAX_COLUMNS (length items)) TooMany
    ∷ refuse_if (not (is_distinct same_name (item_names items))) DoubleName ∷ [])
    outputs))

-- the schema after steps in a row, or the first refusal
abbrev pub steps_schema : Fields → List Step → Result Fields StepFault
steps_schema fields [] = Ok fields
steps_schema fields (s ∷ steps) = and_then (step_schema fields s) (λ after. steps_schema after steps)
