-- The plan language: the plan that a JSON text spells. A name is any string; members may stand in any order.
use Rattle.std.specs.Prelude.{ℕ, ◌==◌, nat_le, Bool, false, List, [], ◌∷◌, codes, sum_by, Option, Some, None, option_map, ok_or, Result, Err, if◌then◌else◌}
use Rattle.std.specs.Str.{is_utf8}
use Rattle.serde_json.specs.Data.{Data, boolean, number, string, array, object, no_items, item}
use Rattle.serde_json.specs.Find.{as_bool, as_i64}
use Rattle.serde_json.specs.Read.{read}
use Rattle.fq_column.specs.declared.cells.Kind.{Kind}
use Rattle.fq_column.specs.declared.cells.Kind.TheVariants as kind
use Rattle.fq_column.specs.Frame.{Name}
use Rattle.fq_expr.specs.declared.expressions.Unary.{Unary}
use Rattle.fq_expr.specs.declared.expressions.Unary.TheVariants.{Neg, Not, IsNull, IsNotNull}
use Rattle.fq_expr.specs.declared.expressions.Binary.{Binary}
use Rattle.fq_expr.specs.declared.expressions.Binary.TheVariants.{Add, Sub, Mul, FloorDiv, Mod, Eq, Ne, Lt, Le, Gt, Ge, EqMissing, And, Or, FillNull}
use Rattle.fq_expr.specs.Expression as expr
use Rattle.fq_ops.specs.declared.aggregates.Function.{Function}
use Rattle.fq_ops.specs.declared.aggregates.Function.TheVariants as function
use Rattle.fq_ops.specs.declared.joins.How.{How}
use Rattle.fq_ops.specs.declared.joins.How.TheVariants.{Inner, Left, Semi, Anti}
use Rattle.fq_ops.specs.Aggregate.{Aggregate, len, over, Output}
use Rattle.fq_language.specs.Parts.{given, only_if, word, name_of, whole, whole_from_to, each_of, with_length, two_items, three_items, pair_of, has_members, member, one_member}
use Rattle.fq_language.specs.Plan.{PlanStep, row_wise, join, group_by, rolling_sum, PlanData}
use Rattle.fq_csv.specs.Sources.{Source}
use Rattle.fq_csv.specs.Words.{kind_word}
use Rattle.fq_language.specs.declared.faults.PlanFault.{PlanFault}
use Rattle.fq_language.specs.declared.faults.PlanFault.TheVariants.{Json, Shape}
use Rattle.fq_language.specs.declared.plans.Version.{Version}
use Rattle.fq_language.specs.declared.plans.Version.TheVariants.{One, Two}
use Rattle.fq_expr.specs.declared.fronts.TheConstants.{MAX_STEPS}
use Rattle.fq_language.specs.declared.plans.TheConstants.{MAX_NULL_VALUES, MAX_SOURCES}
use Rattle.fq_csv.specs.declared.sources.TheConstants.{MAX_FILES}

-- ---- expressions

abbrev pub kinds : List (Name × Kind)
kinds = (kind_word kind.Whole, kind.Whole) ∷ (kind_word kind.Text, kind.Text) ∷ (kind_word kind.Truth, kind.Truth) ∷ []

abbrev pub unaries : List (Name × Unary)
unaries = (codes "neg", Neg) ∷ (codes "not", Not) ∷ (codes "is_null", IsNull) ∷ (codes "is_not_null", IsNotNull) ∷ []

abbrev pub binaries : List (Name × Binary)
binaries =
    (codes "add", Add) ∷ (codes "sub", Sub) ∷ (codes "mul", Mul) ∷ (codes "floordiv", FloorDiv) ∷ (codes "mod", Mod)
    ∷ (codes "eq", Eq) ∷ (codes "ne", Ne) ∷ (codes "lt", Lt) ∷ (codes "le", Le) ∷ (codes "gt", Gt) ∷ (codes "ge", Ge)
    ∷ (codes "eq_missing", EqMissing) ∷ (codes "and", And) ∷ (codes "or", Or) ∷ (codes "fill_null", FillNull) ∷ []

-- {"col": NAME} and {"null": KIND}
abbrev pub leaf : Data → Option expr.Expression
leaf = one_member ((codes "col", λ d. option_map expr.column (name_of d)) ∷ (codes "null", λ d. option_map expr.null (word kinds d)) ∷ [])

-- a literal, a leaf, [UNARY, e] or [BINARY, e, e]
abbrev pub expression : Data → Option expr.Expression
expression (boolean b) = Some (expr.truth b)
expression (number n) = option_map expr.whole (as_i64 n)
expression (string s) = Some (expr.text s)
expression (array (item op (item e no_items))) = given (word unaries op) (λ u. option_map (expr.unary u) (expression e))
expression (array (item op (item d (item e no_items)))) = given (word binaries op) (λ b. given (expression d) (λ x. option_map (expr.binary b x) (expression e)))
expression (object ms) = leaf (object ms)
expression _ = None

-- ---- steps

-- [[NAME, e], ..]
abbrev pub outputs : Data → Option (List expr.Item)
outputs = each_of (pair_of name_of expression)

-- [NAME, ..]
abbrev pub names : Data → Option (List Name)
names = each_of name_of

abbrev pub hows : Version → List (Name × How)
hows One = (codes "inner", Inner) ∷ (codes "left", Left) ∷ []
hows Two = (codes "inner", Inner) ∷ (codes "left", Left) ∷ (codes "semi", Semi) ∷ (codes "anti", Anti) ∷ []

-- {"source": a whole number, "on": [NAME, ..], "how": HOW}, where a null matches a null or nothing
abbrev pub join_with : Version → Option Bool → Data → Option PlanStep
join_with version nulls_equal d =
    given (member (codes "source") whole d) (λ source.
    given (member (codes "on") names d) (λ on.
    given (member (codes "how") (word (hows version)) d) (λ how.
    option_map (λ equal. join source on how equal) nulls_equal)))

-- in version 2 also with "nulls_equal": true or false
abbrev pub join_of : Version → Data → Option PlanStep
join_of One d = only_if (has_members 3 d) (join_with One (Some false) d)
join_of Two d =
    if has_members 3 d then join_with Two (Some false) d
    else only_if (has_members 4 d) (join_with Two (member (codes "nulls_equal") as_bool d) d)

abbrev pub row_counts : List (Name × Aggregate)
row_counts = (codes "len", len) ∷ []

abbrev pub functions : List (Name × Function)
functions =
    (codes "sum", function.Sum) ∷ (codes "min", function.Min) ∷ (codes "max", function.Max) ∷ (codes "count", function.Count)
    ∷ (codes "first", function.First) ∷ (codes "last", function.Last) ∷ (codes "n_unique", function.NUnique) ∷ []

-- [NAME, "len"]
abbrev pub of_rows : Data × Data → Option Output
of_rows items = given (name_of items.0) (λ name. option_map (λ f. (name, f)) (word row_counts items.1))

-- [NAME, FUNCTION, COLUMN]
abbrev pub of_column : Data × Data × Data → Option Output
of_column items =
    given (name_of items.0) (λ name.
    given (name_of items.2) (λ column.
    option_map (λ f. (name, over f column)) (word functions items.1)))

abbrev pub aggregate : Data → Option Output
aggregate d = elim (two_items d) [ Some items ↦ of_rows items | None ↦ given (three_items d) of_column ]

-- {"keys": [NAME, ..], "aggs": [AGGREGATE, ..]}
abbrev pub group_of : Data → Option PlanStep
group_of d = only_if (has_members 2 d)
    (given (member (codes "keys") names d) (λ keys.
    given (member (codes "aggs") (each_of aggregate) d) (λ aggs.
    Some (group_by keys aggs))))

-- {"column": NAME, "window": a whole number, "name": NAME}, with the least number of values under this name
abbrev pub roll_with : Name → Data → Option PlanStep
roll_with samples d =
    given (member (codes "column") name_of d) (λ column.
    given (member (codes "window") whole d) (λ window.
    given (member samples whole d) (λ m.
    given (member (codes "name") name_of d) (λ name.
    Some (rolling_sum column window m name)))))

-- with "min_samples", or else the window's number
abbrev pub roll_of : Data → Option PlanStep
roll_of d =
    if has_members 3 d then roll_with (codes "window") d
    else only_if (has_members 4 d) (roll_with (codes "min_samples") d)

abbrev pub step_of : Version → Data → Option PlanStep
step_of version = one_member
    ((codes "filter", λ d. option_map (λ e. row_wise (expr.filter_by e)) (expression d))
    ∷ (codes "with_columns", λ d. option_map (λ items. row_wise (expr.with_columns items)) (outputs d))
    ∷ (codes "select", λ d. option_map (λ items. row_wise (expr.select items)) (outputs d))
    ∷ (codes "join", join_of version)
    ∷ (codes "group_by", group_of)
    ∷ (codes "rolling_sum", roll_of) ∷ [])

-- ---- plans

-- {"files": 1 to 16, "columns": [[NAME, KIND], ..]}, where these texts are null
abbrev pub source_with : Option (List (List ℕ)) → Data → Option Source
source_with null_texts d =
    given (member (codes "files") (whole_from_to 1 MAX_FILES) d) (λ files.
    given (member (codes "columns") (each_of (pair_of name_of (word kinds))) d) (λ fields.
    option_map (λ texts. record { files = files; fields = fields; nulls = texts; notations = []; projection = [] }) null_texts))

-- in version 2 also with "null_values": 0 to 16 texts
abbrev pub source_of : Version → Data → Option Source
source_of One d = only_if (has_members 2 d) (source_with (Some []) d)
source_of Two d =
    if has_members 2 d then source_with (Some []) d
    else only_if (has_members 3 d) (source_with (with_length 0 MAX_NULL_VALUES (member (codes "null_values") names d)) d)

-- 1 or 2
abbrev pub version_of : Data → Option Version
version_of d = option_map (λ n. if n == 1 then One else Two) (whole_from_to 1 2 d)

-- {"version": 1 or 2, "sources": 1 to 8 sources with 16 files in all at most, "steps": 0 to 64 steps}
abbrev pub plan_of : Data → Option PlanData
plan_of d = only_if (has_members 3 d)
    (given (member (codes "version") version_of d) (λ version.
    given (with_length 1 MAX_SOURCES (member (codes "sources") (each_of (source_of version)) d)) (λ sources.
    given (with_length 0 MAX_STEPS (member (codes "steps") (each_of (step_of version)) d)) (λ steps.
    only_if (nat_le (sum_by (λ s. s.files) sources) MAX_FILES) (Some (record { sources = sources; steps = steps; notations = [] }))))))

-- the value that bytes are, if they are JSON
abbrev pub json_of : List ℕ → Option Data
json_of bytes = only_if (is_utf8 bytes) (read bytes)

-- the plan that bytes spell, or why they spell none
abbrev pub read_as_plan : List ℕ → Result PlanData PlanFault
read_as_plan bytes = elim (json_of bytes) [ None ↦ Err Json | Some d ↦ ok_or (plan_of d) Shape ]
