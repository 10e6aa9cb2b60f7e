-- The notation of a column that a step makes: by what its expression stands for, and by what its name says.
use Rattle.std.specs.Prelude.{◌&&◌, ◌||◌, ◌+◌, ◌++◌, Bool, true, false, ℕ, List, [], ◌∷◌, Some, None, Result, Ok, Err, slice_index_or, if◌then◌else◌}
use Rattle.std.specs.Result.{result_map_both}
use Rattle.fq_column.specs.Frame.{Fields, Name, same_name}
use Rattle.fq_notation.specs.Naming.{column_followed, days_noted, is_digits, notation_at, notation_said, noted_before, numbers_noted}
use Rattle.fq_notation.specs.Notation.{Named}
use Rattle.fq_notation.specs.declared.notations.Notation.{Notation}
use Rattle.fq_notation.specs.declared.notations.Notation.TheVariants.{Plain}
use Rattle.fq_expr.specs.declared.expressions.Binary.{Binary}
use Rattle.fq_expr.specs.declared.expressions.Binary.TheVariants.{Mul, Mod}
use Rattle.fq_notation.specs.declared.followed.Followed.TheVariants.{Numbers, Days, Others}
use Rattle.fq_notation.specs.declared.naming.Made.{Made}
use Rattle.fq_notation.specs.declared.naming.Said.{Said}
use Rattle.fq_notation.specs.declared.naming.Said.TheVariants as says
use Rattle.fq_notation.specs.declared.naming.StepUnnoted.{StepUnnoted}
use Rattle.fq_notation.specs.declared.naming.StepUnnoted.TheVariants as step
use Rattle.fq_notation.specs.declared.naming.Unnoted.{Unnoted}
use Rattle.fq_notation.specs.declared.naming.Unnoted.TheVariants.{Differ}
use Rattle.fq_expr.specs.Expression.{Expression, column, null, whole, text, truth, unary, binary, Item, Step, filter_by, with_columns, select}
use Rattle.fq_expr.specs.Followed.{followed, has_columns}

-- ---- what an expression is made of

abbrev pub is_product : Binary → Bool
is_product Mul = true
is_product op = false

-- whether something that reads a column is multiplied
abbrev pub multiplies : Expression → Bool
multiplies (column name) = false
multiplies (null k) = false
multiplies (whole n) = false
multiplies (text t) = false
multiplies (truth b) = false
multiplies (unary op e) = multiplies e
multiplies (binary op d e) = (is_product op && (has_columns d || has_columns e)) || multiplies d || multiplies e

abbrev pub is_mod : Binary → Bool
is_mod Mod = true
is_mod op = false

-- whether an expression is itself a remainder
abbrev pub is_remainder : Expression → Bool
is_remainder (column name) = false
is_remainder (null k) = false
is_remainder (whole n) = false
is_remainder (text t) = false
is_remainder (truth b) = false
is_remainder (unary op e) = false
is_remainder (binary op d e) = is_mod op

module _ (fields : Fields) (named : List Named) where
  -- whether all columns that an expression reads are
  abbrev pub are_digits : Bool → Expression → Bool
  are_digits days (column name) = is_digits days (column_followed fields named name)
  are_digits days (null k) = true
  are_digits days (whole n) = true
  are_digits days (text t) = true
  are_digits days (truth b) = true
  are_digits days (unary op e) = are_digits days e
  are_digits days (binary op d e) = are_digits days d && are_digits days e

-- ---- items

-- whether an expression is a column of this name
abbrev pub is_itself : Name → Expression → Bool
is_itself name (column other) = same_name name other
is_itself name e = false

module _ (fields : Fields) (named : List Named) where
  abbrev pub made_of : Expression → Made
  made_of e = record { digits = are_digits fields named false e; of_digits = are_digits fields named true e; multiplied = multiplies e; remainder = is_remainder e }

  -- the notation of an item's ints, or why it has none; that of other kinds is digits
  abbrev pub expression_noted : Said → Expression → Result Notation Unnoted
  expression_noted said e = elim (followed fields named e) [
    | None ↦ Err Differ
    | Some (Numbers scales) ↦ if has_columns e then numbers_noted said (made_of e) scales else Ok (notation_said said)
    | Some Days ↦ days_noted said
    | Some Others ↦ Ok Plain
  ]

  -- the notation of an item; that of a column under its own name stays
  abbrev pub item_noted : Said → Item → Result Notation Unnoted
  item_noted said i = if is_itself i.0 i.1 then Ok (notation_at fields named i.0) else expression_noted said i.1

  -- below, what the names of the items say, by their places; of an item past them nothing is said
  module _ (said : List Said) where
    -- the names of items, numbered from n, each with its notation, or the first that has none
    abbrev pub items_noted : ℕ → List Item → Result (List Named) StepUnnoted
    items_noted n [] = Ok []
    items_noted n (i ∷ items) = noted_before i.0 (step.Item n) (item_noted (slice_index_or said n says.Nothing) i) (items_noted (n + 1) items)

    -- the notations after a step, under the names of its columns
    abbrev pub step_noted : Step → Result (List Named) StepUnnoted
    step_noted (filter_by e) = elim (followed fields named e) [ None ↦ Err (step.Step Differ) | Some test ↦ Ok named ]
    step_noted (with_columns items) = result_map_both (λ made. made ++ named) (λ why. why) (items_noted 0 items)
    step_noted (select items) = items_noted 0 items
