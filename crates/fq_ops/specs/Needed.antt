-- The columns that joins, groupings and rolling sums need of their rows, by those that are needed after them (Polars, "projection
-- pushdown"; the live variables of a compiler).
use Rattle.std.specs.Prelude.{not, List, [], ◌∷◌, ◌++◌, filter, flat_map}
use Rattle.fq_column.specs.Frame.{Name, same_name}
use Rattle.fq_ops.specs.Aggregate.{Aggregate, len, over, Output}

-- a join, of its left rows: its keys, and what is needed after it
abbrev pub needed_before_join : List Name → List Name → List Name
needed_before_join on needed = on ++ needed

-- the column that an aggregate reads
abbrev pub names_aggregated : Aggregate → List Name
names_aggregated len = []
names_aggregated (over f n) = n ∷ []

-- a grouping: its keys and what its aggregates read, whatever is needed after it
abbrev pub needed_before_groups : List Name → List Output → List Name
needed_before_groups keys outputs = keys ++ flat_map (λ o. names_aggregated o.1) outputs

-- a rolling sum: its column, and what is needed after it and not put by it
abbrev pub needed_before_roll : Name → Name → List Name → List Name
needed_before_roll column name needed = column ∷ filter (λ n. not (same_name name n)) needed
