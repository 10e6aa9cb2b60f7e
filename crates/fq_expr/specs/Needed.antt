-- The columns that an expression reads, and those that a row-wise step needs of its rows, by those that are needed after it (Polars,
-- "projection pushdown"; the live variables of a compiler, backwards through the steps).
use Rattle.std.specs.Prelude.{not, List, [], ◌∷◌, ◌++◌, filter, flat_map}
use Rattle.fq_column.specs.Frame.{Name, has_name}
use Rattle.fq_expr.specs.Expression.{Expression, column, null, whole, text, truth, unary, binary, Item, Step, filter_by, with_columns, select}
use Rattle.fq_expr.specs.Kinds.{item_names}

-- the columns that an expression names
abbrev pub names_read : Expression → List Name
names_read (column name) = name ∷ []
names_read (null k) = []
names_read (whole n) = []
names_read (text t) = []
names_read (truth b) = []
names_read (unary op e) = names_read e
names_read (binary op d e) = names_read d ++ names_read e

abbrev pub names_read_by : List Item → List Name
names_read_by items = flat_map (λ i. names_read i.1) items

-- what its expressions read, as each of them is evaluated and may fault, and what is needed after it and not put by it
abbrev pub needed_before : Step → List Name → List Name
needed_before (filter_by e) needed = names_read e ++ needed
needed_before (with_columns items) needed = names_read_by items ++ filter (λ n. not (has_name (item_names items) n)) needed
needed_before (select items) needed = names_read_by items
