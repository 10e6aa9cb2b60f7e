-- What makes the groups of all rows of the groups of their parts (partial aggregates, as of MapReduce's combiners).
use Rattle.std.specs.Prelude.{Option, Some, None}
use Rattle.std.specs.Option.{option_map}
use Rattle.fq_ops.specs.declared.aggregates.Function.{Function}
use Rattle.fq_ops.specs.declared.aggregates.Function.TheVariants as function
use Rattle.fq_ops.specs.Aggregate.{len, over, Output}

-- the function that makes of a function's values over parts, in order, its value over all of them; the numbers of distinct cells of parts
-- do not tell that of all
abbrev pub over_parts : Function → Option Function
over_parts function.Sum = Some function.Sum
over_parts function.Min = Some function.Min
over_parts function.Max = Some function.Max
over_parts function.Count = Some function.Sum
over_parts function.Len = Some function.Sum
over_parts function.First = Some function.First
over_parts function.Last = Some function.Last
over_parts function.NUnique = None

-- an output of the groups of parts, again: of the column that it has there
abbrev pub output_over_parts : Output → Option Output
output_over_parts (n, len) = Some (n, over function.Sum n)
output_over_parts (n, over f column) = option_map (λ g. (n, over g n)) (over_parts f)
