-- What an aggregate of the program spells.
use Rattle.std.specs.Prelude.{List, map, string_bytes}
use Rattle.fq_ops.specs.declared.aggregates.What.{What}
use Rattle.fq_ops.specs.declared.aggregates.What.TheVariants.{Len, Of}
use Rattle.fq_ops.specs.declared.aggregates.Agg.{Agg}
use Rattle.fq_ops.specs.Aggregate.{Aggregate, len, over, Output}

abbrev pub aggregate_of : What → Aggregate
aggregate_of Len = len
aggregate_of (Of f n) = over f (string_bytes n)

abbrev pub outputs_of : List Agg → List Output
outputs_of aggs = map (λ a. (string_bytes a.name, aggregate_of a.what)) aggs
