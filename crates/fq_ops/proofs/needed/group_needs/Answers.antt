use Rattle.std.proofs.Common.{true, false, map, string_bytes, refl, sym, ◌∙◌}
use Rattle.std.specs.Prelude.{flat_map}
use Rattle.fq_column.specs.Frame.{has_name}
use Rattle.fq_ops.specs.AggregateData.{outputs_of}
use Rattle.fq_ops.specs.Needed.{names_aggregated}
use Rattle.fq_ops.proofs.NeedLemmas.{aggregated-by, in-either}
use Rattle.fq_ops.proofs.needed.group_needs.Goals as goal

pub returns-then-contains : goal.returns-then-contains
returns-then-contains c =
    let read = flat_map (λ o. names_aggregated o.1) (outputs_of c.args.aggs.now) in
    c.if-contains.true ∙ in-either c.args.name.now (map string_bytes c.args.keys.now) read true (has_name read c.args.name.now) (sym c.if-contains.true ∙ c.contains.ensures) refl

pub returns-else-contains : goal.returns-else-contains
returns-else-contains c =
    in-either c.args.name.now (map string_bytes c.args.keys.now) (flat_map (λ o. names_aggregated o.1) (outputs_of c.args.aggs.now)) false c.some_reads.result
    (sym c.if-contains.false ∙ c.contains.ensures) (sym (c.some_reads.ensures ∙ aggregated-by c.args.name.now c.args.aggs.now))
