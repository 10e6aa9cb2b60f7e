use Rattle.std.proofs.Common.{◌≡◌, Ok, ap, subst, ◌∙◌}
use Rattle.fq_column.specs.declared.cells.Kind.{Kind}
use Rattle.fq_column.specs.Frame.{has_name, names_of}
use Rattle.fq_ops.specs.AggregateData.{aggregate_of}
use Rattle.fq_ops.specs.Group.{aggregate_kind}
use Rattle.fq_ops.specs.declared.aggregates.What.{What}
use Rattle.fq_ops.proofs.AggregateLemmas.{column-known}
use Rattle.fq_ops.proofs.groups.resolve.Goals as goal

pub place_of-requires : goal.place_of-requires
place_of-requires c =
    let fields = c.args.schema.now in
    let known = subst (λ (w : What). (k : Kind) × (aggregate_kind fields (aggregate_of w) ≡ Ok k)) c.in-Of.is c.requires.known in
    ap (has_name (names_of fields)) c.as_str.ensures.value ∙ column-known fields _ _ known.0 known.1
