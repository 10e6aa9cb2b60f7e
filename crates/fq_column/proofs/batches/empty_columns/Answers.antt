use Rattle.std.proofs.Common.{◌++◌, ◌∙◌, ◌∷◌, [], sym}
use Rattle.std.proofs.lemmas.Option.{get_or_from_slice_get, slice_get_within}
use Rattle.fq_column.specs.Batch.{without_cells}
use Rattle.fq_column.specs.Frame.{kinds_of}
use Rattle.fq_column.proofs.BatchLemmas.{map-take-step}
use Rattle.fq_column.proofs.batches.empty_columns.Goals as goal

pub loop-i-preserved : goal.loop-i-preserved
loop-i-preserved c =
    let kinds = kinds_of c.args.schema.now in
    let i = c.loop-i.i in
    let kind = c.kind.result in
    c.in_ok-push.ensures.items
    ∙ (λ j. c.loop-i.invariant j ++ c.in_ok-with_capacity.ensures j ∷ [])
    ∙ sym (map-take-step without_cells kinds i kind (slice_get_within kinds i kind c.kind.ensures) (sym (get_or_from_slice_get kinds i kind kind c.kind.ensures)))
