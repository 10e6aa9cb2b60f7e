use Rattle.std.proofs.Common.{◌∙◌, ap, map}
use Rattle.fq_column.specs.Batch.{frame_of, kind_of_cells}
use Rattle.fq_column.specs.Frame.{Frame, kinds_of}
use Rattle.fq_column.proofs.FaultLemmas.{height-without, kinds-without, lengths-without, rows-without}
use Rattle.fq_column.proofs.batches.Batch.empty.Goals as goal

pub new-requires-clause-kinds : goal.new-requires-clause-kinds
new-requires-clause-kinds c = ap (map kind_of_cells) c.in_ok-columns.ensures.columns ∙ kinds-without (kinds_of c.args.schema)

pub new-requires-clause-lengths : goal.new-requires-clause-lengths
new-requires-clause-lengths c = rw c.in_ok-columns.ensures.columns (lengths-without (kinds_of c.args.schema))

pub returns : goal.returns
returns c =
    let kinds = kinds_of c.args.schema in
    c.new.ensures ∙ ap (frame_of c.args.schema) c.in_ok-columns.ensures.columns
    ∙ ap (λ rows. let f : Frame = record { fields = c.args.schema; rows = rows } in f) (rows-without kinds _ (height-without kinds))
