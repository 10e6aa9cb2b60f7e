use Rattle.std.proofs.Common.{◌≡◌, ◌++◌, flat_map}
use Rattle.fq_run.specs.PrintedText.{rows_text}
use Rattle.fq_run.proofs.printed_text.PrintedText.of_rows.Given as goal

abbrev pub invariant-loop-batch : goal.invariant-loop-batch
invariant-loop-batch l =
    (l.fn.batches.items ≡ l.yielded ++ l.batch-iterator.rest.items)
    × (flat_map (λ piece. piece.items) l.pieces.items ≡ rows_text l.fn.notations l.yielded)
