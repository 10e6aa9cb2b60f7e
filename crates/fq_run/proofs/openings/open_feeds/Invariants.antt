use Rattle.std.proofs.Common.{◌≡◌, ◌++◌, ◌+◌, length}
use Rattle.fq_run.specs.EngineRun.{opened}
use Rattle.fq_run.proofs.openings.open_feeds.Given as goal

abbrev pub invariant-loop-reader : goal.invariant-loop-reader
invariant-loop-reader g l =
    (l.feeds.items ++ opened (g.R.Read.remaining) l.batch_size (length l.feeds.items) l.layouts.rest.items l.reader-iterator.rest.items ≡ opened (g.R.Read.remaining) l.batch_size 0 l.fn.layouts.items l.fn.inputs.items)
    × (length l.layouts.rest.items ≡ length l.reader-iterator.rest.items)
    × (length l.feeds.items + length l.reader-iterator.rest.items ≡ length l.fn.inputs.items)
