use Rattle.std.proofs.Common.{◌≡◌, ◌++◌, ◌≤◌, replicate}
use Rattle.fq_run.proofs.openings.push_layouts.Given as goal

abbrev pub invariant-loop : goal.invariant-loop
invariant-loop l = (l.layouts.items ≡ l.fn.layouts.items ++ replicate l.counter l.source.layout) × (l.counter ≤ l.source.files)
