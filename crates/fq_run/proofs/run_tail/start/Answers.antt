use Rattle.std.proofs.Common.{List, [], subst}
use Rattle.fq_column.specs.Frame.{Frame}
use Rattle.fq_run.specs.Pipelines.{HasRun, Transforming}
use Rattle.fq_run.specs.Starting.{transforms_of}
use Rattle.fq_run.proofs.SourceFaultLemmas.{over-batches}
use Rattle.fq_run.proofs.run_tail.start.Goals as goal

pub start-requires : goal.start-requires
start-requires c =
    let r = c.requires in
    (r.0, over-batches c.args.sides.items c.in_ok-batches.batches.items c.args.before.now r.0 c.args.stages.now c.in_ok-batches.ensures.batches r.1)

pub returns-clause-started : goal.returns-clause-started
returns-clause-started c = (
  c.in_ok-batches.ensures.none,
  λ after fits.
      let batches = c.in_ok-batches.ensures.batches in
      subst (λ (fs : List Frame). HasRun c.in_ok-start.field-0.operators.items (let w : Transforming = record { before = c.args.before.now; transforms = transforms_of fs c.args.before.now c.args.stages.now; after = after } in w) [] []) batches
      (c.in_ok-start.ensures after (over-batches c.args.sides.items c.in_ok-batches.batches.items c.args.before.now after c.args.stages.now batches fits)),
)
