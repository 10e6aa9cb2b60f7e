use Rattle.std.proofs.Common.{rules, [], ◌∷◌, ◌++◌, length, arith, subst, sym, length-append, ap, ◌∙◌}
use Rattle.fq_lanes.specs.Lane.{put_items, taken_items}
use Rattle.fq_lanes.specs.WorkerThread.{Replied}
use Rattle.fq_lanes.specs.declared.messages.ToWorker.TheVariants.{Do, Stop}
use Rattle.fq_lanes.proofs.WorkerThreadLemmas.{replied_ahead, replied_both}
use Rattle.fq_lanes.proofs.worker_thread.run_worker.Goals as goal

pub returns-in-Some-Stop-clause-replied : goal.returns-in-Some-Stop-clause-replied
returns-in-Some-Stop-clause-replied g c =
    let gives = g.W.Work.gives c.args.work.now in
    let took = rw c.in-Some-Stop.field-0-is at c.in-Some-Stop.ensures.taken in
    subst (λ os. Replied gives os (put_items c.loop.answers)) (sym took)
    (replied_ahead gives (taken_items c.loop.jobs) (Stop ∷ []) (put_items c.loop.answers) c.loop.invariant.replied)

pub loop-preserved : goal.loop-preserved
loop-preserved g c =
    let gives = g.W.Work.gives c.args.work.now in
    let was = c.loop.invariant in
    let took = c.wake_hub.ensures.taken ∙ rw c.in-Some-Do.field-0-is at c.in-Some-Do.ensures.taken in
    let gave = c.put_quietly.ensures.put in
    let both = replied_both gives (taken_items c.loop.jobs) c.in-Some-Do.job (put_items c.loop.answers) c.work-answer.result was.replied was.even c.work-answer.ensures in
    let after = subst (λ rs. Replied gives (taken_items c.loop.jobs ++ Do c.in-Some-Do.job ∷ []) rs) (sym gave) both in
    record {
      jobs = search rules;
      answers = search rules;
      replied = subst (λ os. Replied gives os (put_items c.put_quietly.new.put)) (sym took) after;
      even = omega (arith, ap length took, ap length gave, length-append (taken_items c.loop.jobs) (Do c.in-Some-Do.job ∷ []), length-append (put_items c.loop.answers) (c.work-answer.result ∷ []), was.even);
    }
