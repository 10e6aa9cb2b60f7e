use Rattle.std.specs.Prelude.{IfSome}
use Rattle.std.proofs.Common.{ℕ, Bool, Option, Some, None, true, false, if◌then◌else◌, sym, subst, ap, ◌∙◌}
use Rattle.fq_lanes.specs.Faults.{Precedes, fault_at}
use Rattle.fq_lanes.specs.WorkerLanes.{worker_views}
use Rattle.fq_lanes.specs.HubView.{any_refused}
use Rattle.fq_lanes.specs.declared.faults.FeedFault.{FeedFault}
use Rattle.fq_lanes.specs.declared.faults.RunFault.{RunFault}
use Rattle.fq_lanes.specs.declared.faults.RunFault.TheVariants.{Memory}
use Rattle.fq_lanes.proofs.drains.drain_all.Goals as goal

-- a refusal takes precedence over what the other fault does
still : (b : Bool) (first other : RunFault) → Precedes first other → Precedes (if b then Memory else first) other
still true first other h = tt
still false first other h = h

all-still : (b : Bool) (first : RunFault) (end : Option FeedFault) (file : ℕ) → IfSome end (λ e. Precedes first (fault_at e file)) → IfSome end (λ e. Precedes (if b then Memory else first) (fault_at e file))
all-still b first None file h = tt
all-still b first (Some e) file h = still b first (fault_at e file) h

pub returns-clause-given : goal.returns-clause-given
returns-clause-given g c =
    subst (λ (f : RunFault). Precedes f c.args.fault) (sym c.drain_workers.ensures.fault)
    (still (any_refused (worker_views c.args.workers.now.items) (worker_views c.drain_workers.new.workers.items)) c.drain_lanes-of_feeds.result c.args.fault c.drain_lanes-of_feeds.ensures.given)

pub returns-clause-theirs : goal.returns-clause-theirs
returns-clause-theirs g c file old new was is going =
    let found = c.drain_lanes-of_feeds.ensures.theirs file old new was is going in (
      found.0,
      found.1,
      subst (λ (f : RunFault). IfSome found.0 (λ e. Precedes f (fault_at e file))) (sym c.drain_workers.ensures.fault)
          (all-still (any_refused (worker_views c.args.workers.now.items) (worker_views c.drain_workers.new.workers.items)) c.drain_lanes-of_feeds.result found.0 file found.2),
    )

pub returns-clause-refused : goal.returns-clause-refused
returns-clause-refused g c some = c.drain_workers.ensures.fault ∙ ap (λ (b : Bool). if b then Memory else c.drain_lanes-of_feeds.result) some

pub returns-clause-blames : goal.returns-clause-blames
returns-clause-blames g c b = c.drain_workers.ensures.blames _ (c.drain_lanes-of_feeds.ensures.blames b)

pub returns-clause-precedes : goal.returns-clause-precedes
returns-clause-precedes g c p file told e at end =
    subst (λ (f : RunFault). Precedes f (fault_at e file)) (sym c.drain_workers.ensures.fault)
    (still (any_refused (worker_views c.args.workers.now.items) (worker_views c.drain_workers.new.workers.items)) c.drain_lanes-of_feeds.result (fault_at e file) (c.drain_lanes-of_feeds.ensures.precedes p file told e at end))
