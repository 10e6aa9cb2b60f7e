use Rattle.std.proofs.Common.{rules, ◌≡◌, [], map, length, sym, subst, ◌∙◌}
use Rattle.fq_lanes.specs.Inlet.{opened, DrainsOne}
use Rattle.fq_lanes.specs.Beside.{Each}
use Rattle.fq_lanes.specs.Sink.{file_count}
use Rattle.fq_lanes.specs.declared.hub.Hub.{Hub}
use Rattle.fq_lanes.proofs.InletLemmas.{gave_none, gave_drains}
use Rattle.fq_lanes.proofs.NothingReadLemmas.{begins, drains_open, no_offers, stops_at_once}
use Rattle.fq_lanes.proofs.rounds.run_rounds.Goals as goal

pub returns-in-Err-clause-stopped : goal.returns-in-Err-clause-stopped
returns-in-Err-clause-stopped g c = stops_at_once g.F.Feed.gives (g.W.Work.gives c.args.work.now) g.S.Tail.takes g.S.Tail.refuses c.args.feeds.items c.args.tail g.met.F.Feed.satisfiable

pub drain_inlets-requires-clause-open : goal.drain_inlets-requires-clause-open
drain_inlets-requires-clause-open g c =
    let drains = gave_drains g.F.Feed.gives g.F.Feed.is_open g.F.Feed.may_fail g.F.Feed.most c.args.feeds.items (map (λ _. []) c.args.feeds.items) (map opened c.args.feeds.items)
    (gave_none g.F.Feed.gives g.F.Feed.is_open g.F.Feed.may_fail g.F.Feed.most c.args.feeds.items g.met.F.Feed.few c.requires.open) in
    drains_open g.F.Feed.is_open g.F.Feed.may_fail c.args.feeds.items c.in-Ok.inlets.items (subst (λ l. Each (DrainsOne g.F.Feed.is_open g.F.Feed.may_fail) c.args.feeds.items l) (sym c.in-Ok.ensures) drains)

pub returns-in_default-clause-stopped : goal.returns-in_default-clause-stopped
returns-in_default-clause-stopped g c = stops_at_once g.F.Feed.gives (g.W.Work.gives c.args.work.now) g.S.Tail.takes g.S.Tail.refuses c.args.feeds.items c.args.tail g.met.F.Feed.satisfiable

pub returns-in_default-clause-fault : goal.returns-in_default-clause-fault
returns-in_default-clause-fault g c =
    let drains = gave_drains g.F.Feed.gives g.F.Feed.is_open g.F.Feed.may_fail g.F.Feed.most c.args.feeds.items (map (λ _. []) c.args.feeds.items) (map opened c.args.feeds.items)
    (gave_none g.F.Feed.gives g.F.Feed.is_open g.F.Feed.may_fail g.F.Feed.most c.args.feeds.items g.met.F.Feed.few c.requires.open) in
    c.drain_inlets.ensures.blames c.args.feeds.items (subst (λ l. Each (DrainsOne g.F.Feed.is_open g.F.Feed.may_fail) c.args.feeds.items l) (sym c.in-Ok.ensures) drains) tt

pub run_open-outcome-requires-clause-round : goal.run_open-outcome-requires-clause-round
run_open-outcome-requires-clause-round g c _ _ =
    let hub : Hub g.row.S.Denot g.row.W-Out.Denot = record { sink = c.in-Ok-new.sink; tail = c.args.tail; trace = c.new-2.result } in
    let files : file_count c.in-Ok-new.sink ≡ length c.args.feeds.items = c.in-Ok-new.ensures.made.0 ∙ (search rules) in (
      c.args.feeds.items,
      c.args.tail,
      map (λ _. []) c.args.feeds.items,
      [],
      begins g.F.Feed.gives g.F.Feed.is_open g.F.Feed.may_fail g.F.Feed.most g.S.Tail.takes c.args.feeds.items c.in-Ok.inlets.items hub g.met.F.Feed.few c.requires.open c.in-Ok.ensures c.in-Ok-new.ensures.made.1 files c.new-2.ensures.items,
      no_offers (g.W.Work.gives c.args.work.now) (map (λ _. []) c.args.feeds.items),
    )

pub returns-in-Ok-outcome-clause-done : goal.returns-in-Ok-outcome-clause-done
returns-in-Ok-outcome-clause-done g c =
    let hub : Hub g.row.S.Denot g.row.W-Out.Denot = record { sink = c.in-Ok-new.sink; tail = c.args.tail; trace = c.new-2.result } in
    let files : file_count c.in-Ok-new.sink ≡ length c.args.feeds.items = c.in-Ok-new.ensures.made.0 ∙ (search rules) in
    c.in-Ok-outcome.ensures.runs c.args.feeds.items c.args.tail (map (λ _. []) c.args.feeds.items) []
    (begins g.F.Feed.gives g.F.Feed.is_open g.F.Feed.may_fail g.F.Feed.most g.S.Tail.takes c.args.feeds.items c.in-Ok.inlets.items hub g.met.F.Feed.few c.requires.open c.in-Ok.ensures c.in-Ok-new.ensures.made.1 files c.new-2.ensures.items)
    (no_offers (g.W.Work.gives c.args.work.now) (map (λ _. []) c.args.feeds.items))

pub drain_inlets-requires-in-Err-outcome-clause-open : goal.drain_inlets-requires-in-Err-outcome-clause-open
drain_inlets-requires-in-Err-outcome-clause-open g c =
    let hub : Hub g.row.S.Denot g.row.W-Out.Denot = record { sink = c.in-Ok-new.sink; tail = c.args.tail; trace = c.new-2.result } in
    let files : file_count c.in-Ok-new.sink ≡ length c.args.feeds.items = c.in-Ok-new.ensures.made.0 ∙ (search rules) in
    let ran = c.in-Err-outcome.ensures.runs c.args.feeds.items c.args.tail (map (λ _. []) c.args.feeds.items) []
    (begins g.F.Feed.gives g.F.Feed.is_open g.F.Feed.may_fail g.F.Feed.most g.S.Tail.takes c.args.feeds.items c.in-Ok.inlets.items hub g.met.F.Feed.few c.requires.open c.in-Ok.ensures c.in-Ok-new.ensures.made.1 files c.new-2.ensures.items)
    (no_offers (g.W.Work.gives c.args.work.now) (map (λ _. []) c.args.feeds.items)) in
    drains_open g.F.Feed.is_open g.F.Feed.may_fail c.args.feeds.items c.run_open-outcome.new.inlets.items ran.1.0

pub returns-clause-stopped : goal.returns-clause-stopped
returns-clause-stopped g c =
    let hub : Hub g.row.S.Denot g.row.W-Out.Denot = record { sink = c.in-Ok-new.sink; tail = c.args.tail; trace = c.new-2.result } in
    let files : file_count c.in-Ok-new.sink ≡ length c.args.feeds.items = c.in-Ok-new.ensures.made.0 ∙ (search rules) in
    let ran = c.in-Err-outcome.ensures.runs c.args.feeds.items c.args.tail (map (λ _. []) c.args.feeds.items) []
    (begins g.F.Feed.gives g.F.Feed.is_open g.F.Feed.may_fail g.F.Feed.most g.S.Tail.takes c.args.feeds.items c.in-Ok.inlets.items hub g.met.F.Feed.few c.requires.open c.in-Ok.ensures c.in-Ok-new.ensures.made.1 files c.new-2.ensures.items)
    (no_offers (g.W.Work.gives c.args.work.now) (map (λ _. []) c.args.feeds.items)) in
    ran.0

pub returns-clause-fault : goal.returns-clause-fault
returns-clause-fault g c =
    let hub : Hub g.row.S.Denot g.row.W-Out.Denot = record { sink = c.in-Ok-new.sink; tail = c.args.tail; trace = c.new-2.result } in
    let files : file_count c.in-Ok-new.sink ≡ length c.args.feeds.items = c.in-Ok-new.ensures.made.0 ∙ (search rules) in
    let ran = c.in-Err-outcome.ensures.runs c.args.feeds.items c.args.tail (map (λ _. []) c.args.feeds.items) []
    (begins g.F.Feed.gives g.F.Feed.is_open g.F.Feed.may_fail g.F.Feed.most g.S.Tail.takes c.args.feeds.items c.in-Ok.inlets.items hub g.met.F.Feed.few c.requires.open c.in-Ok.ensures c.in-Ok-new.ensures.made.1 files c.new-2.ensures.items)
    (no_offers (g.W.Work.gives c.args.work.now) (map (λ _. []) c.args.feeds.items)) in
    c.drain_inlets-in-Err-outcome.ensures.blames c.args.feeds.items ran.1.0 ran.1.1
