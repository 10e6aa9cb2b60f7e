use Rattle.std.proofs.Common.{◌≡◌, ◌+◌, List, [], ◌∷◌, ◌++◌, length, set, sym, subst, ap, ◌∙◌, arith, Some, None, length-append, cond}
use Rattle.std.specs.List.{slice_get}
use Rattle.std.proofs.lemmas.Bool.{leb-true}
use Rattle.fq_lanes.specs.Due.{due, due_count}
use Rattle.fq_lanes.specs.Sink.{file_count}
use Rattle.fq_lanes.specs.Refusals.{refusal}
use Rattle.fq_lanes.specs.Engine.{BlamesFeed}
use Rattle.fq_lanes.specs.Ledger.{times}
use Rattle.fq_lanes.specs.Round.{job_numbers, InRound}
use Rattle.fq_lanes.specs.FileWindow.{AreNear}
use Rattle.fq_lanes.specs.declared.events.Event.{Event}
use Rattle.fq_lanes.specs.declared.events.Event.TheVariants.{Close}
use Rattle.fq_lanes.specs.declared.job.Job.{Job}
use Rattle.fq_lanes.proofs.FeedFaultLemmas.{fault_blames}
use Rattle.fq_lanes.proofs.HubLemmas.{stops_all}
use Rattle.fq_lanes.proofs.InletLemmas.{gave_get, gave_sizes, gave_drains, drains_set, left_set}
use Rattle.fq_lanes.proofs.BesideLemmas.{get_or_place, get_set_same, get_set_other}
use Rattle.fq_lanes.proofs.RoundLemmas.{halted, halted_back, turn_none, turn_item, turn_may_close, turn_end, lowest_due}
use Rattle.fq_lanes.proofs.SlotLemmas.{not_far}
use Rattle.fq_lanes.proofs.FileWindowLemmas.{near_on, due_count_grows}
use Rattle.fq_lanes.proofs.round.take_turn.Goals as goal
use Rattle.fq_lanes.specs.declared.file_state.TheConstants.{SLOTS}

pub returns-then-inlet-clause-round : goal.returns-then-inlet-clause-round
returns-then-inlet-clause-round g c feeds first items events r =
    let at = get_or_place c.args.inlets.now.items c.args.file c.index_mut-inlet.result.now (omega (arith, c.requires.file)) c.index_mut-inlet.ensures.value in
    turn_none g.F.Feed.gives g.F.Feed.is_open g.F.Feed.may_fail g.F.Feed.most g.S.Tail.takes feeds first items events c.args.inlets.now.items c.args.hub.now c.args.jobs.now.items
    c.args.file c.index_mut-inlet.result.now r at

pub returns-then-inlet-clause-ended : goal.returns-then-inlet-clause-ended
returns-then-inlet-clause-ended g c _ _ inlet e =
    let same : slice_get (set c.args.inlets.now.items c.args.file c.index_mut-inlet.result.now) c.args.file ≡ Some c.index_mut-inlet.result.now =
    get_set_same c.args.inlets.now.items c.args.file c.index_mut-inlet.result.now (omega (arith, c.requires.file)) in
    let is : c.index_mut-inlet.result.now ≡ inlet = cc in
    ap (λ n. n.ended) (sym is) ∙ c.if-inlet.true

pub is_far-requires : goal.is_far-requires
is_far-requires g c =
    let r = c.requires.round in
    let sizes = gave_sizes g.F.Feed.gives g.F.Feed.is_open g.F.Feed.may_fail g.F.Feed.most r.0 r.2 c.args.inlets.now.items r.4.gave in
    omega (arith, c.requires.file, sizes.1, r.4.files)

pub returns-then-is_far-clause-round : goal.returns-then-is_far-clause-round
returns-then-is_far-clause-round g c feeds first items events r =
    let at = get_or_place c.args.inlets.now.items c.args.file c.index_mut-inlet.result.now (omega (arith, c.requires.file)) c.index_mut-inlet.ensures.value in
    turn_none g.F.Feed.gives g.F.Feed.is_open g.F.Feed.may_fail g.F.Feed.most g.S.Tail.takes feeds first items events c.args.inlets.now.items c.args.hub.now c.args.jobs.now.items
    c.args.file c.index_mut-inlet.result.now r at

pub returns-then-is_far-clause-ended : goal.returns-then-is_far-clause-ended
returns-then-is_far-clause-ended g c none lower _ _ =
    let at = get_or_place c.args.inlets.now.items c.args.file c.index_mut-inlet.result.now (omega (arith, c.requires.file)) c.index_mut-inlet.ensures.value in
    let r = c.requires.round in
    let all = lowest_due g.F.Feed.gives g.F.Feed.is_open g.F.Feed.may_fail g.F.Feed.most g.S.Tail.takes r.0 r.1 r.2 r.3 c.args.inlets.now.items c.args.hub.now c.args.jobs.now.items
    c.args.file c.index_mut-inlet.result.now r.4 none at lower in
    let far = leb-true (due_count r.3 (file_count c.args.hub.now.sink) c.args.file + SLOTS) c.index_mut-inlet.result.now.items
    (sym (c.is_far.ensures r.3 (length (due r.3 (file_count c.args.hub.now.sink))) r.4.handed.accepted) ∙ c.if-is_far.true) in
    absurd (omega (arith, all, far))

pub next-requires-clause-open : goal.next-requires-clause-open
next-requires-clause-open g c =
    let at = get_or_place c.args.inlets.now.items c.args.file c.index_mut-inlet.result.now (omega (arith, c.requires.file)) c.index_mut-inlet.ensures.value in
    let r = c.requires.round in
    let one = gave_get g.F.Feed.gives g.F.Feed.is_open g.F.Feed.may_fail g.F.Feed.most r.0 r.2 c.args.inlets.now.items c.args.file c.index_mut-inlet.result.now r.4.gave at in
    (c.if-inlet.false, one.4.opens c.if-inlet.false)

pub next-requires-clause-room : goal.next-requires-clause-room
next-requires-clause-room g c =
    let at = get_or_place c.args.inlets.now.items c.args.file c.index_mut-inlet.result.now (omega (arith, c.requires.file)) c.index_mut-inlet.ensures.value in
    let r = c.requires.round in
    let one = gave_get g.F.Feed.gives g.F.Feed.is_open g.F.Feed.may_fail g.F.Feed.most r.0 r.2 c.args.inlets.now.items c.args.file c.index_mut-inlet.result.now r.4.gave at in
    one.4.room c.if-inlet.false

pub returns-in-Ok-clause-round : goal.returns-in-Ok-clause-round
returns-in-Ok-clause-round g c feeds first items events r =
    let at = get_or_place c.args.inlets.now.items c.args.file c.index_mut-inlet.result.now (omega (arith, c.requires.file)) c.index_mut-inlet.ensures.value in
    let told = rw c.in-Ok-Some.field-0-is at c.in-Ok-Some.ensures in
    let j : Job g.row.F-Item.Denot = record { file = c.args.file; serial = c.in-Ok-Some.serial; item = c.in-Ok-Some.item } in
    let out = turn_item g.F.Feed.gives g.F.Feed.is_open g.F.Feed.may_fail g.F.Feed.most g.S.Tail.takes feeds first items events c.args.inlets.now.items c.args.hub.now c.args.jobs.now.items
    j c.index_mut-inlet.result.now c.next.new.self r at c.if-inlet.false told.ended told.gave
    (not_far (due_count events (file_count c.args.hub.now.sink) c.args.file) c.index_mut-inlet.result.now.items (sym (c.is_far.ensures events (length (due events (file_count c.args.hub.now.sink))) r.handed.accepted) ∙ c.if-is_far.false)) in (
      out.0,
      out.1,
      out.2,
      subst (λ l. InRound g.F.Feed.gives g.F.Feed.is_open g.F.Feed.may_fail g.F.Feed.most g.S.Tail.takes feeds first out.0 out.1 (set c.args.inlets.now.items c.args.file c.next.new.self) c.args.hub.now l)
          (sym c.in-Ok.ensures.items) out.3,
    )

pub returns-in-Ok-clause-fewer : goal.returns-in-Ok-clause-fewer
returns-in-Ok-clause-fewer g c =
    let at = get_or_place c.args.inlets.now.items c.args.file c.index_mut-inlet.result.now (omega (arith, c.requires.file)) c.index_mut-inlet.ensures.value in
    let told = rw c.in-Ok-Some.field-0-is at c.in-Ok-Some.ensures in
    let moved = left_set g.F.Feed.most c.args.inlets.now.items c.args.file c.index_mut-inlet.result.now c.next.new.self at in
    let was : cond c.index_mut-inlet.result.now.ended 0 (g.F.Feed.most c.index_mut-inlet.result.now.feed) ≡ g.F.Feed.most c.index_mut-inlet.result.now.feed =
    ap (λ b. cond b 0 (g.F.Feed.most c.index_mut-inlet.result.now.feed)) c.if-inlet.false in
    let now : cond c.next.new.self.ended 0 (g.F.Feed.most c.next.new.self.feed) ≡ g.F.Feed.most c.next.new.self.feed =
    ap (λ b. cond b 0 (g.F.Feed.most c.next.new.self.feed)) told.ended in
    let size : length c.push.new.self.items ≡ length c.args.jobs.now.items + 1 = ap length c.in-Ok.ensures.items ∙ length-append c.args.jobs.now.items (_ ∷ []) in
    omega (arith, moved, was, now, size, told.fewer)

pub returns-in-Ok-clause-others : goal.returns-in-Ok-clause-others
returns-in-Ok-clause-others g c i ne = get_set_other c.args.inlets.now.items c.args.file i c.next.new.self ne

pub returns-in_default-clause-round : goal.returns-in_default-clause-round
returns-in_default-clause-round g c feeds first items events r =
    let at = get_or_place c.args.inlets.now.items c.args.file c.index_mut-inlet.result.now (omega (arith, c.requires.file)) c.index_mut-inlet.ensures.value in
    let told = rw c.in-Ok-Some.field-0-is at c.in-Ok-Some.ensures in
    let j : Job g.row.F-Item.Denot = record { file = c.args.file; serial = c.in-Ok-Some.serial; item = c.in-Ok-Some.item } in
    let out = turn_item g.F.Feed.gives g.F.Feed.is_open g.F.Feed.may_fail g.F.Feed.most g.S.Tail.takes feeds first items events c.args.inlets.now.items c.args.hub.now c.args.jobs.now.items
    j c.index_mut-inlet.result.now c.next.new.self r at c.if-inlet.false told.ended told.gave
    (not_far (due_count events (file_count c.args.hub.now.sink) c.args.file) c.index_mut-inlet.result.now.items (sym (c.is_far.ensures events (length (due events (file_count c.args.hub.now.sink))) r.handed.accepted) ∙ c.if-is_far.false)) in (
      halted g.F.Feed.gives g.F.Feed.is_open g.F.Feed.may_fail g.F.Feed.most g.S.Tail.takes g.S.Tail.refuses feeds first items (λ f s. times f s (job_numbers c.args.jobs.now.items)) events c.args.inlets.now.items
          (file_count c.args.hub.now.sink) c.args.hub.now.tail g.met.F.Feed.satisfiable r.gave r.books r.closed r.files (stops_all g.S.Tail.takes g.S.Tail.refuses first events c.args.hub.now r.handed),
      (gave_drains g.F.Feed.gives g.F.Feed.is_open g.F.Feed.may_fail g.F.Feed.most feeds out.0 (set c.args.inlets.now.items c.args.file c.next.new.self) out.3.gave, tt),
    )

pub returns-in_default-clause-others : goal.returns-in_default-clause-others
returns-in_default-clause-others g c i ne = get_set_other c.args.inlets.now.items c.args.file i c.next.new.self ne

pub close-requires : goal.close-requires
close-requires g c =
    let at = get_or_place c.args.inlets.now.items c.args.file c.index_mut-inlet.result.now (omega (arith, c.requires.file)) c.index_mut-inlet.ensures.value in
    let told = rw c.in-Ok-None.field-0-is at c.in-Ok-None.ensures in
    let r = c.requires.round in (
      r.3,
      _,
      r.4.handed.accepted,
      turn_may_close g.F.Feed.gives g.F.Feed.is_open g.F.Feed.may_fail g.F.Feed.most g.S.Tail.takes r.0 r.1 r.2 r.3 c.args.inlets.now.items c.args.hub.now c.args.jobs.now.items
          c.args.file c.index_mut-inlet.result.now c.next.new.self r.4 at c.if-inlet.false told.gave,
    )

pub returns-in_default-close-clause-round : goal.returns-in_default-close-clause-round
returns-in_default-close-clause-round g c feeds first items events r =
    let at = get_or_place c.args.inlets.now.items c.args.file c.index_mut-inlet.result.now (omega (arith, c.requires.file)) c.index_mut-inlet.ensures.value in
    let told = rw c.in-Ok-None.field-0-is at c.in-Ok-None.ensures in
    let ns' = set c.args.inlets.now.items c.args.file c.next.new.self in
    let now : List (Event g.row.S-Out.Denot) = events ++ Close c.args.file c.next.new.self.items ∷ [] in
    let out = turn_end g.F.Feed.gives g.F.Feed.is_open g.F.Feed.may_fail g.F.Feed.most g.S.Tail.takes feeds first items events c.args.inlets.now.items c.args.hub.now c.args.jobs.now.items
    c.args.file c.index_mut-inlet.result.now c.next.new.self r at c.if-inlet.false told.ended told.gave in
    let free : refusal (file_count c.args.hub.now.sink) events (Close c.args.file c.next.new.self.items) ≡ None =
    turn_may_close g.F.Feed.gives g.F.Feed.is_open g.F.Feed.may_fail g.F.Feed.most g.S.Tail.takes feeds first items events c.args.inlets.now.items c.args.hub.now c.args.jobs.now.items
    c.args.file c.index_mut-inlet.result.now c.next.new.self r at c.if-inlet.false told.gave in
    let stopped = c.in_default-close.ensures.handed first events r.handed free in (
      halted_back g.F.Feed.gives g.S.Tail.takes g.S.Tail.refuses feeds first items items events now c.close.new.self.tail out.3
          (halted g.F.Feed.gives g.F.Feed.is_open g.F.Feed.may_fail g.F.Feed.most g.S.Tail.takes g.S.Tail.refuses feeds first items (λ f s. times f s (job_numbers c.args.jobs.now.items)) now ns'
          (file_count c.args.hub.now.sink) c.close.new.self.tail g.met.F.Feed.satisfiable out.0 out.1 out.2 r.files stopped),
      (gave_drains g.F.Feed.gives g.F.Feed.is_open g.F.Feed.may_fail g.F.Feed.most feeds items ns' out.0, tt),
    )

pub returns-in_default-close-clause-others : goal.returns-in_default-close-clause-others
returns-in_default-close-clause-others g c i ne = get_set_other c.args.inlets.now.items c.args.file i c.next.new.self ne

pub returns-in-Ok-close-clause-round : goal.returns-in-Ok-close-clause-round
returns-in-Ok-close-clause-round g c feeds first items events r =
    let at = get_or_place c.args.inlets.now.items c.args.file c.index_mut-inlet.result.now (omega (arith, c.requires.file)) c.index_mut-inlet.ensures.value in
    let told = rw c.in-Ok-None.field-0-is at c.in-Ok-None.ensures in
    let now : List (Event g.row.S-Out.Denot) = events ++ Close c.args.file c.next.new.self.items ∷ [] in
    let out = turn_end g.F.Feed.gives g.F.Feed.is_open g.F.Feed.may_fail g.F.Feed.most g.S.Tail.takes feeds first items events c.args.inlets.now.items c.args.hub.now c.args.jobs.now.items
    c.args.file c.index_mut-inlet.result.now c.next.new.self r at c.if-inlet.false told.ended told.gave in
    let free : refusal (file_count c.args.hub.now.sink) events (Close c.args.file c.next.new.self.items) ≡ None =
    turn_may_close g.F.Feed.gives g.F.Feed.is_open g.F.Feed.may_fail g.F.Feed.most g.S.Tail.takes feeds first items events c.args.inlets.now.items c.args.hub.now c.args.jobs.now.items
    c.args.file c.index_mut-inlet.result.now c.next.new.self r at c.if-inlet.false told.gave in
    let handed = c.in-Ok-close.ensures.handed first events r.handed free in (
      items,
      now,
      out.3,
      record {
        gave = out.0;
        books = out.1;
        closed = out.2;
        handed = handed;
        files = c.close.ensures.files ∙ r.files;
        waits = r.waits;
        near = near_on (file_count c.close.new.self.sink) events now (job_numbers c.args.jobs.now.items)
            (λ f. due_count_grows (file_count c.close.new.self.sink) events (Close c.args.file c.next.new.self.items) f handed.accepted.accepted)
            (subst (λ n. AreNear events n (job_numbers c.args.jobs.now.items)) (sym c.close.ensures.files) r.near);
      },
    )

pub returns-in-Ok-close-clause-fewer : goal.returns-in-Ok-close-clause-fewer
returns-in-Ok-close-clause-fewer g c =
    let at = get_or_place c.args.inlets.now.items c.args.file c.index_mut-inlet.result.now (omega (arith, c.requires.file)) c.index_mut-inlet.ensures.value in
    let told = rw c.in-Ok-None.field-0-is at c.in-Ok-None.ensures in
    let moved = left_set g.F.Feed.most c.args.inlets.now.items c.args.file c.index_mut-inlet.result.now c.next.new.self at in
    let now : cond c.next.new.self.ended 0 (g.F.Feed.most c.next.new.self.feed) ≡ 0 = ap (λ b. cond b 0 (g.F.Feed.most c.next.new.self.feed)) told.ended in
    omega (arith, moved, now)

pub returns-in-Ok-close-clause-ended : goal.returns-in-Ok-close-clause-ended
returns-in-Ok-close-clause-ended g c _ _ inlet e =
    let told = rw c.in-Ok-None.field-0-is at c.in-Ok-None.ensures in
    let same : slice_get (set c.args.inlets.now.items c.args.file c.next.new.self) c.args.file ≡ Some c.next.new.self =
    get_set_same c.args.inlets.now.items c.args.file c.next.new.self (omega (arith, c.requires.file)) in
    let is : c.next.new.self ≡ inlet = cc in
    ap (λ n. n.ended) (sym is) ∙ told.ended

pub returns-in-Ok-close-clause-others : goal.returns-in-Ok-close-clause-others
returns-in-Ok-close-clause-others g c i ne = get_set_other c.args.inlets.now.items c.args.file i c.next.new.self ne

pub returns-in-Err-clause-round : goal.returns-in-Err-clause-round
returns-in-Err-clause-round g c feeds first items events r =
    let at = get_or_place c.args.inlets.now.items c.args.file c.index_mut-inlet.result.now (omega (arith, c.requires.file)) c.index_mut-inlet.ensures.value in
    let one = gave_get g.F.Feed.gives g.F.Feed.is_open g.F.Feed.may_fail g.F.Feed.most feeds items c.args.inlets.now.items c.args.file c.index_mut-inlet.result.now r.gave at in (
      halted g.F.Feed.gives g.F.Feed.is_open g.F.Feed.may_fail g.F.Feed.most g.S.Tail.takes g.S.Tail.refuses feeds first items (λ f s. times f s (job_numbers c.args.jobs.now.items)) events c.args.inlets.now.items
          (file_count c.args.hub.now.sink) c.args.hub.now.tail g.met.F.Feed.satisfiable r.gave r.books r.closed r.files (stops_all g.S.Tail.takes g.S.Tail.refuses first events c.args.hub.now r.handed),
      (
        drains_set g.F.Feed.is_open g.F.Feed.may_fail feeds c.args.inlets.now.items c.args.file c.next.new.self
            (gave_drains g.F.Feed.gives g.F.Feed.is_open g.F.Feed.may_fail g.F.Feed.most feeds items c.args.inlets.now.items r.gave) c.in-Err.ensures.ended,
        subst (λ fault. BlamesFeed g.F.Feed.may_fail feeds fault) (sym c.feed_fault.ensures)
            (fault_blames g.F.Feed.may_fail feeds c.args.file one.0 c.in-Err.fault one.2 (λ e. one.4.fails c.if-inlet.false (c.in-Err.ensures.fault e))),
      ),
    )

pub returns-in-Err-clause-others : goal.returns-in-Err-clause-others
returns-in-Err-clause-others g c i ne = get_set_other c.args.inlets.now.items c.args.file i c.next.new.self ne
