use Rattle.std.proofs.Common.{rules, ◌≡◌, [], ◌∷◌, ◌++◌, All, map, sym, subst, ap, ◌∙◌, length}
use Rattle.fq_lanes.specs.FeedLane.{AreNewFeeds, feed_name, feed_names, tolds_of, told_of}
use Rattle.std.proofs.lemmas.List.Elements.{All-tail}
use Rattle.std.specs.Vec.Iter.{into_iter_items}
use Rattle.fq_lanes.specs.Lane.{put_items}
use Rattle.fq_lanes.specs.FeedThread.{ToldAll, Began}
use Rattle.fq_lanes.specs.Beside.{Each}
use Rattle.std.proofs.lemmas.List.{append-nil, map-append, nil_from_length}
use Rattle.fq_lanes.proofs.ThreadLemmas.{list_moves, new_feeds_push}
use Rattle.std.proofs.lemmas.Result.{on_ok_weaker}
use Rattle.fq_lanes.proofs.threads.+start_feeds.Goals as goal

pub returns-in_default-clause-done : goal.returns-in_default-clause-done
returns-in_default-clause-done g t c =
    let short : length (into_iter_items c.args.feeds.now) ≡ 0 = search rules in
    let none = nil_from_length (into_iter_items c.args.feeds.now) short in
    on_ok_weaker c.start_workers.result
    (λ i. (
      [],
      subst (λ fs. Each (Began g.F.Feed.gives g.F.Feed.may_fail) fs []) (sym none) tt,
      (i.0, i.1, subst (λ ts. g.H.Core.done c.args.hub.now ts i.0 c.start_workers.new.hub) (sym (append-nil (tolds_of c.start_workers.new.lanes.items))) i.2),
    ))
    c.start_workers.ensures.done

pub start_feeds-outcome-requires-clause-open : goal.start_feeds-outcome-requires-clause-open
start_feeds-outcome-requires-clause-open g t c κs within =
    All-tail g.F.Feed.is_open c.in-Some.feed _ (subst (All g.F.Feed.is_open) c.in-Some.ensures.items c.requires.open)

pub start_feeds-outcome-requires-clause-lanes : goal.start_feeds-outcome-requires-clause-lanes
start_feeds-outcome-requires-clause-lanes g t c κs within =
    let started = c.in-Ok.ensures.started in
    subst (λ l. AreNewFeeds l) (sym started.1) (new_feeds_push c.args.lanes.now.items started.0 c.requires.lanes started.2)

pub close_feed-requires : goal.close_feed-requires
close_feed-requires g t c =
    let started = c.in-Ok.ensures.started in (
      feed_names c.args.lanes.now.items,
      c.start_feeds-outcome.ensures.lanes ∙ ap (map feed_name) started.1 ∙ map-append feed_name c.args.lanes.now.items (started.0 ∷ [])
          ∙ ap (λ n. feed_names c.args.lanes.now.items ++ n ∷ []) (sym (c.join.ensures.0 ∙ started.4)),
    )

pub returns-clause-done : goal.returns-clause-done
returns-clause-done g t c =
    let last = c.close_feed.ensures.last in
    let sent = put_items c.join.result in
    let taken = told_of last.0 in
    let began : Began g.F.Feed.gives g.F.Feed.may_fail c.in-Some.feed taken = (sent, subst (λ f. ToldAll g.F.Feed.gives g.F.Feed.may_fail f sent) c.in-Ok.ensures.started.3 c.join.ensures.1, last.2) in
    on_ok_weaker c.start_feeds-outcome.result
    (λ i. (
      taken ∷ i.0,
      subst (λ fs. Each (Began g.F.Feed.gives g.F.Feed.may_fail) fs (taken ∷ i.0)) (sym c.in-Some.ensures.items) (began, i.1),
      (i.2.0, i.2.1, subst (λ ts. g.H.Core.done c.args.hub.now ts i.2.0 c.start_feeds-outcome.new.hub) (list_moves told_of _ _ last.0 i.0 last.1) i.2.2),
    ))
    c.start_feeds-outcome.ensures.done
