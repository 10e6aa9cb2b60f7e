use Rattle.std.proofs.Common.{◌++◌, ◌∷◌, [], List, ◌∙◌, ap}
use Rattle.fq_lanes.specs.HubView.{end_told}
use Rattle.fq_lanes.specs.Lane.{taken_items}
use Rattle.fq_lanes.specs.declared.messages.FromFeed.{FromFeed}
use Rattle.fq_lanes.proofs.BesideLemmas.{prefix_then}
use Rattle.fq_lanes.proofs.DrainLemmas.{drained-fault}
use Rattle.fq_lanes.proofs.LaneLemmas.{prefix_by, prefix_is, told_item}
use Rattle.fq_lanes.proofs.feed_lane.FeedLane.drain.Goals.{in-Some-Item, in-None-take}
use Rattle.fq_lanes.proofs.feed_lane.FeedLane.drain.Goals as goal

pub returns-in-Some-End-clause-fault : goal.returns-in-Some-End-clause-fault
returns-in-Some-End-clause-fault g c e told =
    drained-fault (taken_items c.args.self.now.take) (taken_items c.loop.self.take) (taken_items c.take.new.self) c.in-Some-End.end e c.loop.invariant.told c.loop.invariant.unended
    (c.in-Some-End.ensures.taken ∙ ap (λ t. taken_items c.loop.self.take ++ t ∷ []) c.in-Some-End.field-0-is) told

pub loop-preserved-after-take : goal.loop-preserved-after-take
loop-preserved-after-take g c =
    let was : List (FromFeed g.row.X.Denot) = taken_items c.loop.self.take in
    let now : List (FromFeed g.row.X.Denot) = taken_items c.take.new.self in
    elim c.match-take.branch [
      | in-Some-Item w ↦
          let is = w.in-Some-Item.ensures.taken ∙ ap (λ t. was ++ t ∷ []) w.in-Some-Item.field-0-is in
          record {
            name = c.take.ensures.lane ∙ c.loop.invariant.name;
            told = prefix_then (taken_items c.args.self.now.take) was now c.loop.invariant.told (prefix_by was now _ is);
            unended = λ none. ap end_told is ∙ (told_item was w.in-Some-Item.field-0-0 (c.loop.invariant.unended none)).1;
          }
      | in-None-take w ↦
          let is = w.in-None-take.ensures.taken in
          record {
            name = c.take.ensures.lane ∙ c.loop.invariant.name;
            told = prefix_then (taken_items c.args.self.now.take) was now c.loop.invariant.told (prefix_is was now is);
            unended = λ none. ap end_told is ∙ c.loop.invariant.unended none;
          }
    ]
