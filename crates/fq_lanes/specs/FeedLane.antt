-- What a contract sees of the hub's end of a feed's lane.
use Rattle.std.specs.Prelude.{◌≡◌, List, [], ◌∷◌, map, false}
use Rattle.fq_lanes.specs.Lane.{Name, taken_items, take_name}
use Rattle.fq_lanes.specs.HubView.{FeedView}
use Rattle.fq_lanes.specs.declared.feed_lane.FeedLane.{FeedLane}
use Rattle.fq_lanes.specs.declared.messages.FromFeed.{FromFeed}

module _ {X : Type 0} where
  abbrev pub feed_view : FeedLane X → FeedView X
  feed_view lane = record { told = taken_items lane.take; items = lane.items; ended = lane.ended }

  abbrev pub feed_views : List (FeedLane X) → List (FeedView X)
  feed_views lanes = map feed_view lanes

  abbrev pub told_of : FeedLane X → List (FromFeed X)
  told_of lane = taken_items lane.take

  abbrev pub tolds_of : List (FeedLane X) → List (List (FromFeed X))
  tolds_of lanes = map told_of lanes

  -- which lane it is
  abbrev pub feed_name : FeedLane X → Name
  feed_name lane = take_name lane.take

  abbrev pub feed_names : List (FeedLane X) → List Name
  feed_names lanes = map feed_name lanes

  -- nothing was taken from it
  abbrev pub new_feed : FeedView X
  new_feed = record { told = []; items = 0; ended = false }

  abbrev pub AreNewFeeds : List (FeedLane X) → Type 0
  AreNewFeeds [] = Unit {0}
  AreNewFeeds (lane ∷ lanes) = (feed_view lane ≡ new_feed) × AreNewFeeds lanes
