-- What a contract sees of the ends of a lane.
use Rattle.std.specs.Prelude.{◌≡◌, ℕ, List}
use Rattle.rtrb.specs.Ring.{sent, received, known_items, known_free}
use Rattle.rtrb.specs.Shared.{Names}
use denote.RawPtr.{Ptr}
use Rattle.std.specs.declared.alloc.Global.{Global}
use Rattle.fq_lanes.specs.declared.lanes.Put.{Put}
use Rattle.fq_lanes.specs.declared.lanes.Take.{Take}
use Rattle.fq_lanes.specs.declared.lanes.Left.{Left}

-- which ring it is
pub record Name : Type 0 where
  pub words : Ptr
  pub slots : Ptr
  pub names : Names
  pub heap : Global

module _ {T : Type 0} where
  -- every item put so far, oldest first
  abbrev pub put_items : Put T → List T
  put_items p = sent p.producer

  -- how many items it surely has room for
  abbrev pub room : Put T → ℕ
  room p = known_free p.producer

  -- every item taken so far, oldest first
  abbrev pub taken_items : Take T → List T
  taken_items t = received t.consumer

  -- the items that were seen and not taken, oldest first
  abbrev pub seen_items : Take T → List T
  seen_items t = known_items t.consumer

  -- the items that are still to be handed out
  abbrev pub left_items : Left T → List T
  left_items l = known_items l.take

  abbrev pub put_name : Put T → Name
  put_name p = record { words = p.producer.end.words; slots = p.producer.end.slots; names = p.producer.end.names; heap = p.producer.end.heap }

  abbrev pub take_name : Take T → Name
  take_name t = record { words = t.consumer.end.words; slots = t.consumer.end.slots; names = t.consumer.end.names; heap = t.consumer.end.heap }

  -- the two ends of one lane
  abbrev pub IsLane : Put T → Take T → Type 0
  IsLane p t = put_name p ≡ take_name t

  -- the same end of the same lane
  abbrev pub SamePut : Put T → Put T → Type 0
  SamePut a b = put_name b ≡ put_name a

  abbrev pub SameTake : Take T → Take T → Type 0
  SameTake a b = take_name b ≡ take_name a
