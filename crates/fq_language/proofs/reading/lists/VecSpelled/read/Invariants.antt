use Rattle.std.proofs.Common.{◌≡◌, map, take, Some}
use Rattle.serde_json.specs.View.{view, items_of}
use Rattle.fq_language.specs.Parts.{items_as}
use Rattle.fq_language.proofs.reading.lists.VecSpelled.read.Given as goal

-- the parts so far are those that the items so far spell
abbrev pub invariant-loop-item : goal.invariant-loop-item
invariant-loop-item g l =
    items_as (g.T.Spelled.spelled_by l.version) (items_of (map view (take l.item-index l.item-items))) ≡ Some (map g.T.Spelled.part_of l.parts.items)
