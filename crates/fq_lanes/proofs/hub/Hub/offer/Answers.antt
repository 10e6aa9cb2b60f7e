use Rattle.std.proofs.Common.{◌∷◌, [], ◌++◌, length, subst, refl}
use Rattle.std.specs.Result.{MatchResult}
use Rattle.fq_lanes.specs.Due.{due}
use Rattle.fq_lanes.specs.Sink.{file_count}
use Rattle.fq_lanes.specs.Hub.{HandedOn, HasStopped}
use Rattle.fq_lanes.specs.declared.events.Event.{Event}
use Rattle.fq_lanes.specs.declared.events.Event.TheVariants.{Offer}
use Rattle.fq_lanes.proofs.HubLemmas.{hands_told}
use Rattle.fq_lanes.proofs.hub.Hub.offer.Goals as goal

pub returns-clause-handed : goal.returns-clause-handed
returns-clause-handed g c first events h free =
    let e : Event g.row.O.Denot = Offer c.args.file c.args.serial c.args.out in
    let hub = c.args.self.now in
    let told = (c.in-Ok.ensures.accepts events (length (due events (file_count hub.sink))) h.accepted).1 in
    let out = c.hand_on.ensures.handed first (events ++ e ∷ []) (due events (file_count hub.sink))
    (hands_told g.S.Tail.takes first events e hub (record { sink = c.offer.new.self; tail = hub.tail; trace = hub.trace }) h c.offer.ensures.files refl refl told) in
    subst (λ n. MatchResult c.hand_on.result (λ _. HandedOn g.S.Tail.takes first (events ++ e ∷ []) c.hand_on.new.self)
    (λ _. HasStopped g.S.Tail.takes g.S.Tail.refuses first (events ++ e ∷ []) n c.hand_on.new.self.tail)) c.offer.ensures.files out
