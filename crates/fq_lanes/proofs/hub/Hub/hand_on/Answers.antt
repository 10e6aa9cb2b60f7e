use Rattle.std.proofs.Common.{◌∷◌, [], ◌++◌, ℕ, ◌∙◌, refl}
use Rattle.fq_lanes.proofs.HubLemmas.{hands_more, hands_all}
use Rattle.fq_lanes.proofs.hub.Hub.hand_on.Goals as goal

pub loop-file-preserved : goal.loop-file-preserved
loop-file-preserved g c = record {
  files = c.next.ensures.files ∙ c.loop-file.invariant.files;
  hands = λ first events log h.
      let was = c.loop-file.invariant.hands first events log h in
      let step = c.in-Some.ensures.gives events _ was.1.accepted in
      let q : ℕ × ℕ × g.row.O.Denot = (c.in-Some.file, c.in-Some.serial, c.in-Some.out) in (
        was.0 ++ q ∷ [],
        hands_more g.S.Tail.takes first events was.0 c.loop-file.self (record { sink = c.next.new.self; tail = c.take.new.self; trace = c.push.new.self }) q was.1
            c.next.ensures.files step.0 step.1 (c.in_ok-push.ensures.items) c.in_ok-take.ensures.ok,
      );
}

pub returns-clause-handed : goal.returns-clause-handed
returns-clause-handed g c first events log h =
    let was = c.loop-file.invariant.hands first events log h in
    let step = c.in_default.ensures.gives events _ was.1.accepted in
    hands_all g.S.Tail.takes first events was.0 c.loop-file.self (record { sink = c.next.new.self; tail = c.loop-file.self.tail; trace = c.loop-file.self.trace }) was.1
    c.next.ensures.files refl refl step.0 step.1
