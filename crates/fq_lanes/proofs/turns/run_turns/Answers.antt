use Rattle.std.proofs.Common.{sym, ◌∙◌}
use Rattle.fq_lanes.proofs.HubStepLemmas.{step_settles}
use Rattle.fq_lanes.proofs.turns.run_turns.Goals as goal

pub returns-then-are_idle-clause-done : goal.returns-then-are_idle-clause-done
returns-then-are_idle-clause-done g c first events t =
    let was = c.loop.invariant.turn first events t in
    let now = c.in_ok-found.ensures.turn first was.0 was.1 in
    (now.0, step_settles g.S.Tail.takes first c.take_turn.new.lanes.items c.take_turn.new.workers.items c.take_turn.new.hub now.0 now.1 (sym c.have_ended.ensures ∙ c.if-have_ended.true) (sym c.are_idle.ensures ∙ c.if-are_idle.true))
