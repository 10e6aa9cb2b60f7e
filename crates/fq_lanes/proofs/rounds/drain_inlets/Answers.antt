use Rattle.std.proofs.Common.{◌≡◌, refl, sym, subst, ap, ◌∙◌, arith, rules, Some, false, true}
use Rattle.std.specs.List.{slice_get}
use Rattle.std.proofs.Math.ListN.{length-set}
use Rattle.fq_lanes.specs.Engine.{BlamesFeed}
use Rattle.fq_lanes.specs.Faults.{Precedes}
use Rattle.fq_lanes.proofs.FeedFaultLemmas.{first_blames, first_precedes, precedes_itself, precedes_then}
use Rattle.fq_lanes.proofs.LaneLemmas.{set_cases}
use Rattle.fq_lanes.proofs.InletLemmas.{drains_get}
use Rattle.fq_lanes.proofs.BesideLemmas.{get_or_place, get_set_other}
use Rattle.fq_lanes.proofs.rounds.drain_inlets.Goals as goal

pub loop-file-init : goal.loop-file-init
loop-file-init g c = record {
  len = refl;
  ended = λ i n h at. absurd (omega (arith, h));
  given = precedes_itself c.args.fault;
  rest = λ i le. refl;
  blames = λ feeds drains b. b;
}

pub loop-file-preserved : goal.loop-file-preserved
loop-file-preserved g c = record {
  ended = λ i n h there. set_cases c.loop-file.inlets.items c.loop-file.file i c.drain-other.new.self n (n.ended ≡ true) there
      (λ same is. sym (ap (λ x. x.ended) is) ∙ c.drain-other.ensures.ended)
      (λ other old. c.loop-file.invariant.ended i n (omega (arith, h, other)) old);
  given = precedes_then c.first_fault-first.result c.loop-file.first c.args.fault
      (subst (λ e. Precedes e c.loop-file.first) (sym c.first_fault-first.ensures) (first_precedes c.loop-file.first c.drain-other.result c.loop-file.file)) c.loop-file.invariant.given;
  len = length-set c.loop-file.inlets.items c.loop-file.file c.drain-other.new.self ∙ c.loop-file.invariant.len;
  rest = λ i le. get_set_other c.loop-file.inlets.items c.loop-file.file i c.drain-other.new.self (λ e. omega (arith, e, le)) ∙ c.loop-file.invariant.rest i (omega (arith, le));
  blames = λ feeds drains b.
      let inlet = c.index_mut.result.now in
      let at : slice_get c.loop-file.inlets.items c.loop-file.file ≡ Some inlet =
      get_or_place c.loop-file.inlets.items c.loop-file.file inlet (search rules) c.index_mut.ensures.value in
      let one = drains_get g.F.Feed.is_open g.F.Feed.may_fail feeds c.args.inlets.now.items c.loop-file.file inlet drains (sym (c.loop-file.invariant.rest c.loop-file.file (omega arith)) ∙ at) in
      subst (λ e. BlamesFeed g.F.Feed.may_fail feeds e) (sym c.first_fault-first.ensures)
      (first_blames g.F.Feed.may_fail feeds c.loop-file.first c.drain-other.result c.loop-file.file one.0 (inlet.ended ≡ false) (g.F.Feed.may_fail inlet.feed) one.1
      (λ going fails. (one.2 going).1 fails) c.drain-other.ensures.fault (c.loop-file.invariant.blames feeds drains b));
}
