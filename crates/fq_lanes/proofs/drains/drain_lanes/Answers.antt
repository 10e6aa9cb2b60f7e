use Rattle.std.specs.List.{slice_get}
use Rattle.std.proofs.Common.{◌≡◌, arith, rules, ◌<◌, Option, IfSome, true, length, set, refl, sym, subst, ap, ◌∙◌}
use Rattle.std.proofs.Math.ListN.{length-set}
use Rattle.std.proofs.Math.Seq.{map-set_same}
use Rattle.std.proofs.lemmas.Option.{same_Some, slice_get_within}
use Rattle.fq_lanes.specs.Faults.{Precedes, fault_at}
use Rattle.fq_lanes.specs.FeedLane.{feed_name, feed_views, told_of}
use Rattle.fq_lanes.specs.HubView.{Tells, told_in}
use Rattle.fq_lanes.specs.Turns.{BlamesTold, PrecedesTold}
use Rattle.fq_lanes.specs.declared.faults.FeedFault.{FeedFault}
use Rattle.fq_lanes.specs.declared.messages.FromFeed.TheVariants.{End}
use Rattle.fq_lanes.proofs.LaneLemmas.{set_cases, tolds_same, tolds_then}
use Rattle.fq_lanes.proofs.BesideLemmas.{get_or_place, get_set_other}
use Rattle.fq_lanes.proofs.DrainLemmas.{fault-told}
use Rattle.fq_lanes.proofs.FeedFaultLemmas.{first_precedes, first_precedes_other, precedes_itself, precedes_other_then, precedes_then}
use Rattle.fq_lanes.proofs.HubStepLemmas.{drain_grows, drain_blames, drain_precedes}
use Rattle.fq_lanes.proofs.drains.drain_lanes.Goals as goal

pub loop-file-init : goal.loop-file-init
loop-file-init g c = record {
  size = refl;
  names = refl;
  grows = tolds_same (told_in (feed_views c.args.lanes.now.items));
  rest = λ j h. refl;
  ended = λ j n h at. absurd (omega (arith, h));
  given = precedes_itself c.args.fault;
  theirs = λ j old new h. absurd (omega (arith, h));
  blames = λ b. b;
  precedes = λ p. p;
}

pub loop-file-preserved : goal.loop-file-preserved
loop-file-preserved g c =
    let ns = c.loop-file.lanes.items in
    let n = c.index_mut.result.now in
    let n' = c.drain-other.new.self in
    let end = c.drain-other.result in
    let below : c.loop-file.file < length ns = search rules in
    let at = get_or_place ns c.loop-file.file n below c.index_mut.ensures.value in
    let grow = drain_grows ns c.loop-file.file n n' at c.drain-other.ensures.told in
    let told = fault-told n.ended (told_of n') end c.drain-other.ensures.before c.drain-other.ensures.end in
    let first-is = c.first_fault-first.ensures in
    let before : Precedes c.first_fault-first.result c.loop-file.first = subst (λ e. Precedes e c.loop-file.first) (sym first-is) (first_precedes c.loop-file.first end c.loop-file.file) in
    let its : IfSome end (λ e. Precedes c.first_fault-first.result (fault_at e c.loop-file.file)) =
    subst (λ r. IfSome end (λ e. Precedes r (fault_at e c.loop-file.file))) (sym first-is) (first_precedes_other c.loop-file.first end c.loop-file.file) in
    record {
      size = length-set ns c.loop-file.file n' ∙ c.loop-file.invariant.size;
      names = map-set_same feed_name ns c.loop-file.file n' n (c.drain-other.ensures.name ∙ ap feed_name c.index_mut.ensures.value) ∙ c.loop-file.invariant.names;
      grows = tolds_then _ _ _ c.loop-file.invariant.grows grow;
      rest = λ j h. get_set_other ns c.loop-file.file j n' (λ e. omega (arith, h, e)) ∙ c.loop-file.invariant.rest j (omega (arith, h));
      ended = λ j m h there. set_cases ns c.loop-file.file j n' m (m.ended ≡ true) there
          (λ same is. sym (ap (λ x. x.ended) is) ∙ c.drain-other.ensures.ended)
          (λ other old. c.loop-file.invariant.ended j m (omega (arith, h, other)) old);
      given = precedes_then c.first_fault-first.result c.loop-file.first c.args.fault before c.loop-file.invariant.given;
      theirs = λ j old new h was is going. set_cases ns c.loop-file.file j n' new
          ((end' : Option FeedFault) × Tells (told_of new) (End end') × IfSome end' (λ e. Precedes c.first_fault-first.result (fault_at e j))) is
          (λ same new-is.
          let old-is : n ≡ old = same_Some n old (sym at ∙ c.loop-file.invariant.rest c.loop-file.file (omega arith) ∙ ap (slice_get c.args.lanes.now.items) (sym same) ∙ was) in (
            end,
            subst (λ m. Tells (told_of m) (End end)) new-is (c.drain-other.ensures.end (ap (λ x. x.ended) old-is ∙ going)),
            subst (λ i. IfSome end (λ e. Precedes c.first_fault-first.result (fault_at e i))) (sym same) its,
          ))
          (λ other there.
          let earlier = c.loop-file.invariant.theirs j old new (omega (arith, h, other)) was there going in
          (earlier.0, earlier.1, precedes_other_then c.first_fault-first.result c.loop-file.first earlier.0 j before earlier.2));
      blames = λ b. subst (λ e. BlamesTold (told_in (feed_views (set ns c.loop-file.file n'))) e) (sym first-is)
          (drain_blames ns c.loop-file.file n n' c.loop-file.first end at c.drain-other.ensures.told told (c.loop-file.invariant.blames b));
      precedes = λ p. subst (λ e. PrecedesTold (told_in (feed_views (set ns c.loop-file.file n'))) e) (sym first-is)
          (drain_precedes ns c.loop-file.file n n' c.loop-file.first end at c.drain-other.ensures.fault (c.loop-file.invariant.precedes p));
    }

pub returns-clause-theirs : goal.returns-clause-theirs
returns-clause-theirs g c file old new was is going =
    c.loop-file.invariant.theirs file old new (omega (arith, slice_get_within c.args.lanes.now.items file old was, c.loop-file.invariant.size, c.len-file-end.ensures, c.loop-file-test.false)) was is going
