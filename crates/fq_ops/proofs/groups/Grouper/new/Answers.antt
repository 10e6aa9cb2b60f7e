use Rattle.std.proofs.Common.{◌≡◌, [], Ok, inl, inr, length, map, string_bytes, subst, sym, ap, ◌∙◌, arith, refl}
use Rattle.std.specs.Prelude.{All, Result}
use Rattle.std.proofs.lemmas.List.{length-map}
use Rattle.fq_column.specs.declared.faults.StepFault.{StepFault}
use Rattle.fq_column.specs.Frame.{Fields}
use Rattle.fq_column.specs.Refusal.{IsJudgement}
use Rattle.fq_ops.specs.Accumulated.{Accumulated, IsAccumulator}
use Rattle.fq_ops.specs.Grouped.{fresh}
use Rattle.fq_ops.specs.Group.{group_schema, grouped_fields}
use Rattle.fq_ops.specs.AggregateData.{outputs_of}
use Rattle.fq_ops.proofs.AcceptedLemmas.{aggregate-kinds, group-known, group-output, group-some, length-grouped, some-column}
use Rattle.fq_ops.proofs.GatherLemmas.{all-fresh, fresh-empty}
use Rattle.fq_ops.proofs.KeySetLemmas.{whole-places}
use Rattle.fq_ops.proofs.PlaceLemmas.{length-places}
use Rattle.fq_ops.proofs.groups.Grouper.new.Goals as goal

judged : (expected : Result Fields StepFault) (s out : Fields) → expected ≡ Ok out → IsJudgement expected (Ok s) → s ≡ out
judged expected s out e (inl h) = let both : Ok s ≡ Ok out = h ∙ e in cc
judged expected s out e (inr h) = absurd (cc)

pub positions-requires : goal.positions-requires
positions-requires c = group-known c.args.schema (map string_bytes c.args.keys.now) (outputs_of c.args.aggs.now) c.requires

pub accumulators_of-requires-clause-some : goal.accumulators_of-requires-clause-some
accumulators_of-requires-clause-some c = some-column c.args.schema (map string_bytes c.args.keys.now) (outputs_of c.args.aggs.now) c.requires

pub accumulators_of-requires-clause-known : goal.accumulators_of-requires-clause-known
accumulators_of-requires-clause-known c = aggregate-kinds c.args.schema (map string_bytes c.args.keys.now) (outputs_of c.args.aggs.now) c.requires

pub invariant_of-result : goal.invariant_of-result
invariant_of-result c =
    let fields = c.args.schema in
    let keys = map string_bytes c.args.keys.now in
    let outputs = outputs_of c.args.aggs.now in
    let out = judged (group_schema fields keys outputs) c.in-Ok.output (grouped_fields fields keys outputs) (group-output fields keys outputs c.requires) c.in-Ok.ensures.judged in
    let places = length-places fields keys c.in_ok-places.places.items c.in_ok-places.ensures.at in
    let count : length c.in_ok-accumulators.accumulators.items ≡ length outputs = ap length c.in_ok-accumulators.ensures.made ∙ length-map outputs (fresh fields) in
    record {
      some = omega (arith, places, group-some fields keys outputs c.requires);
      places = c.in_ok-places.ensures.within;
      whole = λ e. whole-places fields keys c.in_ok-places.places.items c.in_ok-places.ensures.at (c.is_whole_key-is_whole.ensures.0 (sym c.in_ok-seen.ensures.whole ∙ e));
      few = omega arith;
      width = ap length out ∙ length-grouped fields keys outputs ∙ omega (arith, places, count);
      accumulators = λ _. subst (λ n. All (IsAccumulator (length fields) n 0) c.in_ok-accumulators.accumulators.items) (sym (ap length c.in_ok-seen.ensures.keys))
          (all-fresh (length fields) c.in_ok-accumulators.accumulators.items c.in_ok-accumulators.ensures.columns
          (subst (All (λ (a : Accumulated). a.states ≡ [])) (sym c.in_ok-accumulators.ensures.made) (fresh-empty fields outputs)));
    }

pub returns-clause-output : goal.returns-clause-output
returns-clause-output c =
    let keys = map string_bytes c.args.keys.now in
    let outputs = outputs_of c.args.aggs.now in
    judged (group_schema c.args.schema keys outputs) c.in-Ok.output (grouped_fields c.args.schema keys outputs) (group-output c.args.schema keys outputs c.requires) c.in-Ok.ensures.judged

pub returns-clause-taken : goal.returns-clause-taken
returns-clause-taken c =
    let keys = map string_bytes c.args.keys.now in
    let outputs = outputs_of c.args.aggs.now in
    record {
      accepted = c.requires;
      output = judged (group_schema c.args.schema keys outputs) c.in-Ok.output (grouped_fields c.args.schema keys outputs) (group-output c.args.schema keys outputs c.requires) c.in-Ok.ensures.judged;
      taken = refl;
      fit = λ k d low. absurd (omega (arith, low));
      places = c.in_ok-places.ensures.at;
      seen = c.in_ok-seen.ensures.keys;
      accumulators = c.in_ok-accumulators.ensures.made;
    }
