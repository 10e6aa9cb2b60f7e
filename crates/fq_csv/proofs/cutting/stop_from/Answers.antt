use Rattle.std.specs.Simd.Lanes.{chunk}
use Rattle.std.proofs.Common.{◌<◌, ◌≡◌, get_or, arith, true}
use Rattle.fq_csv.specs.Cutting.{NoneStops, stops}
use Rattle.fq_csv.proofs.BlockLemmas.{none-more, stops-there}
use Rattle.fq_csv.proofs.cutting.stop_from.Goals as goal

pub returns-in-Some-clause-none : goal.returns-in-Some-clause-none
returns-in-Some-clause-none c =
    let text = c.args.text.now in
    let some : (c.in-Some.i < 16) × NoneStops (chunk c.lanes.at 16 text) 0 c.in-Some.i × (stops (get_or (chunk c.lanes.at 16 text) c.in-Some.i 0) ≡ true) = c.in-Some.ensures.some in
    none-more text c.args.from c.lanes.at c.in-Some.i (omega (arith, some.0)) c.lanes.invariant.none some.1

pub returns-in-Some-clause-stop : goal.returns-in-Some-clause-stop
returns-in-Some-clause-stop c lt =
    let text = c.args.text.now in
    let some : (c.in-Some.i < 16) × NoneStops (chunk c.lanes.at 16 text) 0 c.in-Some.i × (stops (get_or (chunk c.lanes.at 16 text) c.in-Some.i 0) ≡ true) = c.in-Some.ensures.some in
    stops-there text c.lanes.at c.in-Some.i some.0 some.2

pub lanes-preserved : goal.lanes-preserved
lanes-preserved c =
    let text = c.args.text.now in
    let none : NoneStops (chunk c.lanes.at 16 text) 0 16 = c.in_default.ensures.none in
    record {
      low = omega (arith, c.lanes.invariant.low);
      high = omega (arith, c.lanes-test.true, c.lanes.invariant.high);
      none = none-more text c.args.from c.lanes.at 16 (omega arith) c.lanes.invariant.none none;
    }
