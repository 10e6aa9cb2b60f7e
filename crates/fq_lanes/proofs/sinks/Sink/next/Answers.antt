use Rattle.std.proofs.Common.{◌≡◌, length, arith, refl, Some, ap, sym}
use Rattle.std.specs.List.{slice_get}
use Rattle.std.proofs.lemmas.Option.{slice_get_read}
use Rattle.fq_lanes.proofs.SinkLemmas.{next_given, next_stuck, next_ended, file_at}
use Rattle.fq_lanes.specs.Sink.{waiting_of}
use Rattle.fq_lanes.proofs.StagingLemmas.{held_set}
use Rattle.fq_lanes.proofs.sinks.Sink.next.Goals as goal

pub returns-then-self-len-clause-gives : goal.returns-then-self-len-clause-gives
returns-then-self-len-clause-gives g c es t k =
    let after = c.pass.ensures.accepts es t k in
    (next_ended c.pass.new.self.files.items c.pass.new.self.at es t (length c.args.self.now.files.items) (ap (λ v. length v.items) (sym c.pass.ensures.same)) after (omega arith), after)

pub returns-in-Some-clause-gives : goal.returns-in-Some-clause-gives
returns-in-Some-clause-gives g c es t k =
    let after = c.pass.ensures.accepts es t k in
    let got : slice_get c.pass.new.self.files.items c.pass.new.self.at ≡ Some c.index_mut-entry.result.now =
    slice_get_read c.pass.new.self.files.items (length c.pass.new.self.files.items) c.pass.new.self.at c.index_mut-entry.result.now refl (omega arith) c.index_mut-entry.ensures.value in
    let refused_one = c.in-Some.ensures.follows es c.pass.new.self.at (file_at c.pass.new.self.files.items c.pass.new.self.at es t c.pass.new.self.at c.index_mut-entry.result.now after got) in
    next_given c.pass.new.self.files.items c.pass.new.self.at es t (length c.args.self.now.files.items) c.in-Some.serial c.index_mut-entry.result.now c.next.new.self c.in-Some.item
    (ap (λ v. length v.items) (sym c.pass.ensures.same)) c.in-Some.ensures.taken.0 after got refused_one.0 c.in-Some.ensures.taken.1 refused_one.1.0 refused_one.1.1

pub returns-in-None-clause-gives : goal.returns-in-None-clause-gives
returns-in-None-clause-gives g c es t k =
    let after = c.pass.ensures.accepts es t k in
    let got : slice_get c.pass.new.self.files.items c.pass.new.self.at ≡ Some c.index_mut-entry.result.now =
    slice_get_read c.pass.new.self.files.items (length c.pass.new.self.files.items) c.pass.new.self.at c.index_mut-entry.result.now refl (omega arith) c.index_mut-entry.ensures.value in
    let refused_one = c.in-None.ensures.follows es c.pass.new.self.at (file_at c.pass.new.self.files.items c.pass.new.self.at es t c.pass.new.self.at c.index_mut-entry.result.now after got) in
    next_stuck c.pass.new.self.files.items c.pass.new.self.at es t (length c.args.self.now.files.items) c.index_mut-entry.result.now c.next.new.self
    (ap (λ v. length v.items) (sym c.pass.ensures.same)) after got refused_one.0 c.in-None.ensures.taken refused_one.1 (c.pass.ensures.stays c.index_mut-entry.result.now got)

pub returns-in-Some-clause-fewer : goal.returns-in-Some-clause-fewer
returns-in-Some-clause-fewer g c =
    let got : slice_get c.pass.new.self.files.items c.pass.new.self.at ≡ Some c.index_mut-entry.result.now =
    slice_get_read c.pass.new.self.files.items (length c.pass.new.self.files.items) c.pass.new.self.at c.index_mut-entry.result.now refl (omega arith) c.index_mut-entry.ensures.value in
    let held = held_set c.pass.new.self.files.items c.pass.new.self.at c.index_mut-entry.result.now c.next.new.self got in
    let same : waiting_of c.pass.new.self.files.items ≡ waiting_of c.args.self.now.files.items = ap (λ v. waiting_of v.items) c.pass.ensures.same in
    omega (arith, held, same, c.in-Some.ensures.left)
