use Rattle.std.proofs.Common.{◌≡◌, length, arith, refl, Some}
use Rattle.std.specs.List.{slice_get}
use Rattle.std.proofs.lemmas.Option.{slice_get_read}
use Rattle.fq_lanes.proofs.SinkLemmas.{close_answer, file_at}
use Rattle.fq_lanes.proofs.sinks.Sink.close.Goals as goal

pub returns-clause-accepts : goal.returns-clause-accepts
returns-clause-accepts g c es t k =
    let got : slice_get c.args.self.now.files.items c.args.file ≡ Some c.index_mut-entry.result.now =
    slice_get_read c.args.self.now.files.items (length c.args.self.now.files.items) c.args.file c.index_mut-entry.result.now refl (omega arith) c.index_mut-entry.ensures.value in
    close_answer c.args.self.now.files.items c.args.self.now.at es t c.args.file c.args.items c.index_mut-entry.result.now c.close.new.self c.close.result k
    got (omega arith) c.close.ensures.taken c.close.ensures.closed
    (c.close.ensures.follows es c.args.file (file_at c.args.self.now.files.items c.args.self.now.at es t c.args.file c.index_mut-entry.result.now k got))
