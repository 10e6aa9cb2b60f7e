use Rattle.std.proofs.Common.{◌∙◌, sym}
use Rattle.fq_lanes.proofs.StagingLemmas.{staged_whole}
use Rattle.fq_lanes.proofs.sinks.Sink.finished.Goals as goal

pub returns : goal.returns
returns g c es t k = c.all_finished_files.ensures ∙ sym (staged_whole c.args.self.now.at c.args.self.now.files.items es 0 k.staged)
