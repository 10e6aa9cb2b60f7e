use Rattle.std.proofs.Common.{length, refl, ap, ◌∙◌, ◌+◌}
use Rattle.std.proofs.lemmas.Option.{slice_get_read}
use Rattle.fq_lanes.specs.Due.{due, handed_count}
use Rattle.fq_lanes.proofs.SinkLemmas.{held_is}
use Rattle.fq_lanes.proofs.sinks.Sink.held.Goals as goal

pub returns-clause-count : goal.returns-clause-count
returns-clause-count g c es t k =
    ap (λ n. n + handed_count c.args.file t (due es (length c.args.self.now.files.items))) c.held.ensures.count
    ∙ held_is c.args.self.now.files.items c.args.self.now.at es t c.args.file c.index.result.now k
    (slice_get_read c.args.self.now.files.items (length c.args.self.now.files.items) c.args.file c.index.result.now refl c.requires c.index.ensures)
