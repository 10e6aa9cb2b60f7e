use Rattle.std.proofs.Common.{length, refl, sym, ap, ◌∙◌, ◌+◌, nat_le}
use Rattle.std.proofs.lemmas.Option.{slice_get_read}
use Rattle.fq_lanes.proofs.SinkLemmas.{taken_is}
use Rattle.fq_lanes.proofs.sinks.Sink.is_far.Goals as goal
use Rattle.fq_lanes.specs.declared.file_state.TheConstants.{SLOTS}

pub returns : goal.returns
returns g c es t k =
    c.is_far.ensures
    ∙ ap (λ n. nat_le (n + SLOTS) c.args.serial) (sym (taken_is c.args.self.now.files.items c.args.self.now.at es t c.args.file c.index.result.now k
    (slice_get_read c.args.self.now.files.items (length c.args.self.now.files.items) c.args.file c.index.result.now refl c.requires c.index.ensures)))
