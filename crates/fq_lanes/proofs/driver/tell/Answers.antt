use Rattle.fq_lanes.specs.Sink.{SinkFacts, file_count}
use Rattle.fq_lanes.specs.declared.events.Event.TheVariants.{Close}
use Rattle.fq_lanes.proofs.DueLemmas.{tell_none, tell_some}
use Rattle.fq_lanes.proofs.driver.tell.Goals as goal

pub returns-in-Ok-close-clause-holds : goal.returns-in-Ok-close-clause-holds
returns-in-Ok-close-clause-holds g c es t k =
    let m = c.in-Ok-close.ensures.accepts es t k in
    tell_none (file_count c.args.sink.now) t c.args.number es c.args.event (Close c.in-Close.file c.in-Close.items) (λ l. SinkFacts c.close.new.self.files.items c.close.new.self.at l t) c.in-Close.is m.0 m.1

pub returns-in-Err-close-clause-holds : goal.returns-in-Err-close-clause-holds
returns-in-Err-close-clause-holds g c es t k =
    let m = c.in-Err-close.ensures.accepts es t k in
    tell_some (file_count c.args.sink.now) t c.args.number es c.args.event (Close c.in-Close.file c.in-Close.items) (λ l. SinkFacts c.close.new.self.files.items c.close.new.self.at l t) c.in-Err-close.why c.in-Close.is m.0 m.1
