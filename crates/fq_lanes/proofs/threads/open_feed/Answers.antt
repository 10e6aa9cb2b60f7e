use Rattle.std.proofs.Common.{ap, sym, ◌∙◌}
use Rattle.fq_lanes.specs.Lane.{taken_items, take_name}
use Rattle.fq_lanes.proofs.ThreadLemmas.{new_at_first}
use Rattle.fq_lanes.proofs.threads.open_feed.Goals as goal

pub returns-in-Ok-clause-opened : goal.returns-in-Ok-clause-opened
returns-in-Ok-clause-opened g c =
    let new = new_at_first c.new.result (ap taken_items c.new.ensures.0 ∙ c.in_ok-put.ensures.empty.1) c.new.ensures.1 c.new.ensures.2 in
    (c.new.result, c.in-Ok.ensures.items, new, c.in_ok-put.ensures.pair ∙ sym (ap take_name c.new.ensures.0), c.in_ok-put.ensures.empty.0)
