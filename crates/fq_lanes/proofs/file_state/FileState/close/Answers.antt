use Rattle.std.proofs.Common.{arith}
use Rattle.fq_lanes.specs.Slots.{found_in, held_in}
use Rattle.fq_lanes.proofs.FileLemmas.{keeps_close}
use Rattle.fq_lanes.proofs.EventLemmas.{none_of}
use Rattle.fq_lanes.proofs.file_state.FileState.close.Goals as goal

pub returns-clause-follows : goal.returns-clause-follows
returns-clause-follows g c es f k =
    keeps_close (found_in c.args.self.now.slots.items c.args.self.now.taken) (held_in c.args.self.now.slots.items) c.args.self.now.taken c.args.self.now.top c.args.self.now.closed es f c.args.items k
    (none_of c.args.self.now.closed (grind arith)) (omega arith)
