use Rattle.std.specs.Prelude.{◌+◌, ◌-◌, if◌then◌else◌, length}
use Rattle.fq_csv.specs.Buffer.{IsSound, ReadsOn, rest_of}
use Rattle.fq_csv.proofs.cutting.buffers.Buffer.read_up_to.Given as goal

abbrev pub invariant-loop-self : goal.invariant-loop-self
invariant-loop-self g l = record {
  sound : IsSound g.R.Read.remaining l.self;
  reads : ReadsOn g.R.Read.remaining l.fn.self l.self;
}

abbrev pub decreases-loop-self : goal.decreases-loop-self
decreases-loop-self g l = (l.wanted - length (rest_of l.self)) + (if l.self.is_last then 0 else 1)
