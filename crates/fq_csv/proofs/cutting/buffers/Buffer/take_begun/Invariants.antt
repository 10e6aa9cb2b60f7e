use Rattle.std.specs.Prelude.{◌≡◌, ◌≤◌}
use Rattle.fq_csv.specs.Buffer.{IsSound}
use Rattle.fq_csv.proofs.BufferLemmas.{HasText}
use Rattle.fq_csv.proofs.cutting.buffers.Buffer.take_begun.Given as goal

abbrev pub invariant-loop : goal.invariant-loop
invariant-loop g l = record {
  sound : IsSound g.R.Read.remaining l.self;
  file : l.self.file ≡ l.fn.self.file;
  begun : l.self.has_begun ≡ l.fn.self.has_begun;
  failed : l.self.has_failed ≡ l.fn.self.has_failed;
  few : l.count ≤ l.wanted;
  has : HasText g.R.Read.remaining l.fn.self l.self l.text l.count;
}
