-- An outcome by what transforms make of a stream.
use Rattle.std.proofs.Common.{◌≡◌, Option, Some, Err, ap}
use Rattle.fq_column.specs.Frame.{Fields}
use Rattle.fq_column.specs.Stream.{Stream}
use Rattle.fq_run.specs.Outcome.{frame_or_fault}
use Rattle.fq_run.specs.declared.faults.Fault.{Fault}

pub fault-is : (fields : Fields) (v : Stream Fault) (f : Fault) → v.fault ≡ Some f → frame_or_fault fields v ≡ Err f
fault-is fields v f e = ap (λ (o : Option Fault). frame_or_fault fields (let u : Stream Fault = record { rows = v.rows; fault = o } in u)) e
