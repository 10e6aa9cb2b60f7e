-- Batches of a stream, put together.
use Rattle.std.proofs.Common.{◌≡◌, ◌++◌, ◌∙◌, ℕ, List, take, drop, ap, sym}
use Rattle.std.proofs.lemmas.List.{append_assoc, take-append-drop}
use Rattle.fq_column.specs.Frame.{Row}
use Rattle.fq_column.specs.Stream.{Stream, done, then_stream}
use Rattle.fq_csv.specs.Stage.{without}
use Rattle.fq_csv.specs.declared.faults.ScanFault.{ScanFault}

-- one more batch
pub joined-more : (rows batch all : List Row) (size : ℕ) (rest : Stream ScanFault) → batch ≡ take size rest.rows → all ≡ rows ++ batch → then_stream (done rows) rest ≡ then_stream (done all) (without size rest)
joined-more rows batch all size rest e f =
    ap (λ rs. let v : Stream ScanFault = record { rows = rs; fault = rest.fault } in v)
    (ap (λ ys. rows ++ ys) (sym (take-append-drop size rest.rows)) ∙ sym (append_assoc rows (take size rest.rows) (drop size rest.rows)) ∙ ap (λ ys. (rows ++ ys) ++ drop size rest.rows) (sym e) ∙ ap (λ ys. ys ++ drop size rest.rows) (sym f))
