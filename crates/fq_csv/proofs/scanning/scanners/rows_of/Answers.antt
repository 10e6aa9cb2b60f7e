use Rattle.std.proofs.Common.{arith, inl}
use Rattle.fq_csv.proofs.ScanLemmas.{no-row-read}
use Rattle.fq_csv.proofs.scanning.scanners.rows_of.Goals as goal

pub returns-clause-none : goal.returns-clause-none
returns-clause-none c = inl (no-row-read c.args.run c.in_ok-piece.piece.batch c.in_ok-piece.piece.fault c.in-Some.fault c.in-Some.is c.in_ok-piece.ensures (omega (arith, c.rows.ensures.rows, c.if-rows-gt0.false)))
