use Rattle.std.proofs.Common.{[]}
use Rattle.fq_csv.proofs.ScanLemmas.{scanner-of-records}
use Rattle.fq_csv.proofs.scanning.scanners.Scanner.new.Goals as goal

pub returns-clause-scanner : goal.returns-clause-scanner
returns-clause-scanner g c = scanner-of-records c.args.file c.args.batch_size c.args.limit (record { schema = c.args.schema; nulls = c.args.nulls; notations = []; projection = [] }) (g.R.Read.remaining c.args.reader) c.in_ok-records.records (rw (c.plain.ensures, c.all.ensures) at c.in_ok-records.ensures.scanner)
