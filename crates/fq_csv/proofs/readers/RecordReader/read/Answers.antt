use Rattle.csv.specs.Records.{fields_of}
use Rattle.fq_csv.proofs.ReaderLemmas.{reads}
use Rattle.fq_csv.proofs.readers.RecordReader.read.Goals as goal

pub returns-clause-reads : goal.returns-clause-reads
returns-clause-reads g c rs left =
    reads g.R.Read.remaining c.args.self.now (record { reader = c.read_byte_record.new.self }) c.in_ok-found.found (fields_of c.read_byte_record.new.row) rs c.requires (c.in_ok-found.ensures.reads c.requires.0 c.requires.1) left
