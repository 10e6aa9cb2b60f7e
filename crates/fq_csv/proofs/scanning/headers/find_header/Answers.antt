use Rattle.std.proofs.Common.{arith}
use Rattle.fq_csv.specs.Records.{Takes}
use Rattle.fq_csv.proofs.HeaderLemmas.{opens}
use Rattle.fq_csv.proofs.scanning.headers.find_header.Goals as goal

pub returns-clause-opens : goal.returns-clause-opens
returns-clause-opens g c =
    let text = c.in_ok-text.text in
    let takes : Takes c.args.records.now 1 text c.in_ok-text.count c.take.new.self = c.in_ok-text.ensures.taken in
    opens c.args.schema.now c.args.records.now c.take.new.self text c.in_ok-text.count takes (omega (arith, takes.few, c.if-count-eq0.false)) c.in_ok-is_header.field-0
    c.in_ok-is_header.ensures
