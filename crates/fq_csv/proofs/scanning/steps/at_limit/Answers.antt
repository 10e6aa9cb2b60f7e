use Rattle.std.proofs.Common.{◌∙◌, ap, arith}
use Rattle.fq_csv.specs.declared.faults.ScanFault.TheVariants.{TooLong}
use Rattle.fq_csv.proofs.TakingLemmas.{no-more, one-more}
use Rattle.fq_csv.proofs.scanning.steps.at_limit.Goals as goal

pub returns-then-more-eq0-clause-ends : goal.returns-then-more-eq0-clause-ends
returns-then-more-eq0-clause-ends g c = no-more c.args.records.now c.take.new.self c.in_ok-more.field-0-0 c.in_ok-more.more c.in_ok-more.ensures.taken c.if-more-eq0.true

pub returns-clause-ends : goal.returns-clause-ends
returns-clause-ends g c =
    one-more c.args.records.now c.take.new.self c.in_ok-more.field-0-0 c.in_ok-more.more (TooLong c.file-file.result) c.in_ok-more.ensures.taken (omega (arith, c.if-more-eq0.false))
    (ap TooLong (c.file-file.ensures ∙ c.in_ok-more.ensures.file))
