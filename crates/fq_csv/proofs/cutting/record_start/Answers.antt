use Rattle.std.proofs.Common.{arith}
use Rattle.std.proofs.lemmas.Bool.Decides.{nat_tests}
use Rattle.fq_csv.proofs.CuttingLemmas.{at-start, line-skipped}
use Rattle.fq_csv.proofs.cutting.record_start.Goals as goal
use Rattle.fq_csv.proofs.cutting.record_start.Goals.{else-text-i-ne13-via-then-text-i-ne13+else-text-i-ne10, else-text-i-ne13-via-else-text-i-ne13}

pub loop-i-init : goal.loop-i-init
loop-i-init c = at-start c.args.text.now c.args.from

pub loop-i-preserved : goal.loop-i-preserved
loop-i-preserved c =
    line-skipped c.args.text.now c.args.from c.loop-i.i (omega (arith, c.loop-i.auto.i)) c.loop-i-test.true c.loop-i.invariant
    (elim c.else-text-i-ne13.branch [
      | else-text-i-ne13-via-then-text-i-ne13+else-text-i-ne10 w ↦ grind (arith, nat_tests, w.if-text-i-ne10.false)
      | else-text-i-ne13-via-else-text-i-ne13 w ↦ grind (arith, nat_tests, w.if-text-i-ne13.false)
    ])
