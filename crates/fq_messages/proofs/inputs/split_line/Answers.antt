use Rattle.std.proofs.Common.{sym, arith}
use Rattle.fq_messages.proofs.InputLemmas.{plan_line-at, plan_line-all, file_after-at, file_after-none}
use Rattle.fq_messages.proofs.inputs.split_line.Goals as goal

pub returns-then-input-i-eq10-clause-line : goal.returns-then-input-i-eq10-clause-line
returns-then-input-i-eq10-clause-line c = sym (plan_line-at c.args.input.now c.loop-i.i c.loop-i-test.true c.loop-i.invariant c.if-input-i-eq10.true)

pub returns-then-input-i-eq10-clause-file : goal.returns-then-input-i-eq10-clause-file
returns-then-input-i-eq10-clause-file c =
    file_after-at c.args.input.now c.loop-i.i c.loop-i-test.true (plan_line-at c.args.input.now c.loop-i.i c.loop-i-test.true c.loop-i.invariant c.if-input-i-eq10.true)

pub returns-clause-line : goal.returns-clause-line
returns-clause-line c = sym (plan_line-all c.args.input.now (λ k lt. c.loop-i.invariant k (omega (arith, lt, c.loop-i-test.false))))

pub returns-clause-file : goal.returns-clause-file
returns-clause-file c = file_after-none c.args.input.now (plan_line-all c.args.input.now (λ k lt. c.loop-i.invariant k (omega (arith, lt, c.loop-i-test.false))))
