use Rattle.std.proofs.Common.{◌≤◌, Ok, Err, length, subst, sym, ap, ◌∙◌, arith}
use Rattle.std.specs.Prelude.{All, OnOk, Result}
use Rattle.fq_ops.specs.Accumulated.{Accumulated, padded}
use Rattle.fq_ops.specs.Running.{IsBoundedBy, function_in, running_in, start_of}
use Rattle.fq_ops.proofs.AccumulatorLemmas.{length-padded, length-stepped}
use Rattle.fq_ops.proofs.accumulators.Accumulator.take.Goals as goal

both : {T E P Q R : Type 0} (r : Result T E) → (P → Q → R) → OnOk r P → OnOk r Q → OnOk r R
both (Ok x) f p q = f p q
both (Err e) f p q = tt

pub returns-clause-ready : goal.returns-clause-ready
returns-clause-ready c =
    let states = c.self.inside.states in
    let old = running_in states in
    let groups = c.args.groups in
    let view = c.self.view_is in
    let fits : length old ≤ groups = omega (arith, c.requires.groups, ap (λ (a : Accumulated). length a.states) view) in
    both c.take.result (λ taken bounded n h. record {
      column = omega (arith, c.requires.column, ap (λ (a : Accumulated). a.column) view);
      beside = ap length taken ∙ length-stepped (padded groups (start_of (function_in states)) old) c.args.numbers.now c.column-column.result.now.cells
          ∙ length-padded groups (start_of (function_in states)) old fits;
      bounded = bounded.bounded n (subst (λ (a : Accumulated). All (IsBoundedBy n) a.states) (sym view) h);
    }) c.take.ensures.taken c.take.ensures.bounded
