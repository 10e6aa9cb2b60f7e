use Rattle.std.proofs.Common.{◌∙◌, ◌+◌, ◌∷◌, [], ◌++◌, arith, ap, length-append}
use Rattle.fq_csv.specs.Cutting.{EndsBy}
use Rattle.fq_csv.specs.declared.cutting.End.TheVariants.{At}
use Rattle.fq_csv.proofs.CuttingLemmas.{more-records}
use Rattle.fq_csv.proofs.cutting.whole_records.Goals as goal

pub loop-count-preserved : goal.loop-count-preserved
loop-count-preserved c =
    let text = c.args.text.now in
    let inv = c.loop-count.invariant in
    let next = c.in-At.next in
    let ends : EndsBy text c.loop-count.end (At next) = c.in-At.ensures in
    record {
      high = ends.1;
      rs = inv.rs ++ ends.2 ∷ [];
      count = length-append inv.rs (ends.2 ∷ []) ∙ ap (λ n. n + 1) inv.count;
      whole = more-records text c.loop-count.end next inv.rs (ends.2 ∷ []) (omega (arith, ends.0)) inv.whole ends.3;
    }
