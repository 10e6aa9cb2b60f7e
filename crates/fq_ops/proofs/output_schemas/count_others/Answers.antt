use Rattle.std.proofs.Common.{map, string_bytes, sym, arith}
use Rattle.fq_ops.proofs.RefusalLemmas.{others-more, others-same}
use Rattle.fq_ops.proofs.output_schemas.count_others.Goals as goal
use Rattle.fq_ops.proofs.output_schemas.count_others.Goals.{then-not-contains, else-not-contains}

pub loop-i-preserved : goal.loop-i-preserved
loop-i-preserved c =
    let right = c.args.right.now in
    let on = map string_bytes c.args.on.now in
    let n = c.name-name.result.now in
    let i = c.loop-i.i in
    let before = c.loop-i.invariant in
    elim c.if-not-contains.branch [
      | then-not-contains w ↦ let more = others-more on right i n c.name-name.ensures (sym w.if-not-contains.ensures) in record {
        others = omega (arith, w.count-is, more, before.others);
        few = omega (arith, w.count-is, before.few);
      }
      | else-not-contains w ↦ let same = others-same on right i n c.name-name.ensures (sym w.if-not-contains.ensures) in record {
        others = omega (arith, w.count-is, same, before.others);
        few = omega (arith, w.count-is, before.few);
      }
    ]
