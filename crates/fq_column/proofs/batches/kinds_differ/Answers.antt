use Rattle.std.proofs.Common.{◌≡◌, ◌∙◌, ◌&&◌, ap, sym, not, suc, ◌+◌, drop, arith}
use Rattle.std.specs.Cmp.Lexicographic.{pointwise}
use Rattle.fq_column.specs.Batch.{has_kind_of}
use Rattle.fq_column.specs.Cell.{same_kind}
use Rattle.fq_column.proofs.BatchLemmas.{pointwise-step}
use Rattle.fq_column.proofs.KindLemmas.{same_kind-by_ne}
use Rattle.fq_column.proofs.batches.kinds_differ.Goals as goal

pub returns-then-ne : goal.returns-then-ne
returns-then-ne c = let fs = c.args.schema.now in let cs = c.args.columns.now in let i = c.loop-i.i in
    sym (ap not (c.loop-i.invariant
    ∙ pointwise-step fs cs i c.index-columns-i.result c.kind-in-loop-i.result (omega arith) c.index-columns-i.is c.kind-in-loop-i.ensures
    ∙ ap (λ b. b && pointwise has_kind_of (drop (suc i) fs) (drop (suc i) cs))
    (ap (λ k. same_kind k c.kind-in-loop-i.result) (sym c.kind.ensures)
    ∙ same_kind-by_ne c.kind.result c.kind-in-loop-i.result c.ne.result c.ne.ensures ∙ ap not c.if-ne.true)))

pub loop-i-preserved : goal.loop-i-preserved
loop-i-preserved c = let fs = c.args.schema.now in let cs = c.args.columns.now in let i = c.loop-i.i in
    c.loop-i.invariant
    ∙ pointwise-step fs cs i c.index-columns-i.result c.kind-in-loop-i.result (omega arith) c.index-columns-i.is c.kind-in-loop-i.ensures
    ∙ ap (λ b. b && pointwise has_kind_of (drop (suc i) fs) (drop (suc i) cs))
    (ap (λ k. same_kind k c.kind-in-loop-i.result) (sym c.kind.ensures)
    ∙ same_kind-by_ne c.kind.result c.kind-in-loop-i.result c.ne.result c.ne.ensures ∙ ap not c.if-ne.false)
    ∙ ap (λ j. pointwise has_kind_of (drop j fs) (drop j cs)) (let e : suc i ≡ i + 1 = omega arith in e)
