use Rattle.std.proofs.Common.{◌≡◌, ◌++◌, ◌∷◌, [], length, Some, ap, sym, ◌∙◌, arith}
use Rattle.std.specs.Prelude.{slice_get}
use Rattle.fq_column.specs.Frame.{Fields, has_name, names_of}
use Rattle.fq_plan.proofs.NeedLemmas.{mark-more, marks-are, needed_of}
use Rattle.fq_plan.proofs.checks.steps.PassedSteps.needed_columns.Goals as goal

pub loop-i-preserved : goal.loop-i-preserved
loop-i-preserved c =
    let p = c.args.self.now in
    let named : slice_get (names_of p.leading.fields) c.loop-i.i ≡ Some c.name.result.now =
    ap (λ (fields : Fields). slice_get (names_of fields) c.loop-i.i) (sym c.schema-main.ensures) ∙ c.name.ensures in
    c.in_ok-push.ensures.items
    ∙ (λ i. c.loop-i.invariant i ++ (c.need.ensures i ∷ []))
    ∙ sym (mark-more (has_name (needed_of p)) p.leading.fields c.loop-i.i c.name.result.now named)

pub returns : goal.returns
returns c = λ sides main leads. marks-are c.args.self.now sides main leads c.loop-i.i c.loop-i.marks.items (omega (arith, c.loop-i-test.false, c.len-i-end.ensures.len, ap length c.schema-main.ensures)) c.loop-i.invariant
