use Rattle.std.proofs.Common.{subst}
use Rattle.std.proofs.lemmas.Result.{on_ok_weaker}
use Rattle.fq_column.specs.Frame.{Fields}
use Rattle.fq_plan.specs.Stages.{columns_of, LowersTo}
use Rattle.fq_plan.proofs.checks.steps.PassedSteps.add.Goals as goal

pub returns-in-Rows-clause-leads : goal.returns-in-Rows-clause-leads
returns-in-Rows-clause-leads c = on_ok_weaker c.add_rows.result (λ further. further (columns_of c.args.sides.now)) c.add_rows.ensures.leads

pub returns-in_ok-join-in-Join-clause-leads : goal.returns-in_ok-join-in-Join-clause-leads
returns-in_ok-join-in-Join-clause-leads c =
    let sides = columns_of c.args.sides.now in
    let made = c.in_ok-join-in-Join in
    let turns = subst (λ (fields : Fields). LowersTo sides c.args.number fields made.join.0 made.join.1) c.schema.ensures (made.ensures.turns c.args.number) in
    on_ok_weaker c.push.result (λ further main leads. further sides main leads c.requires.number turns) c.push.ensures.leads

pub returns-in_ok-grouping-in-GroupBy-clause-leads : goal.returns-in_ok-grouping-in-GroupBy-clause-leads
returns-in_ok-grouping-in-GroupBy-clause-leads c =
    let sides = columns_of c.args.sides.now in
    let made = c.in_ok-grouping-in-GroupBy in
    let turns = subst (λ (fields : Fields). LowersTo sides c.args.number fields made.grouping.0 made.grouping.1) c.schema-in-GroupBy.ensures (made.ensures.turns sides c.args.number) in
    on_ok_weaker c.push-in-GroupBy.result (λ further main leads. further sides main leads c.requires.number turns) c.push-in-GroupBy.ensures.leads

pub returns-in_ok-sum-in-RollingSum-clause-leads : goal.returns-in_ok-sum-in-RollingSum-clause-leads
returns-in_ok-sum-in-RollingSum-clause-leads c =
    let sides = columns_of c.args.sides.now in
    let made = c.in_ok-sum-in-RollingSum in
    let turns = subst (λ (fields : Fields). LowersTo sides c.args.number fields made.sum.0 made.sum.1) c.schema-schema.ensures (made.ensures.turns sides c.args.number) in
    on_ok_weaker c.push-in-RollingSum.result (λ further main leads. further sides main leads c.requires.number turns) c.push-in-RollingSum.ensures.leads
