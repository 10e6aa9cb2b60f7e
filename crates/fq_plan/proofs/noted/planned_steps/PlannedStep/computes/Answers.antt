use Rattle.std.proofs.Common.{◌∙◌, Bool, Global, String, ap, not, refl, string_bytes, sym}
use Rattle.std.specs.Prelude.{◌&&◌}
use Rattle.std.specs.List.{list_any}
use Rattle.fq_column.specs.Frame.{same_name}
use Rattle.fq_column.proofs.ListLemmas.{any-mapped}
use Rattle.fq_expr.specs.Expression.{Item}
use Rattle.fq_expr.specs.ExpressionData.{expression_of}
use Rattle.fq_expr.specs.Naming.{is_itself}
use Rattle.fq_expr.specs.declared.expressions.Expr.{Expr}
use Rattle.fq_ops.specs.Aggregate.{Output}
use Rattle.fq_ops.specs.AggregateData.{aggregate_of}
use Rattle.fq_ops.specs.declared.aggregates.Agg.{Agg}
use Rattle.fq_plan.specs.Followed.{computes}
use Rattle.fq_plan.specs.PlannedSteps.{planned_step}
use Rattle.fq_plan.specs.declared.noted.planned_steps.PlannedStep.{PlannedStep}
use Rattle.fq_plan.proofs.noted.planned_steps.PlannedStep.computes.Goals as goal

pub returns-in-Row : goal.returns-in-Row
returns-in-Row c =
    let name = c.args.name.now in
    let spelled : String Global × Expr → Item = λ i. (string_bytes i.0, expression_of i.1) in
    let is_computed : Item → Bool = λ i. same_name name i.0 && not (is_itself name i.1) in
    c.one_computes.ensures
    ∙ any-mapped spelled (λ i. is_computed (spelled i)) is_computed (λ i. refl) c.items_in.result.now
    ∙ ap (list_any is_computed) c.items_in.ensures
    ∙ ap (λ (s : PlannedStep). computes name (planned_step s)) (sym c.in-Row.is)

pub returns-in-GroupBy : goal.returns-in-GroupBy
returns-in-GroupBy c =
    let name = c.args.name.now in
    let spelled : Agg → Output = λ a. (string_bytes a.name, aggregate_of a.what) in
    let is_named : Output → Bool = λ o. same_name name o.0 in
    c.one_is_named.ensures
    ∙ ap (list_any (λ a. is_named (spelled a))) c.as_slice.ensures.value
    ∙ any-mapped spelled (λ a. is_named (spelled a)) is_named (λ a. refl) c.in-GroupBy.group_by.now.aggs.items
    ∙ ap (λ (s : PlannedStep). computes name (planned_step s)) (sym c.in-GroupBy.is)
