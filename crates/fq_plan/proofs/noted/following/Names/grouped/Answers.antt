use Rattle.std.proofs.Common.{◌≡◌, ◌⊎◌, Global, List, String, map, Err, ap, string_bytes, subst, ◌∙◌}
use Rattle.std.specs.Prelude.{IfErr}
use Rattle.fq_notation.specs.declared.naming.Said.{Said}
use Rattle.fq_notation.specs.declared.naming.StepUnnoted.TheVariants as unnoted
use Rattle.fq_ops.specs.Aggregate.{Output}
use Rattle.fq_ops.specs.AggregateData.{outputs_of}
use Rattle.fq_ops.specs.Noted.{group_noted}
use Rattle.fq_ops.specs.declared.aggregates.Agg.{Agg}
use Rattle.fq_plan.specs.PlannedSteps.{said_in}
use Rattle.fq_plan.proofs.noted.following.Names.grouped.Goals as goal

pub returns-clause-refused : goal.returns-clause-refused
returns-clause-refused c =
    let told : List Agg → List Said = λ aggs. map (λ (o : Output). said_in c.args.self.now o.0) (outputs_of aggs) in
    let by : List Said → List (String Global) → List Agg → Type 0 = λ said keys aggs.
    IfErr c.group_noted.result (λ why. (group_noted c.args.columns.now c.args.named.now said (map string_bytes keys) (outputs_of aggs) ≡ Err why) ⊎ (why ≡ unnoted.Memory)) in
    let group_by = c.args.group_by.now in
    subst (λ said. by said group_by.keys.items group_by.aggs.items) (c.as_slice.ensures.value ∙ c.in_ok-said.ensures ∙ ap told c.as_slice-aggs.ensures.value)
    (subst (λ keys. by c.as_slice.result.now keys group_by.aggs.items) c.as_slice-keys.ensures.value
    (subst (λ aggs. by c.as_slice.result.now c.as_slice-keys.result.now aggs) c.as_slice-aggs.ensures.value c.group_noted.ensures.refused))
