use Rattle.std.proofs.Common.{◌≡◌, None, Some, Option, ap, map, refl, string_bytes, subst, sym, ◌∙◌, get_or, List}
use Rattle.std.proofs.lemmas.Option.{get_or_from_slice_get}
use Rattle.fq_column.specs.Frame.{Frame}
use Rattle.fq_column.specs.Stream.{Stream}
use Rattle.fq_ops.specs.AggregateData.{outputs_of}
use Rattle.fq_run.specs.Stages.{Accepts}
use Rattle.fq_run.specs.Starting.{right_of}
use Rattle.fq_run.specs.declared.faults.Fault.{Fault}
use Rattle.fq_run.specs.declared.operators.Operator.{Operator}
use Rattle.fq_run.specs.declared.operators.Operator.TheVariants.{Join}
use Rattle.fq_run.specs.declared.operators.joining.Join.{Join as JoinForm}
use Rattle.fq_run.proofs.TransformLemmas.{steps-causal}
use Rattle.fq_run.proofs.StageLemmas.{apply_steps-none}
use Rattle.fq_run.proofs.StageTransforms.{group-started, join-can, join-started, roll-started}
use Rattle.fq_run.proofs.operators.RunningOperator.start.Goals as goal

-- the right rows of a join are those of its source
its-source : (sides : List Frame) (j : JoinForm) (operator : Operator) (given : Option Frame) (right : Frame) → operator ≡ Join j → given ≡ right_of sides operator → given ≡ Some right → right ≡ get_or sides j.source right
its-source sides j operator given right is told some = sym (get_or_from_slice_get sides j.source right right (sym (ap (right_of sides) is) ∙ sym told ∙ some))

pub new-requires : goal.new-requires
new-requires c =
    let j = c.in-Join.join in let sides = c.requires.0 in let names = map string_bytes j.on.items in (
      c.args.schema.now,
      join-can sides c.args.stage.now.number c.args.schema.now c.requires.1 j.source names c.in-Some.right
          (its-source sides j c.args.stage.now.operator c.args.right c.in-Some.right c.in-Join.is c.requires.3 c.in-Some.is) j.how j.nulls_equal
          (subst (λ (o : Operator). Accepts (map (λ (f : Frame). f.fields) sides) c.args.schema.now o c.requires.1) c.in-Join.is c.requires.2)
          names refl,
    )

pub returns-in-Rows : goal.returns-in-Rows
returns-in-Rows c sides after t told = let front = c.in-Rows.front in
    rw c.in-Rows.is (record { causal = steps-causal front; faultless = ap (λ (a : Stream Fault). a.fault) (apply_steps-none front.first front.fields front.steps None); keeps = refl })

pub returns-in_ok-new-in-Join : goal.returns-in_ok-new-in-Join
returns-in_ok-new-in-Join c sides after t told = let j = c.in-Join.join in
    rw c.in-Join.is (join-started sides c.args.stage.now.number c.args.schema.now after j.source (map string_bytes j.on.items) c.in-Some.right
    (its-source sides j c.args.stage.now.operator c.args.right c.in-Some.right c.in-Join.is told c.in-Some.is) j.how j.nulls_equal
    (subst (λ (o : Operator). Accepts (map (λ (f : Frame). f.fields) sides) c.args.schema.now o after) c.in-Join.is t)
    (map string_bytes j.on.items) refl c.in_ok-new-in-Join.field-0 c.in_ok-new-in-Join.ensures)

pub returns-in_ok-grouping-in-GroupBy : goal.returns-in_ok-grouping-in-GroupBy
returns-in_ok-grouping-in-GroupBy c sides after t told = let g = c.in-GroupBy.group_by in
    rw c.in-GroupBy.is (group-started sides c.args.stage.now.number c.args.schema.now after (map string_bytes g.keys.items) (map string_bytes g.keys.items) (outputs_of g.aggs.items) (outputs_of g.aggs.items)
    refl refl c.in_ok-grouping-in-GroupBy.grouping c.in_ok-grouping-in-GroupBy.ensures)

pub returns-in_ok-summing-in-RollingSum : goal.returns-in_ok-summing-in-RollingSum
returns-in_ok-summing-in-RollingSum c sides after t told = let r = c.in-RollingSum.rolling_sum in
    rw c.in-RollingSum.is (roll-started sides c.args.stage.now.number c.args.schema.now after (string_bytes r.column) (string_bytes r.column) r.window r.min_samples (string_bytes r.name) (string_bytes r.name)
    refl refl c.in_ok-summing-in-RollingSum.summing c.in_ok-summing-in-RollingSum.ensures)
