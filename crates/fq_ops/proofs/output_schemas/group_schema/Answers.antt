use Rattle.std.proofs.Common.{◌≡◌, ◌++◌, Err, map, string_bytes, sym, ap, refl, ◌∙◌, inl}
use Rattle.std.proofs.lemmas.Result.{err_from_is_err_and}
use Rattle.fq_column.specs.declared.faults.StepFault.{StepFault}
use Rattle.fq_column.specs.declared.faults.StepFault.TheVariants.{DoubleName}
use Rattle.fq_column.specs.Frame.{Fields, names_of}
use Rattle.fq_column.specs.Refusal.{unless_refused}
use Rattle.fq_column.specs.Schema.{kind_named, schema_checks}
use Rattle.fq_ops.specs.AggregateData.{aggregate_of, outputs_of}
use Rattle.fq_ops.specs.Fields.{Judged, settled}
use Rattle.fq_ops.specs.Group.{aggregate_kind, group_schema, grouped_fields}
use Rattle.fq_ops.proofs.GroupingLemmas.{aggregates-judged, keys-judged}
use Rattle.fq_ops.proofs.RefusalLemmas.{fields-grouped, has-refusal-or, late-double, schema-few}
use Rattle.fq_ops.proofs.output_schemas.group_schema.Goals as goal

-- a double name is found later
abbrev IsLate : StepFault → Type 0
IsLate f = f ≡ DoubleName

pub returns-in_err-check_grouping : goal.returns-in_err-check_grouping
returns-in_err-check_grouping c =
    let exit = err_from_is_err_and c.from_residual.result c.from_residual.ensures.1 in
    let is = exit.1 ∙ ap Err exit.2 ∙ sym c.in_err-check_grouping.ensures.err in
    record { judged = inl is; early = has-refusal-or (group_schema c.args.schema.now (map string_bytes c.args.keys.now) (outputs_of c.args.aggs.now)) c.from_residual.result IsLate is }

pub returns-in_err-add_keys-clause-early : goal.returns-in_err-add_keys-clause-early
returns-in_err-add_keys-clause-early c =
    late-double (group_schema c.args.schema.now (map string_bytes c.args.keys.now) (outputs_of c.args.aggs.now)) (grouped_fields c.args.schema.now (map string_bytes c.args.keys.now) (outputs_of c.args.aggs.now))
    IsLate c.in_ok-check_grouping.ensures.ok.2 refl _

pub returns-in_err-add_aggregates-clause-early : goal.returns-in_err-add_aggregates-clause-early
returns-in_err-add_aggregates-clause-early c =
    late-double (group_schema c.args.schema.now (map string_bytes c.args.keys.now) (outputs_of c.args.aggs.now)) (grouped_fields c.args.schema.now (map string_bytes c.args.keys.now) (outputs_of c.args.aggs.now))
    IsLate c.in_ok-check_grouping.ensures.ok.2 refl _

pub returns : goal.returns
returns c =
    let s = c.args.schema.now in
    let keys = map string_bytes c.args.keys.now in
    let outputs = outputs_of c.args.aggs.now in
    let passed = c.in_ok-check_grouping.ensures.ok in
    let keyed = c.in_ok-add_keys.ensures.ok.1 ∙ ap (λ fs. fs ++ settled (map {B = Judged} (λ k. (string_bytes k, kind_named s (string_bytes k))) c.args.keys.now)) c.new-fields.ensures in
    let built = c.in_ok-add_aggregates.ensures.ok.1
    ∙ ap (λ fs. fs ++ settled (map {B = Judged} (λ a. (string_bytes a.name, aggregate_kind s (aggregate_of a.what))) c.args.aggs.now)) keyed
    ∙ (λ i. settled (keys-judged s c.args.keys.now i) ++ settled (aggregates-judged s c.args.aggs.now i))
    ∙ sym (fields-grouped s keys outputs) in
    let is = c.into_schema.ensures ∙ ap (λ (fs : Fields). unless_refused (schema_checks (names_of fs)) fs) built
    ∙ schema-few (grouped_fields s keys outputs) passed.1 passed.0 ∙ sym passed.2 in
    record { judged = inl is; early = has-refusal-or (group_schema s keys outputs) c.into_schema.result IsLate is }
