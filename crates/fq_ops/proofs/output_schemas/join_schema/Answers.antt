use Rattle.std.proofs.Common.{◌≡◌, ◌++◌, ◌<◌, List, Err, map, length, string_bytes, sym, ap, refl, true, ◌∙◌, inl, arith, length-append}
use Rattle.std.proofs.lemmas.Result.{err_from_is_err_and}
use Rattle.fq_column.specs.declared.faults.StepFault.{StepFault}
use Rattle.fq_column.specs.declared.faults.StepFault.TheVariants.{DoubleName}
use Rattle.fq_column.specs.Frame.{Fields, Name, names_of, same_name}
use Rattle.fq_column.specs.Lists.{is_distinct}
use Rattle.fq_column.specs.Refusal.{unless_refused}
use Rattle.fq_column.specs.Schema.{schema_checks}
use Rattle.fq_ops.specs.Join.{join_schema, joined_fields, renamed, taken}
use Rattle.fq_ops.proofs.RefusalLemmas.{has-refusal-or, late-double, schema-few}
use Rattle.fq_ops.proofs.output_schemas.join_schema.Goals as goal

-- a double name is found later, if no key is named twice
abbrev IsLate : List Name → StepFault → Type 0
IsLate on f = (f ≡ DoubleName) × (is_distinct same_name on ≡ true)

pub returns-in_err-check_join : goal.returns-in_err-check_join
returns-in_err-check_join c =
    let on = map string_bytes c.args.on.now in
    let exit = err_from_is_err_and c.from_residual.result c.from_residual.ensures.1 in
    let is = exit.1 ∙ ap Err exit.2 ∙ sym c.in_err-check_join.ensures.err in
    record { judged = inl is; early = has-refusal-or (join_schema c.args.how c.args.left.now c.args.right.now on) c.from_residual.result (IsLate on) is }

pub returns-in_err-fields-clause-early : goal.returns-in_err-fields-clause-early
returns-in_err-fields-clause-early c =
    let on = map string_bytes c.args.on.now in
    let passed = c.in_ok-check_join.ensures.ok in
    late-double (join_schema c.args.how c.args.left.now c.args.right.now on) (joined_fields c.args.how c.args.left.now c.args.right.now on) (IsLate on) passed.2 (refl, passed.1) _

pub returns-in_err-add_taken-clause-early : goal.returns-in_err-add_taken-clause-early
returns-in_err-add_taken-clause-early c =
    let on = map string_bytes c.args.on.now in
    let passed = c.in_ok-check_join.ensures.ok in
    late-double (join_schema c.args.how c.args.left.now c.args.right.now on) (joined_fields c.args.how c.args.left.now c.args.right.now on) (IsLate on) passed.2 (refl, passed.1) _

pub returns : goal.returns
returns c =
    let left = c.args.left.now in
    let right = c.args.right.now in
    let on = map string_bytes c.args.on.now in
    let passed = c.in_ok-check_join.ensures.ok in
    let built = c.in_ok-add_taken.ensures.ok ∙ ap (λ fs. fs ++ renamed left on (taken c.args.how right)) c.in_ok-fields.ensures.ok in
    let some : 0 < length (joined_fields c.args.how left right on) = omega (arith, c.copy_of.ensures.schema.some_column, length-append left (renamed left on (taken c.args.how right))) in
    let is = c.into_schema.ensures ∙ ap (λ (fs : Fields). unless_refused (schema_checks (names_of fs)) fs) built
    ∙ schema-few (joined_fields c.args.how left right on) some passed.0 ∙ sym passed.2 in
    record { judged = inl is; early = has-refusal-or (join_schema c.args.how left right on) c.into_schema.result (IsLate on) is }
