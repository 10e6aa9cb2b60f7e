use Rattle.std.proofs.Common.{◌≡◌, ◌++◌, ◌∷◌, [], ℤ, w64, Result, Err, sym, ap, ◌∙◌, inl}
use Rattle.std.proofs.lemmas.Int.{to_z-of_z}
use Rattle.std.proofs.lemmas.Result.{err_from_is_err_and}
use Rattle.fq_column.specs.declared.cells.Kind.TheVariants.{Whole}
use Rattle.fq_column.specs.declared.faults.StepFault.{StepFault}
use Rattle.fq_column.specs.Frame.{Fields, names_of, put_named}
use Rattle.fq_column.specs.Refusal.{unless_refused}
use Rattle.fq_column.specs.Schema.{schema_checks}
use Rattle.fq_column.proofs.NameLemmas.{unnamed}
use Rattle.fq_ops.specs.Fields.{with_kind}
use Rattle.fq_ops.specs.Roll.{roll_schema}
use Rattle.fq_ops.proofs.RefusalLemmas.{has-refusal, put_named-at, put_named-last, roll-made}
use Rattle.fq_ops.proofs.output_schemas.roll_schema.Goals as goal
use Rattle.fq_ops.proofs.output_schemas.roll_schema.Goals.{in-Some, in-None+in_ok-copy_name-in-None+in_ok-push-in-None}

pub returns-in_err-check_roll : goal.returns-in_err-check_roll
returns-in_err-check_roll c =
    let exit = err_from_is_err_and c.from_residual.result c.from_residual.ensures.1 in
    let judged : ℤ → ℤ → Result Fields StepFault = λ window min_samples. roll_schema c.args.schema.now c.args.column.now window min_samples c.args.name.now in
    let is = exit.1 ∙ ap Err exit.2 ∙ sym c.in_err-check_roll.ensures.err
    ∙ (λ i. judged (to_z-of_z w64 c.args.window c.ranges.window i) (to_z-of_z w64 c.args.min_samples c.ranges.min_samples i)) in
    record { judged = inl is; early = has-refusal (roll_schema c.args.schema.now c.args.column.now c.args.window c.args.min_samples c.args.name.now) c.from_residual.result is }

pub returns : goal.returns
returns c =
    let fs = c.args.schema.now in
    let name = c.args.name.now in
    let copied = c.in_ok-fields.ensures.ok in
    let put : c.match-position.fields ≡ put_named fs (name, Whole) = elim c.match-position.branch [
      | in-Some w ↦ w.fields-is ∙ w.set_kind.ensures ∙ ap (with_kind w.in-Some.i Whole) copied ∙ sym (put_named-at fs name w.in-Some.i Whole (sym w.in-Some.ensures))
      | in-None+in_ok-copy_name-in-None+in_ok-push-in-None w ↦
          w.fields-is ∙ w.in_ok-push-in-None.ensures.ok ∙ ap (λ n. c.in_ok-fields.fields ++ (n, Whole) ∷ []) w.in_ok-copy_name-in-None.ensures.ok
          ∙ ap (λ (gs : Fields). gs ++ (name, Whole) ∷ []) copied ∙ sym (put_named-last fs name Whole (unnamed fs name (sym w.in-None.ensures)))
    ] in
    let judged : ℤ → ℤ → Result Fields StepFault = λ window min_samples. roll_schema fs c.args.column.now window min_samples name in
    let fits = c.in_ok-check_roll.ensures.ok in
    let is = c.into_schema.ensures ∙ ap (λ (gs : Fields). unless_refused (schema_checks (names_of gs)) gs) put
    ∙ roll-made fs name c.copy_of.ensures.schema.distinct fits.0 ∙ sym fits.1
    ∙ (λ i. judged (to_z-of_z w64 c.args.window c.ranges.window i) (to_z-of_z w64 c.args.min_samples c.ranges.min_samples i)) in
    record { judged = inl is; early = has-refusal (roll_schema fs c.args.column.now c.args.window c.args.min_samples name) c.into_schema.result is }
