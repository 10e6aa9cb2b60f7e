use Rattle.std.proofs.Common.{◌≡◌, [], ◌∷◌, Err, not, true, false, sym, ap, ◌∙◌}
use Rattle.std.proofs.lemmas.Result.{err_from_is_err_and}
use Rattle.fq_column.specs.declared.faults.StepFault.TheVariants.{WrongKind}
use Rattle.fq_column.specs.Cell.{same_kind}
use Rattle.fq_column.specs.Refusal.{first_refusal, refuse_if}
use Rattle.fq_column.proofs.KindLemmas.{same_kind-by_ne}
use Rattle.fq_ops.proofs.RefusalLemmas.{key-left_refused, key-right_refused, key-kinds}
use Rattle.fq_ops.proofs.output_schemas.check_key.Goals as goal

pub returns-in_err-left_kind-clause-err : goal.returns-in_err-left_kind-clause-err
returns-in_err-left_kind-clause-err c =
    let exit = err_from_is_err_and c.from_residual.result c.from_residual.ensures.1 in
    rw (exit.1) (key-left_refused c.args.left.now c.args.right.now c.args.name.now exit.0 (sym c.kind_of.ensures ∙ c.in_err-left_kind.was ∙ ap Err (sym exit.2)))

pub returns-in_err-right_kind-clause-err : goal.returns-in_err-right_kind-clause-err
returns-in_err-right_kind-clause-err c =
    let exit = err_from_is_err_and c.from_residual-in_err-right_kind.result c.from_residual-in_err-right_kind.ensures.1 in
    rw (exit.1) (key-right_refused c.args.left.now c.args.right.now c.args.name.now c.in_ok-left_kind.left_kind (sym c.in_ok-left_kind.ensures) exit.0 (sym c.kind_of-2.ensures ∙ c.in_err-right_kind.was ∙ ap Err (sym exit.2)))

pub returns-then-ne-clause-err : goal.returns-then-ne-clause-err
returns-then-ne-clause-err c =
    let differ : same_kind c.in_ok-left_kind.left_kind c.in_ok-right_kind.right_kind ≡ false = same_kind-by_ne c.in_ok-left_kind.left_kind c.in_ok-right_kind.right_kind c.ne.result c.ne.ensures ∙ ap not c.if-ne.true in
    key-kinds c.args.left.now c.args.right.now c.args.name.now c.in_ok-left_kind.left_kind (sym c.in_ok-left_kind.ensures) c.in_ok-right_kind.right_kind (sym c.in_ok-right_kind.ensures)
    ∙ ap (λ b. first_refusal (refuse_if (not b) WrongKind ∷ [])) differ

pub returns-clause-ok : goal.returns-clause-ok
returns-clause-ok c =
    let same : same_kind c.in_ok-left_kind.left_kind c.in_ok-right_kind.right_kind ≡ true = same_kind-by_ne c.in_ok-left_kind.left_kind c.in_ok-right_kind.right_kind c.ne.result c.ne.ensures ∙ ap not c.if-ne.false in
    key-kinds c.args.left.now c.args.right.now c.args.name.now c.in_ok-left_kind.left_kind (sym c.in_ok-left_kind.ensures) c.in_ok-right_kind.right_kind (sym c.in_ok-right_kind.ensures)
    ∙ ap (λ b. first_refusal (refuse_if (not b) WrongKind ∷ [])) same
