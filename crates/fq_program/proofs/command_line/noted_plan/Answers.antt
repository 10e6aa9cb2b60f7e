use Rattle.std.proofs.Common.{◌∙◌, length, Err, Ok, sym, ap, inl, inr}
use Rattle.std.proofs.lemmas.Result.{err_from_is_err_and}
use Rattle.fq_messages.specs.Ending.{status_of, unnoted}
use Rattle.fq_program.proofs.NamedLemmas.{right-notations, wrong-notations, wrong-number}
use Rattle.fq_program.proofs.command_line.noted_plan.Goals as goal

pub returns-in_err-count_files-clause-noted : goal.returns-in_err-count_files-clause-noted
returns-in_err-count_files-clause-noted c =
    let exit = err_from_is_err_and c.from_residual.result c.from_residual.ensures.1 in
    let wrong = c.in_err-count_files.ensures.wrong in
    rw exit.1 (inl (wrong-number c.args.plan c.args.named.now (length c.args.names.now) wrong.0 ∙ sym (ap Err (exit.2 ∙ wrong.1))))

pub returns-in_err-with_notations-clause-noted : goal.returns-in_err-with_notations-clause-noted
returns-in_err-with_notations-clause-noted c =
    let exit = err_from_is_err_and c.from_residual-in_err-with_notations.result c.from_residual-in_err-with_notations.ensures.1 in
    rw exit.1 (elim c.in_err-with_notations.ensures.refused [
      | inl refused ↦ inl (wrong-notations c.args.plan c.args.named.now (length c.args.names.now) _ c.in_ok-count_files.ensures.right refused ∙ sym (ap Err exit.2))
      | inr memory ↦ inr (inr (ap status_of (exit.2 ∙ ap unnoted memory)))
    ])

pub returns-clause-noted : goal.returns-clause-noted
returns-clause-noted c =
    let noted = c.in_ok-with_notations.ensures.noted in
    right-notations c.args.plan c.args.named.now (length c.args.names.now) c.in_ok-count_files.ensures.right noted.0 ∙ ap Ok (sym noted.1)
