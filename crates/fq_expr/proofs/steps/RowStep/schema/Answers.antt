use Rattle.std.proofs.Common.{◌∙◌, ap, sym, Err, inl}
use Rattle.std.proofs.lemmas.Result.{err_from_is_err_and}
use Rattle.fq_expr.specs.ExpressionData.{step_of}
use Rattle.fq_expr.specs.Kinds.{step_schema}
use Rattle.fq_expr.proofs.JudgementLemmas.{refused-is, early-refused}
use Rattle.fq_expr.proofs.steps.RowStep.schema.Goals as goal

pub returns-in_err-check-clause-judged : goal.returns-in_err-check-clause-judged
returns-in_err-check-clause-judged c =
    let p = err_from_is_err_and c.from_residual.result c.from_residual.ensures.1 in
    rw (p.1, p.2) (inl (sym (refused-is (step_schema c.args.schema.now (step_of c.args.self.now)) c.in_err-check.field-0.0 c.in_err-check.ensures.err)))

pub returns-in_err-check-clause-early : goal.returns-in_err-check-clause-early
returns-in_err-check-clause-early c =
    let p = err_from_is_err_and c.from_residual.result c.from_residual.ensures.1 in
    early-refused (step_schema c.args.schema.now (step_of c.args.self.now)) c.from_residual.result c.in_err-check.field-0.0 c.in_err-check.ensures.err (p.1 ∙ ap Err p.2)
