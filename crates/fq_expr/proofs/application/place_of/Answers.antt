use Rattle.std.proofs.Common.{◌∙◌, ap, subst, sym, string_bytes, IfSome}
use Rattle.fq_column.specs.Frame.{Fields, names_of, position_of}
use Rattle.fq_expr.specs.Made.{IsPlaceOf}
use Rattle.fq_expr.specs.ExpressionData.{expression_of}
use Rattle.fq_expr.proofs.MadeLemmas.{place-of}
use Rattle.fq_expr.proofs.application.place_of.Goals as goal

pub returns-in-Col : goal.returns-in-Col
returns-in-Col c =
    subst (λ e. IfSome c.position.result (IsPlaceOf c.args.batch.now (expression_of e))) (sym c.in-Col.is)
    (place-of c.args.batch.now (string_bytes c.in-Col.name) c.position.result
    (c.position.ensures ∙ ap (λ n. position_of n (names_of c.schema.result.now)) c.as_str.ensures.value ∙ ap (λ (f : Fields). position_of (string_bytes c.in-Col.name) (names_of f)) c.schema.ensures))
