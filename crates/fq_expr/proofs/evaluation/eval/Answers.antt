use Rattle.std.proofs.Common.{◌≡◌, ◌∙◌, ℕ, ap, sym, map, length, take, nat_lt, arith, Bool, true, false, cond, Option, Some, None, refl}
use Rattle.std.specs.Bool.{then_some}
use Rattle.std.proofs.lemmas.List.{length-map, take_all}
use Rattle.fq_column.specs.Lists.{before_missing}
use Rattle.fq_expr.specs.ExpressionData.{expression_of}
use Rattle.fq_expr.specs.Value.{value_of}
use Rattle.fq_expr.proofs.OutcomeLemmas.{outcome-rows}
use Rattle.fq_expr.proofs.PrefixLemmas.{first_missing-is}
use Rattle.fq_expr.proofs.evaluation.eval.Goals as goal

then_some-is : (b : Bool) (n : ℕ) → then_some b n ≡ (let none : Option ℕ = None in cond b (Some n) none)
then_some-is true n = refl
then_some-is false n = refl

pub returns-clause-fault : goal.returns-clause-fault
returns-clause-fault c =
    let fields = c.args.batch.now.fields in let e = expression_of c.args.expr.now in let all = c.args.batch.now.rows in
    let values = map (value_of fields e) all in
    let n : c.in_ok-outcome.outcome.rows ≡ length (before_missing values) =
    outcome-rows fields e (take c.rows.result all) c.in_ok-outcome.outcome c.in_ok-outcome.ensures.outcome
    ∙ ap (λ l. length (before_missing (map (value_of fields e) l))) (take_all c.rows.result all (omega (arith, c.rows.ensures.rows))) in
    c.then_some-fault.ensures
    ∙ (λ i. then_some (nat_lt (n i) ((c.rows-2.ensures.rows ∙ sym (length-map all (value_of fields e))) i)) (n i))
    ∙ then_some-is (nat_lt (length (before_missing values)) (length values)) (length (before_missing values))
    ∙ first_missing-is values
