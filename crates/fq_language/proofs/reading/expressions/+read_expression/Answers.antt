use Rattle.std.proofs.Common.{◌∙◌, ap, sym, inl}
use Rattle.serde_json.specs.View.{view}
use Rattle.serde_json.proofs.Views.{view-Array}
use Rattle.fq_language.specs.Spelling.{expression}
use Rattle.fq_language.proofs.ValueLemmas.{expression-other}
use Rattle.fq_language.proofs.reading.expressions.+read_expression.Goals as goal

pub returns-else-len-eq3 : goal.returns-else-len-eq3
returns-else-len-eq3 t c = let items = c.in-Array.items in
    inl (sym (ap expression (ap view c.in-Array.is ∙ view-Array items)
    ∙ expression-other view items.items (λ n. c.if-len-eq2.false (c.len.ensures ∙ items.ok.0 ∙ n)) (λ n. c.if-len-eq3.false (c.len-else-len-eq2.ensures ∙ items.ok.0 ∙ n))))
