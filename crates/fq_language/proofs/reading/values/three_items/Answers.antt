use Rattle.std.proofs.Common.{◌∙◌, sym}
use Rattle.serde_json.specs.View.{view}
use Rattle.fq_language.proofs.ValueLemmas.{three_items-other}
use Rattle.fq_language.proofs.reading.values.three_items.Goals as goal

pub returns-then-len-ne3 : goal.returns-then-len-ne3
returns-then-len-ne3 c = let items = c.in_ok-items.items.now in
    sym (three_items-other view (view c.args.value.now) items.items c.in_ok-items.ensures (λ n. c.if-len-ne3.true (c.len.ensures ∙ items.ok.0 ∙ n)))
