use Rattle.std.proofs.Common.{◌∙◌, sym}
use Rattle.serde_json.specs.View.{view}
use Rattle.fq_language.proofs.ValueLemmas.{two_items-other}
use Rattle.fq_language.proofs.reading.values.two_items.Goals as goal

pub returns-then-len-ne2 : goal.returns-then-len-ne2
returns-then-len-ne2 c = let items = c.in_ok-items.items.now in
    sym (two_items-other view (view c.args.value.now) items.items c.in_ok-items.ensures (λ n. c.if-len-ne2.true (c.len.ensures ∙ items.ok.0 ∙ n)))
