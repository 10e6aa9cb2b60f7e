use Rattle.std.proofs.Common.{◌∙◌, sym, map}
use Rattle.std.proofs.lemmas.List.{length-map}
use Rattle.serde_json.specs.View.{view}
use Rattle.fq_language.proofs.ValueLemmas.{get-only, only_member-many}
use Rattle.fq_language.proofs.reading.values.only_member.Goals as goal

pub returns-then-len-ne1 : goal.returns-then-len-ne1
returns-then-len-ne1 c = let ms = map (λ m. (m.0, view m.1)) c.in_ok-members.members.now.entries in
    sym (only_member-many c.args.name.now (view c.args.value.now) ms c.in_ok-members.ensures (λ n. c.if-len-ne1.true (c.len.ensures.len ∙ sym (length-map c.in_ok-members.members.now.entries (λ m. (m.0, view m.1))) ∙ n)))

pub returns : goal.returns
returns c = let ms = map (λ m. (m.0, view m.1)) c.in_ok-members.members.now.entries in
    c.get.ensures ∙ get-only c.args.name.now (view c.args.value.now) ms c.in_ok-members.ensures (length-map c.in_ok-members.members.now.entries (λ m. (m.0, view m.1)) ∙ sym c.len.ensures.len ∙ c.if-len-ne1.false)
