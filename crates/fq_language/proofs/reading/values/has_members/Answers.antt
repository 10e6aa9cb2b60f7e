use Rattle.std.proofs.Common.{◌∙◌, ap, sym, map, nat_eq}
use Rattle.std.proofs.lemmas.List.{length-map}
use Rattle.serde_json.specs.View.{view}
use Rattle.fq_language.proofs.ValueLemmas.{has_members-of}
use Rattle.fq_language.proofs.reading.values.has_members.Goals as goal

pub returns-in-Some : goal.returns-in-Some
returns-in-Some c = let ms = map (λ m. (m.0, view m.1)) c.in-Some.members.now.entries in
    ap (λ n. nat_eq n c.args.count) (c.len.ensures.len ∙ sym (length-map c.in-Some.members.now.entries (λ m. (m.0, view m.1))))
    ∙ sym (has_members-of c.args.count (view c.args.value.now) ms c.in-Some.ensures)
