use Rattle.std.proofs.Common.{◌++◌, ◌∷◌, [], map, string_bytes, ap, ◌∙◌}
use Rattle.std.proofs.lemmas.List.{length-map, map-append}
use Rattle.fq_column.specs.Frame.{Fields}
use Rattle.fq_column.specs.Schema.{fields_of}
use Rattle.fq_ops.proofs.JudgedFieldLemmas.{fields_of-push}
use Rattle.fq_ops.proofs.field_lists.FieldList.push.Goals as goal

pub returns-clause-ok : goal.returns-clause-ok
returns-clause-ok c =
    let ns = c.self.inside.names.items in
    let ks = c.self.inside.kinds.items in
    ap (λ names. fields_of (map string_bytes names) c.push.new.self.items) c.in-Ok-push.ensures.items
    ∙ ap (fields_of (map string_bytes (ns ++ c.args.name ∷ []))) c.in-Ok.ensures.items
    ∙ ap (λ names. fields_of names (ks ++ c.args.kind ∷ [])) (map-append string_bytes ns (c.args.name ∷ []))
    ∙ fields_of-push (map string_bytes ns) ks (string_bytes c.args.name) c.args.kind (length-map ns string_bytes ∙ c.self.invariant)
    ∙ ap (λ (fs : Fields). fs ++ (string_bytes c.args.name, c.args.kind) ∷ []) c.self.view_is
