use Rattle.std.proofs.Common.{map, string_bytes, length, ap, ◌∙◌, arith}
use Rattle.std.proofs.lemmas.List.{length-map}
use Rattle.fq_column.specs.Frame.{Fields}
use Rattle.fq_column.proofs.SchemaLemmas.{length-fields_of}
use Rattle.fq_ops.specs.Fields.{with_kind}
use Rattle.fq_ops.proofs.JudgedFieldLemmas.{fields_of-set}
use Rattle.fq_ops.proofs.field_lists.FieldList.set_kind.Goals as goal

pub index_mut-requires : goal.index_mut-requires
index_mut-requires c =
    let ns = c.self.inside.names.items in
    let ks = c.self.inside.kinds.items in
    grind (arith, c.requires, ap (λ (f : Fields). length f) c.self.view_is, length-fields_of (map string_bytes ns) ks (length-map ns string_bytes ∙ c.self.invariant), length-map ns string_bytes, c.self.invariant)

pub returns : goal.returns
returns c =
    let ns = c.self.inside.names.items in
    let ks = c.self.inside.kinds.items in
    fields_of-set (map string_bytes ns) ks c.args.i c.args.kind (length-map ns string_bytes ∙ c.self.invariant)
    ∙ ap (λ (f : Fields). with_kind c.args.i c.args.kind f) c.self.view_is
