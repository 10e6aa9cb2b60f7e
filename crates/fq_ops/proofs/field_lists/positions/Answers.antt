use Rattle.std.proofs.Common.{[], string_bytes, sym, ap, ◌∙◌, arith}
use Rattle.std.proofs.lemmas.List.{length-map, get_or-map}
use Rattle.fq_column.specs.Frame.{has_name, names_of}
use Rattle.fq_ops.proofs.field_lists.positions.Goals as goal

pub place_of-requires : goal.place_of-requires
place_of-requires c =
    let s = c.args.schema.now in
    let names = c.args.names.now in
    let i = c.loop-name.name-index in
    let name = c.name-item.result in
    let low = length-map names string_bytes in
    let known = c.requires i [] (omega (arith, low)) in
    let same = get_or-map string_bytes names i name [] (omega arith) ∙ ap string_bytes (sym c.name-item.is) ∙ sym c.as_str.ensures.value in
    sym (ap (has_name (names_of s)) same) ∙ known
