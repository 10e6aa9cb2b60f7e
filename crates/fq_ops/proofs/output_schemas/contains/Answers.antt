use Rattle.std.proofs.Common.{map, string_bytes, sym, ap, ◌∙◌, arith, []}
use Rattle.std.proofs.lemmas.List.{length-map, get_or-map}
use Rattle.std.proofs.lemmas.List.Folds.{list_any_at}
use Rattle.fq_column.specs.Frame.{same_name}
use Rattle.fq_ops.proofs.output_schemas.contains.Goals as goal

pub returns-then-eq : goal.returns-then-eq
returns-then-eq c =
    let names = c.args.names.now in
    let i = c.loop-other.other-index in
    let other = c.other-item.result in
    let low = length-map names string_bytes in
    sym (list_any_at (same_name c.args.name.now) (map string_bytes names) i [] (omega (arith, low))
    (ap (same_name c.args.name.now) (get_or-map string_bytes names i other [] (omega arith) ∙ ap string_bytes (sym c.other-item.is) ∙ sym c.as_str.ensures.value) ∙ sym c.eq.ensures ∙ c.if-eq.true))
