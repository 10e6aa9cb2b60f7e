use Rattle.std.proofs.Common.{◌<◌, ◌∙◌, Some, ap, arith, length, sym}
use Rattle.std.proofs.lemmas.List.{length-map}
use Rattle.fq_column.specs.Frame.{names_of}
use Rattle.fq_csv.specs.Writing.{held}
use Rattle.fq_csv.proofs.PrintLemmas.{HasPut-more, HasPut-start, name-field}
use Rattle.fq_csv.proofs.printing.put_names.Goals as goal

pub loop-i-init : goal.loop-i-init
loop-i-init c = HasPut-start held c.args.writer.now (names_of c.args.schema.now) c.requires

pub loop-i-preserved : goal.loop-i-preserved
loop-i-preserved c =
    let names = names_of c.args.schema.now in
    let below : c.loop-i.i < length names = simp length-map (omega (arith, c.loop-i-test.true, c.len-i-end.ensures.len)) in
    HasPut-more held c.args.writer.now c.loop-i.writer c.put_field.new.writer names c.loop-i.i c.as_bytes.result.now c.loop-i.invariant below
    (name-field names c.loop-i.i c.as_bytes.result.now (c.name.ensures ∙ ap Some (sym c.as_bytes.ensures.value))) c.in_ok-put_field.ensures
