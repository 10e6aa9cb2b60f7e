use Rattle.std.proofs.Common.{◌≡◌, ◌<◌, ◌∙◌, Some, ap, arith, below_more, length, sym}
use Rattle.std.proofs.lemmas.List.{length-map}
use Rattle.csv.specs.Records.{fields_of}
use Rattle.fq_column.specs.Frame.{names_of}
use Rattle.fq_csv.proofs.HeaderLemmas.{bytes-differ, bytes-same, names-other, names-same}
use Rattle.fq_csv.proofs.ReaderLemmas.{field-gone, field-there}
use Rattle.fq_csv.proofs.scanning.headers.has_names.Goals as goal

pub unreachable-requires : goal.unreachable-requires
unreachable-requires c =
    let fs = fields_of c.args.row.now in
    let there : c.loop-i.i < length fs = omega (arith, c.len.ensures, c.if-len.false, c.len-2.ensures.len, c.len-i-end.ensures.len, c.loop-i-test.true) in
    field-gone fs c.loop-i.i there (sym (rw c.in_default.is at c.get.ensures.value))

pub returns-then-ne : goal.returns-then-ne
returns-then-ne c =
    let fs = fields_of c.args.row.now in
    names-other (names_of c.args.schema.now) fs c.loop-i.i c.as_bytes.result.now c.in-Some.field.now (c.name.ensures ∙ ap Some (sym c.as_bytes.ensures.value)) (c.in-Some.ensures.value ∙ field-there fs c.loop-i.i)
    (bytes-differ c.in-Some.field.now c.as_bytes.result.now c.if-ne.ensures)

pub loop-i-preserved : goal.loop-i-preserved
loop-i-preserved c =
    let fs = fields_of c.args.row.now in
    let same = bytes-same c.in-Some.field.now c.as_bytes.result.now c.if-ne.ensures in
    below_more _ _ c.loop-i.invariant (c.name.ensures ∙ ap Some (sym (same ∙ c.as_bytes.ensures.value)) ∙ c.in-Some.ensures.value ∙ field-there fs c.loop-i.i)

pub returns : goal.returns
returns c =
    let names = names_of c.args.schema.now in
    let size : length names ≡ length c.args.schema.now = length-map _ _ in
    names-same names (fields_of c.args.row.now) (sym c.len.ensures ∙ c.if-len.false ∙ c.len-2.ensures.len ∙ sym size) (λ k l. c.loop-i.invariant k (omega (arith, l, size, c.loop-i-test.false, c.len-i-end.ensures.len)))
