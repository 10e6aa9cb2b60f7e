use Rattle.std.proofs.Common.{◌≡◌, ◌<◌, ◌∙◌, Some, ap, arith, below_more, length, string_bytes, sym}
use Rattle.std.specs.Option.{option_map}
use Rattle.std.proofs.lemmas.List.{length-map}
use Rattle.std.proofs.lemmas.Option.{slice_get-map}
use Rattle.csv.specs.Records.{fields_of}
use Rattle.fq_column.proofs.SchemaLemmas.{slice_get-at}
use Rattle.fq_csv.proofs.HeaderLemmas.{bytes-differ, bytes-same, names-other, names-same}
use Rattle.fq_csv.proofs.ReaderLemmas.{field-gone, field-there}
use Rattle.fq_review.specs.Checked.{names_in}
use Rattle.fq_review.proofs.headers.has_names.Goals as goal

pub unreachable-requires : goal.unreachable-requires
unreachable-requires g c =
    let fs = fields_of c.args.header.now in
    let there : c.loop-place.place < length fs = omega (arith, c.len.ensures, c.if-len-columns.false, c.loop-place-test.true) in
    field-gone fs c.loop-place.place there (sym (rw c.in_default.is at c.get.ensures.value))

pub returns-then-ne : goal.returns-then-ne
returns-then-ne g c =
    let fs = fields_of c.args.header.now in
    let columns = c.args.columns.now in
    let column = c.index-columns-place.result in
    let at = slice_get-map (λ d. string_bytes d.0) columns c.loop-place.place ∙ ap (option_map (λ d. string_bytes d.0)) (slice_get-at columns c.loop-place.place column (omega (arith, c.loop-place-test.true)) c.index-columns-place.is) ∙ ap (λ d. Some (string_bytes d.0)) c.index-columns-place.is in
    names-other (names_in columns) fs c.loop-place.place c.as_bytes.result.now c.in-Some.field.now (at ∙ ap Some (sym c.as_bytes.ensures.value)) (c.in-Some.ensures.value ∙ field-there fs c.loop-place.place)
    (bytes-differ c.in-Some.field.now c.as_bytes.result.now c.if-ne.ensures)

pub loop-place-preserved : goal.loop-place-preserved
loop-place-preserved g c =
    let fs = fields_of c.args.header.now in
    let columns = c.args.columns.now in
    let column = c.index-columns-place.result in
    let at = slice_get-map (λ d. string_bytes d.0) columns c.loop-place.place ∙ ap (option_map (λ d. string_bytes d.0)) (slice_get-at columns c.loop-place.place column (omega (arith, c.loop-place-test.true)) c.index-columns-place.is) ∙ ap (λ d. Some (string_bytes d.0)) c.index-columns-place.is in
    let same = bytes-same c.in-Some.field.now c.as_bytes.result.now c.if-ne.ensures in
    below_more _ _ c.loop-place.invariant (at ∙ ap Some (sym (same ∙ c.as_bytes.ensures.value)) ∙ c.in-Some.ensures.value ∙ field-there fs c.loop-place.place)

pub returns : goal.returns
returns g c =
    let columns = c.args.columns.now in
    let names = names_in columns in
    let size : length names ≡ length columns = length-map _ _ in
    names-same names (fields_of c.args.header.now) (omega (arith, c.len.ensures, c.if-len-columns.false, size)) (λ k l. c.loop-place.invariant k (omega (arith, l, size, c.loop-place-test.false)))
