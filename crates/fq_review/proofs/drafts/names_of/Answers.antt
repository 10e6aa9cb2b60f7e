use Rattle.std.proofs.Common.{◌≡◌, ◌<◌, ◌++◌, ◌∷◌, [], ◌∙◌, ap, arith, get_or, length, map, string_bytes, sym}
use Rattle.std.proofs.lemmas.List.{map-append, take_more}
use Rattle.std.proofs.lemmas.Option.{get_or_from_slice_get}
use Rattle.csv.specs.Records.{fields_of}
use Rattle.fq_csv.proofs.ReaderLemmas.{field-gone, field-there}
use Rattle.fq_review.proofs.drafts.names_of.Goals as goal

pub unreachable-requires : goal.unreachable-requires
unreachable-requires c =
    let fs = fields_of c.args.header.now in
    let there : c.loop-at.at < length fs = omega (arith, c.len-at-end.ensures, c.loop-at-test.true) in
    field-gone fs c.loop-at.at there (sym (rw c.in_default.is at c.get.ensures.value))

pub loop-at-preserved : goal.loop-at-preserved
loop-at-preserved c =
    let fs = fields_of c.args.header.now in
    let at = c.loop-at.at in
    let name = c.in_ok-from_str.field-0 in
    let there : at < length fs = omega (arith, c.len-at-end.ensures, c.loop-at-test.true) in
    let is : string_bytes name ≡ get_or fs at [] =
    c.in_ok-from_str.ensures.ok ∙ c.in-Ok.ensures.cases.0 ∙ sym (get_or_from_slice_get fs at c.in-Some.field.now [] (sym (c.in-Some.ensures.value ∙ field-there fs at))) in
    ap (map string_bytes) c.in_ok-push.ensures.items
    ∙ map-append string_bytes c.loop-at.names.items (name ∷ [])
    ∙ (λ k. c.loop-at.invariant k ++ is k ∷ [])
    ∙ sym (take_more fs at [] there)
