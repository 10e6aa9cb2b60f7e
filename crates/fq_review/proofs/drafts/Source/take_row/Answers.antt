use Rattle.std.proofs.Common.{◌≡◌, ◌<◌, ◌∙◌, ◌∷◌, [], ℕ, List, Some, arith, get_or, length, refl, slice_get, subst, sym}
use Rattle.std.proofs.lemmas.List.{length-set}
use Rattle.std.proofs.lemmas.Option.{get_or_from_slice_get}
use Rattle.csv.specs.Records.{fields_of}
use Rattle.fq_column.proofs.SchemaLemmas.{slice_get-at}
use Rattle.fq_csv.proofs.ReaderLemmas.{field-gone, field-there}
use Rattle.fq_review.specs.Drafted.{HasCounted}
use Rattle.fq_review.proofs.DraftLemmas.{first-counted, names-kept, others-same, row-left-out, row-taken}
use Rattle.fq_review.proofs.drafts.Source.take_row.Goals as goal

pub unreachable-requires : goal.unreachable-requires
unreachable-requires c =
    let fs = fields_of c.args.row.now in
    let there : c.loop-at.at < length fs = omega (arith, c.len.ensures, c.if-len.false, c.len-2.ensures, c.len-at-end.ensures, c.loop-at-test.true) in
    field-gone fs c.loop-at.at there (sym (rw c.in_default.is at c.get.ensures.value))

pub loop-at-preserved : goal.loop-at-preserved
loop-at-preserved c =
    let nulls = c.args.reading.now.nulls in
    let fs = fields_of c.args.row.now in
    let old = c.args.self.now.columns.items in
    let columns = c.loop-at.self.columns.items in
    let at = c.loop-at.at in
    let column = c.index_mut.result.now in
    let guess = c.add.new.self in
    let kept = c.loop-at.invariant in
    let here : slice_get columns at ≡ Some column =
    slice_get-at columns at column (omega (arith, c.loop-at-test.true, c.len-at-end.ensures, c.args.self.now.columns.ok.0, kept.size)) c.index_mut.ensures.value in
    let field : c.in-Some.field.now ≡ get_or fs at [] = sym (get_or_from_slice_get fs at c.in-Some.field.now [] (sym (c.in-Some.ensures.value ∙ field-there fs at))) in
    let counts = subst (λ x. (fields : List (List ℕ)) → HasCounted nulls column.1 fields → HasCounted nulls guess (x ∷ fields)) field c.in_ok-add.ensures.counted in
    record {
      files = kept.files;
      size = length-set _ _ _ ∙ kept.size;
      names = names-kept columns at column guess here ∙ kept.names;
      first = first-counted nulls fs old columns at column here guess kept.first kept.others (refl, c.in_ok-add.ensures.notation, counts);
      others = others-same nulls fs old columns at column here guess kept.others;
    }

pub returns-clause-taken : goal.returns-clause-taken
returns-clause-taken c rows taken =
    let size = c.args.self.now.columns.ok.0 in
    row-taken c.args.reading.now c.args.self.now c.loop-at.self (fields_of c.args.row.now) rows c.loop-at.at c.loop-at.invariant.size
    (omega (arith, c.len.ensures, c.if-len.false, c.len-2.ensures, size)) (omega (arith, c.len-at-end.ensures, c.loop-at-test.false, size)) c.loop-at.invariant.first taken

pub returns-then-len-clause-taken : goal.returns-then-len-clause-taken
returns-then-len-clause-taken c rows =
    row-left-out c.args.reading.now c.args.self.now (fields_of c.args.row.now) rows (λ same. c.if-len.true (omega (arith, c.len.ensures, c.len-2.ensures, c.args.self.now.columns.ok.0, same)))
