use Rattle.std.specs.List.{list_all}
use Rattle.std.specs.Prelude.{slice_get, slice_index_or}
use Rattle.std.proofs.Common.{◌≡◌, ◌<◌, ◌∙◌, ◌&&◌, ◌∷◌, Bool, List, [], ℕ, Some, ap, arith, false, get_or, length, refl, suc, sym, true, zero}
use Rattle.csv.specs.Records.{fields_of}
use Rattle.std.proofs.lemmas.List.{length-map}
use Rattle.fq_column.specs.Column.{Cells}
use Rattle.fq_column.specs.Masked.{masked_cell}
use Rattle.fq_csv.specs.Readings.{cell_read, is_kept_by, is_plain, kind_by}
use Rattle.fq_csv.specs.Rows.{with_cell}
use Rattle.fq_csv.specs.declared.cells.readings.Reading.{Reading}
use Rattle.fq_csv.proofs.HeldRowLemmas.{Added-bad, Added-done, Added-kind, Added-more}
use Rattle.fq_csv.proofs.ReaderLemmas.{ascii-fields, field-gone, field-text, field-there}
use Rattle.fq_csv.proofs.cells.rows.push_record.Goals.{then-has_texts, else-has_texts}
use Rattle.fq_csv.proofs.cells.rows.push_record.Goals as goal

both : (a b : Bool) → a && b ≡ true → (a ≡ true) × (b ≡ true)
both true true e = (refl, refl)
both true false e = absurd (cc e)
both false b e = absurd (cc e)

plain-at : (rs : List Reading) (i : ℕ) (r : Reading) → list_all is_plain rs ≡ true → i < length rs → r ≡ slice_index_or rs i r → is_plain r ≡ true
plain-at [] i r e l s = absurd (omega (arith, l))
plain-at (x ∷ rs) zero r e l s = ap is_plain s ∙ (both (is_plain x) (list_all is_plain rs) e).0
plain-at (x ∷ rs) (suc i) r e l s = plain-at rs i r (both (is_plain x) (list_all is_plain rs) e).1 (omega (arith, l)) s

pub unreachable-requires : goal.unreachable-requires
unreachable-requires g c =
    let fs = fields_of c.args.row.now in
    let there : c.loop-i.i < length fs = omega (arith, c.len.ensures, c.if-len-columns.false, c.loop-i-test.true) in
    field-gone fs c.loop-i.i there (sym (rw c.in_default.is at c.get.ensures.value))

pub push_field-requires-clause-text : goal.push_field-requires-clause-text
push_field-requires-clause-text g c = λ e.
    elim c.if-has_texts.branch [
      | then-has_texts w ↦
          let ascii = rw (sym w.is_ascii-is ∙ e) at w.is_ascii-is_ascii.ensures.cases in
          field-text (fields_of c.args.row.now) c.loop-i.i (ascii-fields 0 c.args.row.now.ends c.args.row.now.bytes (rw w.as_slice.ensures at ascii)) (sym c.in-Some.ensures.value)
      | else-has_texts w ↦ cc (sym w.is_ascii-is ∙ e)
    ]

pub push_field-requires-clause-kind : goal.push_field-requires-clause-kind
push_field-requires-clause-kind g c =
    let fs = fields_of c.args.row.now in
    let i = c.loop-i.i in
    let read = c.index-readings-i.is ∙ c.requires.readings.each i (omega (arith, c.loop-i-test.true, c.requires.readings.count, length-map c.args.columns.now (λ (d : Cells). d.kind))) c.index-readings-i.result in
    Added-kind c.args.layout.now c.args.columns.now fs i c.loop-i.columns c.loop-i.invariant c.index-columns-i.result c.loop-i-test.true ∙ ap kind_by (sym read)

pub push_field-requires-clause-plain : goal.push_field-requires-clause-plain
push_field-requires-clause-plain g c = λ e.
    plain-at c.args.readings.now c.loop-i.i c.index-readings-i.result (c.requires.plain e) (omega (arith, c.loop-i-test.true, c.requires.readings.count, length-map c.args.columns.now (λ (d : Cells). d.kind))) c.index-readings-i.is

pub returns-then-not-branch-clause-none : goal.returns-then-not-branch-clause-none
returns-then-not-branch-clause-none g c =
    let fs = fields_of c.args.row.now in
    let i = c.loop-i.i in
    let layout = c.args.layout.now in
    let same : length fs ≡ length c.args.columns.now = omega (arith, c.len.ensures, c.if-len-columns.false) in
    let here : Some c.in-Some.field.now ≡ slice_get fs i = c.in-Some.ensures.value ∙ field-there fs i in
    let e = rw c.if-not-branch.true at c.in_ok-push_field.ensures.good in
    let read = c.index-readings-i.is ∙ c.requires.readings.each i (omega (arith, c.loop-i-test.true, c.requires.readings.count, length-map c.args.columns.now (λ (d : Cells). d.kind))) c.index-readings-i.result in
    let none = ap (λ (r : Reading). cell_read layout.nulls r c.in-Some.field.now) (sym read) ∙ e.0 in
    let bad = Added-bad layout c.args.columns.now fs i c.loop-i.columns c.loop-i.invariant c.args.height c.index-columns-i.result c.push_field.new.column c.in-Some.field.now
    c.loop-i-test.true here none e.1 c.requires.height in
    ((same, bad.0, c.loop-i-test.true), c.cut_columns.ensures ∙ bad.1)

pub loop-i-preserved : goal.loop-i-preserved
loop-i-preserved g c =
    let fs = fields_of c.args.row.now in
    let i = c.loop-i.i in
    let layout = c.args.layout.now in
    let column = get_or c.loop-i.columns i c.index-columns-i.result in
    let here : Some c.in-Some.field.now ≡ slice_get fs i = c.in-Some.ensures.value ∙ field-there fs i in
    let e = rw c.if-not-branch.false at c.in_ok-push_field.ensures.good in
    let read = c.index-readings-i.is ∙ c.requires.readings.each i (omega (arith, c.loop-i-test.true, c.requires.readings.count, length-map c.args.columns.now (λ (d : Cells). d.kind))) c.index-readings-i.result in
    let cell = ap (λ (r : Reading). cell_read layout.nulls r c.in-Some.field.now) (sym read) ∙ e.1 in
    Added-more layout c.args.columns.now fs i c.loop-i.columns c.loop-i.invariant c.index-columns-i.result c.push_field.new.column c.in-Some.field.now e.0
    c.loop-i-test.true here cell (e.2 ∙ ap (λ (r : Reading). with_cell column (masked_cell (is_kept_by r) e.0)) read)

pub returns-clause-row : goal.returns-clause-row
returns-clause-row g c =
    let fs = fields_of c.args.row.now in
    let same : length fs ≡ length c.args.columns.now = omega (arith, c.len.ensures, c.if-len-columns.false) in
    let done = Added-done c.args.layout.now c.args.columns.now fs c.loop-i.i c.loop-i.columns c.loop-i.invariant c.loop-i-test.false c.loop-i.auto.i-end in
    (done.0, same, done.1, done.2, done.3)
