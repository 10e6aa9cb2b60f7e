use Rattle.std.proofs.Common.{◌≡◌, ◌∙◌, ap, arith, map, refl, string_bytes, sym, take_all, true, false}
use Rattle.std.specs.Str.{bytes_eq}
use Rattle.fq_csv.specs.Field.{is_one_of}
use Rattle.fq_csv.proofs.FieldReadingLemmas.{is_one_of-here, is_one_of-more}
use Rattle.fq_csv.proofs.cells.layouts.NullValues.has.Goals as goal

pub loop-text-init : goal.loop-text-init
loop-text-init c = refl

pub returns-then-eq : goal.returns-then-eq
returns-then-eq c =
    let field = c.args.field.now in
    let this : bytes_eq (string_bytes c.text-item.result) field ≡ true = ap (λ b. bytes_eq b field) (sym c.as_bytes.ensures.value) ∙ sym c.eq.ensures ∙ c.if-eq.true in
    sym (is_one_of-here string_bytes field c.deref-text-items.result.now c.loop-text.text-index c.text-item.result c.loop-text-test.true c.text-item.is this)
    ∙ ap (λ texts. is_one_of (map string_bytes texts) field) c.deref-text-items.ensures.value
    ∙ ap (λ texts. is_one_of texts field) c.self.view_is

pub loop-text-preserved : goal.loop-text-preserved
loop-text-preserved c =
    let field = c.args.field.now in
    let this : bytes_eq (string_bytes c.text-item.result) field ≡ false = ap (λ b. bytes_eq b field) (sym c.as_bytes.ensures.value) ∙ sym c.eq.ensures ∙ c.if-eq.false in
    is_one_of-more string_bytes field c.deref-text-items.result.now c.loop-text.text-index c.text-item.result c.loop-text-test.true c.text-item.is c.loop-text.invariant this

pub returns : goal.returns
returns c =
    let field = c.args.field.now in
    let items = c.deref-text-items.result.now in
    sym c.loop-text.invariant
    ∙ ap (λ texts. is_one_of (map string_bytes texts) field) (take_all c.loop-text.text-index items (omega (arith, c.loop-text-test.false)) ∙ c.deref-text-items.ensures.value)
    ∙ ap (λ texts. is_one_of texts field) c.self.view_is
