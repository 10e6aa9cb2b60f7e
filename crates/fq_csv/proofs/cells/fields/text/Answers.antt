use Rattle.std.proofs.Common.{◌∙◌, Some, None, ap, cond, sym}
use Rattle.std.proofs.lemmas.Str.{is_utf8-from_IsUtf8}
use Rattle.fq_csv.proofs.cells.fields.text.Goals as goal

pub returns-then-is_known : goal.returns-then-is_known
returns-then-is_known c =
    let field = c.args.field.now in
    ap Some c.from_utf8_unchecked.ensures ∙ sym (ap (λ b. cond b (Some field) None) (is_utf8-from_IsUtf8 field (c.requires c.if-is_known.true)))
