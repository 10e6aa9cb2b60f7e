use Rattle.std.proofs.Common.{◌≡◌, not, true, nat_lt, pos, sym, ap, ◌∙◌, arith}
use Rattle.std.proofs.lemmas.Int.{ints}
use Rattle.fq_column.specs.declared.cells.Kind.TheVariants.{Whole}
use Rattle.fq_column.specs.declared.schemas.TheConstants.{MAX_COLUMNS}
use Rattle.fq_column.specs.Cell.{same_kind}
use Rattle.fq_column.proofs.KindLemmas.{same_kind-by_ne}
use Rattle.fq_ops.specs.declared.rolls.TheConstants.{MAX_WINDOW}
use Rattle.fq_ops.specs.Roll.{is_from_to}
use Rattle.fq_ops.proofs.RefusalLemmas.{not-many, over-many, roll-accepted, roll-many}
use Rattle.fq_ops.proofs.output_schemas.check_roll.Goals as goal

pub returns-then-put_len-gt-MAX_COLUMNS-clause-err : goal.returns-then-put_len-gt-MAX_COLUMNS-clause-err
returns-then-put_len-gt-MAX_COLUMNS-clause-err c =
    let kind = c.in_ok-kind_of.field-0 in
    let whole : same_kind kind Whole ≡ true = same_kind-by_ne kind Whole c.ne.result c.ne.ensures ∙ ap not c.if-ne.false in
    let in_window : is_from_to (pos 1) (pos MAX_WINDOW) c.args.window ≡ true = grind (arith, ints) in
    let in_samples : is_from_to (pos 1) c.args.window c.args.min_samples ≡ true = grind (arith, ints) in
    let many = ap (nat_lt MAX_COLUMNS) (sym c.put_len.ensures) ∙ over-many c.put_len.result c.if-put_len-gt-MAX_COLUMNS.true in
    roll-many c.args.schema.now c.args.column.now c.args.name.now kind c.args.window c.args.min_samples (sym c.in_ok-kind_of.ensures) whole in_window in_samples many

pub returns-clause-ok : goal.returns-clause-ok
returns-clause-ok c =
    let kind = c.in_ok-kind_of.field-0 in
    let whole : same_kind kind Whole ≡ true = same_kind-by_ne kind Whole c.ne.result c.ne.ensures ∙ ap not c.if-ne.false in
    let in_window : is_from_to (pos 1) (pos MAX_WINDOW) c.args.window ≡ true = grind (arith, ints) in
    let in_samples : is_from_to (pos 1) c.args.window c.args.min_samples ≡ true = grind (arith, ints) in
    let few = ap (nat_lt MAX_COLUMNS) (sym c.put_len.ensures) ∙ not-many c.put_len.result (omega (arith, c.if-put_len-gt-MAX_COLUMNS.false)) in (
      omega (arith, c.put_len.ensures, c.if-put_len-gt-MAX_COLUMNS.false),
      roll-accepted c.args.schema.now c.args.column.now c.args.name.now kind c.args.window c.args.min_samples (sym c.in_ok-kind_of.ensures) whole in_window in_samples few,
    )
