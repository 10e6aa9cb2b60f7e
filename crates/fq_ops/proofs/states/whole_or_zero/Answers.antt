use Rattle.std.proofs.Common.{ap, sym, ◌∙◌, refl}
use Rattle.fq_column.specs.declared.cells.Cell.TheVariants.{Text, Truth}
use Rattle.fq_column.specs.Column.{Cells, cells_of}
use Rattle.fq_column.specs.Frame.{value_at}
use Rattle.fq_ops.specs.Running.{addend}
use Rattle.fq_ops.proofs.RunningLemmas.{addend-other}
use Rattle.fq_ops.proofs.states.whole_or_zero.Goals as goal

pub returns-in-Text : goal.returns-in-Text
returns-in-Text c =
    sym (ap (λ (x : Cells). addend (value_at c.args.row x.cells)) (sym c.values.ensures ∙ ap cells_of c.in-Text.is)
    ∙ addend-other Text (λ t. refl) _ c.args.row)

pub returns-in-Truth : goal.returns-in-Truth
returns-in-Truth c =
    sym (ap (λ (x : Cells). addend (value_at c.args.row x.cells)) (sym c.values.ensures ∙ ap cells_of c.in-Truth.is)
    ∙ addend-other Truth (λ t. refl) _ c.args.row)
