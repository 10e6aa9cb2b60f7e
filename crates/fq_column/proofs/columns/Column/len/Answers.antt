use Rattle.std.proofs.Common.{refl}
use Rattle.fq_column.specs.declared.cells.Kind.TheVariants as kind
use Rattle.fq_column.specs.declared.cells.Cell.TheVariants as cell
use Rattle.fq_column.specs.Cell.{has_kind}
use Rattle.fq_column.proofs.ColumnLemmas.{AllPass-nullable}
use Rattle.fq_column.proofs.columns.Column.len.Goals as goal

pub returns-in-Whole-clause-kinds : goal.returns-in-Whole-clause-kinds
returns-in-Whole-clause-kinds c = rw (← c.self.view_is, c.in-Whole.is) (AllPass-nullable (has_kind kind.Whole) cell.Whole refl (λ _. refl) c.in-Whole.array)

pub returns-in-Text-clause-kinds : goal.returns-in-Text-clause-kinds
returns-in-Text-clause-kinds c = rw (← c.self.view_is, c.in-Text.is) (AllPass-nullable (has_kind kind.Text) cell.Text refl (λ _. refl) c.in-Text.array)

pub returns-in-Truth-clause-kinds : goal.returns-in-Truth-clause-kinds
returns-in-Truth-clause-kinds c = rw (← c.self.view_is, c.in-Truth.is) (AllPass-nullable (has_kind kind.Truth) cell.Truth refl (λ _. refl) c.in-Truth.array)
