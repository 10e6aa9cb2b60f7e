use Rattle.std.proofs.Common.{◌≡◌, sym, ap, subst, ◌∙◌, rules}
use Rattle.std.specs.Cmp.{IsTotalOrder}
use Rattle.std.specs.Ordering.{is_eq}
use Rattle.fq_column.specs.contracts.cells.CellOrd.TheImpl.{cmp-value}
use Rattle.fq_column.specs.contracts.cells.CellOrd.TheImpl.Laws.{total-law, matches_eq-law}
use Rattle.fq_column.specs.contracts.cells.CellPartialEq.TheImpl.{eq-value}
use Rattle.fq_column.specs.declared.cells.Cell.{Cell}
use Rattle.fq_column.specs.Cell.{cell_cmp, same_cell}
use Rattle.fq_column.proofs.laws.cell_laws.Goals as goal

derived : (a b : Cell) → eq-value.it a b ≡ same_cell a b
derived a b = search rules

ordered : (a b : Cell) → cmp-value.it a b ≡ cell_cmp a b
ordered a b = search rules

pub returns-clause-total : goal.returns-clause-total
returns-clause-total c = subst (λ order. IsTotalOrder order) (λ i a b. ordered a b i) total-law

pub returns-clause-ties : goal.returns-clause-ties
returns-clause-ties c a b = sym (derived a b) ∙ matches_eq-law a b ∙ ap is_eq (ordered a b)
