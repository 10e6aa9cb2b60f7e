use Rattle.std.proofs.Common.{◌≡◌, ◌∙◌, Option, Some, None, is_some, true, false, List, ℕ, [], ◌∷◌, refl, sym}
use Rattle.fq_column.specs.declared.cells.Cell.{Cell}
use Rattle.fq_column.specs.declared.cells.Kind.{Kind}
use Rattle.fq_notation.specs.declared.notations.Notation.{Notation}
use Rattle.fq_csv.specs.Field.{cell_of, cell_under, is_null}
use Rattle.fq_csv.proofs.cells.fields.push_field.Goals as goal

the-cell : (o : Option Cell) → is_some o ≡ true → (cell : Cell) × (o ≡ Some cell)
the-cell None e = absurd (cc e)
the-cell (Some cell) e = (cell, refl)

under-some : (nulls : List (List ℕ)) (k : Kind) (n : Notation) (f : List ℕ) → is_null nulls f ≡ false → cell_under nulls k n f ≡ cell_of k n f
under-some nulls k n [] e = absurd (cc e)
under-some nulls k n (b ∷ bs) e = rw e refl

pub returns : goal.returns
returns g c =
    let field = c.args.field.now in
    let cell = the-cell (cell_of c.in-Judged.kind c.in-Judged.notation field) (sym c.is_value.ensures ∙ c.if-not-is_value.false) in
    rw c.in-Judged.is (record { good = (cell.0, under-some c.args.nulls.now c.in-Judged.kind c.in-Judged.notation field (sym c.is_null.ensures ∙ c.if-is_null.false) ∙ cell.1, c.in_ok-push_null-in-Judged.ensures.ok) })
