-- The test of two schemas answers true exactly if they are equal.
use Rattle.std.specs.Prelude.{◌≡◌, true, refl}
use Rattle.std.proofs.Common.{ap}
use Rattle.std.specs.Bool.{Decides}
use Rattle.std.proofs.lemmas.Bool.{and_from}
use Rattle.std.proofs.lemmas.Bool.Decides.{Decides-at}
use Rattle.std.specs.Cmp.{IsEquivalence, decided, first_so, second_so}
use Rattle.std.specs.Cmp.Lexicographic.{pointwise_decides, bytes_decides}
use Rattle.fq_column.specs.declared.cells.Kind.{Kind}
use Rattle.fq_column.specs.declared.cells.Kind.TheVariants as kind
use Rattle.fq_column.specs.Cell.{same_kind}
use Rattle.fq_column.specs.Frame.{Field, Fields, same_name}
use Rattle.fq_column.specs.Schema.{same_field, same_fields}

pub same_kind_decides : (a b : Kind) → Decides (same_kind a b) (a ≡ b)
same_kind_decides kind.Whole kind.Whole = (λ _. refl, λ _. refl)
same_kind_decides kind.Whole kind.Text = (λ e. absurd (cc), λ e. absurd (cc))
same_kind_decides kind.Whole kind.Truth = (λ e. absurd (cc), λ e. absurd (cc))
same_kind_decides kind.Text kind.Whole = (λ e. absurd (cc), λ e. absurd (cc))
same_kind_decides kind.Text kind.Text = (λ _. refl, λ _. refl)
same_kind_decides kind.Text kind.Truth = (λ e. absurd (cc), λ e. absurd (cc))
same_kind_decides kind.Truth kind.Whole = (λ e. absurd (cc), λ e. absurd (cc))
same_kind_decides kind.Truth kind.Text = (λ e. absurd (cc), λ e. absurd (cc))
same_kind_decides kind.Truth kind.Truth = (λ _. refl, λ _. refl)

pub same_field_decides : (f g : Field) → Decides (same_field f g) (f ≡ g)
same_field_decides f g = Decides-at (same_field f g) (same_field f g) refl (
  λ e. both (first_so (same_name f.0 g.0) (same_kind f.1 g.1) e) (second_so (same_name f.0 g.0) (same_kind f.1 g.1) e),
  λ e. and_from (same_name f.0 g.0) (same_kind f.1 g.1) ((bytes_decides f.0 g.0).1 (ap (λ (p : Field). p.0) e)) ((same_kind_decides f.1 g.1).1 (ap (λ (p : Field). p.1) e)),
)
  where
    both : same_name f.0 g.0 ≡ true → same_kind f.1 g.1 ≡ true → f ≡ g
    both p q = λ i. ((bytes_decides f.0 g.0).0 p i, (same_kind_decides f.1 g.1).0 q i)

pub same_fields_decides : (fs gs : Fields) → Decides (same_fields fs gs) (fs ≡ gs)
same_fields_decides = pointwise_decides {E = same_field} same_field_decides

pub same_fields_equivalence : IsEquivalence same_fields
same_fields_equivalence = decided same_fields same_fields_decides
