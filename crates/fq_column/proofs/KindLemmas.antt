-- The derived equality of kinds is that of the definitions.
use Rattle.std.proofs.Common.{◌≡◌, ◌∙◌, sym, refl, true, false, not, Bool}
use denote.Enum.Bare.{sameb}
use Rattle.fq_column.specs.declared.cells.Kind.{Kind}
use Rattle.fq_column.specs.declared.cells.Kind.TheVariants as kind
use Rattle.fq_column.specs.contracts.cells.Kind.{the_type}
use Rattle.fq_column.specs.Cell.{same_kind}

pub derived : (a b : Kind) → sameb the_type a b ≡ same_kind a b
derived kind.Whole kind.Whole = refl
derived kind.Whole kind.Text = refl
derived kind.Whole kind.Truth = refl
derived kind.Text kind.Whole = refl
derived kind.Text kind.Text = refl
derived kind.Text kind.Truth = refl
derived kind.Truth kind.Whole = refl
derived kind.Truth kind.Text = refl
derived kind.Truth kind.Truth = refl

turned : (b c : Bool) → b ≡ not c → c ≡ not b
turned true true e = cc
turned true false e = refl
turned false true e = refl
turned false false e = cc

-- what `!=` answers of two kinds
pub same_kind-by_ne : (a b : Kind) (r : Bool) → r ≡ not (sameb the_type a b) → same_kind a b ≡ not r
same_kind-by_ne a b r e = sym (derived a b) ∙ turned r (sameb the_type a b) e
