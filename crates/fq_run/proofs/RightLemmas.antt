-- The right rows of stages, as the sources that they join are taken.
use Rattle.std.proofs.Common.{◌≡◌, ◌||◌, ℕ, ◌+◌, List, [], ◌∷◌, Bool, true, false, drop, set, refl, sym, ap, ◌∙◌}
use Rattle.std.specs.List.{list_any}
use Rattle.std.proofs.lemmas.Bool.{eqb-false}
use Rattle.fq_column.specs.Frame.{Frame}
use Rattle.fq_lanes.proofs.BesideLemmas.{get_set_other}
use Rattle.fq_run.specs.Starting.{joins_source, right_of, rights_of}
use Rattle.fq_run.specs.declared.operators.Operator.{Operator}
use Rattle.fq_run.specs.declared.operators.Operator.TheVariants.{Rows, Join, GroupBy, RollingSum}
use Rattle.fq_run.specs.declared.stages.Stage.{Stage}

or-parts : (a b : Bool) → (a || b) ≡ false → (a ≡ false) × (b ≡ false)
or-parts false b h = (refl, h)
or-parts true b h = let bad : ⊥ = cc in absurd bad

-- another source was taken
right-apart : (sides : List Frame) (source : ℕ) (x : Frame) (operator : Operator) → joins_source source operator ≡ false → right_of (set sides source x) operator ≡ right_of sides operator
right-apart sides source x (Rows front) h = refl
right-apart sides source x (Join j) h = get_set_other sides source j.source x (eqb-false j.source source h)
right-apart sides source x (GroupBy g) h = refl
right-apart sides source x (RollingSum r) h = refl

pub rights-apart : (sides : List Frame) (source : ℕ) (x : Frame) (later : List Stage) → list_any (λ (s : Stage). joins_source source s.operator) later ≡ false
    → rights_of (set sides source x) later ≡ rights_of sides later
rights-apart sides source x [] h = refl
rights-apart sides source x (s ∷ later) h =
    let parts = or-parts (joins_source source s.operator) (list_any (λ (t : Stage). joins_source source t.operator) later) h in
    let one = right-apart sides source x s.operator parts.0 in
    let more = rights-apart sides source x later parts.1 in
    λ i. one i ∷ more i

-- a stage, and those after it
pub rights-next : (now first : List Frame) (stages : List Stage) (i : ℕ) (s : Stage) → drop i stages ≡ s ∷ drop (i + 1) stages → rights_of now (drop i stages) ≡ rights_of first (drop i stages)
    → (right_of now s.operator ≡ right_of first s.operator) × (rights_of now (drop (i + 1) stages) ≡ rights_of first (drop (i + 1) stages))
rights-next now first stages i s next same =
    let both : (right_of now s.operator ∷ rights_of now (drop (i + 1) stages)) ≡ (right_of first s.operator ∷ rights_of first (drop (i + 1) stages)) =
    ap (rights_of now) (sym next) ∙ same ∙ ap (rights_of first) next in
    (cc, cc)
