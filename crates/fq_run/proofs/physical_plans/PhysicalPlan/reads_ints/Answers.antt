use Rattle.std.proofs.Common.{◌≡◌, ◌++◌, ◌∷◌, [], Bool, true, false, List, map, ap, sym, refl, ◌∙◌}
use Rattle.std.specs.Prelude.{◌||◌}
use Rattle.std.specs.List.{list_any}
use Rattle.std.proofs.Math.Bool.{or-false}
use Rattle.fq_column.specs.Frame.{Name}
use Rattle.fq_csv.specs.Sources.{source_of_files}
use Rattle.fq_csv.specs.declared.sources.SourceFiles.{SourceFiles}
use Rattle.fq_run.specs.Noted.{has_ints, reads_ints}
use Rattle.fq_run.specs.Physical.{Physical}
use Rattle.fq_run.proofs.physical_plans.PhysicalPlan.reads_ints.Goals as goal

or-assoc : (a b c : Bool) → (a || (b || c)) ≡ ((a || b) || c)
or-assoc true b c = refl
or-assoc false b c = refl

-- whether one of the sources before the last has such a column
abbrev in_sides : Name → List SourceFiles → Bool
in_sides name sides = list_any (λ (s : SourceFiles). has_ints s.layout.schema name) sides

-- the sources before the last, and then the last
one-by-one : (name : Name) (sides : List SourceFiles) (main : SourceFiles) →
    (in_sides name sides || has_ints main.layout.schema name) ≡ reads_ints (map source_of_files (sides ++ main ∷ [])) name
one-by-one name [] main = sym (or-false (has_ints main.layout.schema name))
one-by-one name (s ∷ sides) main =
    sym (or-assoc (has_ints s.layout.schema name) (in_sides name sides) (has_ints main.layout.schema name))
    ∙ ap (λ b. has_ints s.layout.schema name || b) (one-by-one name sides main)

-- a value that is taken from the second where the first is false
taken-first : (a b : Bool) → a ≡ true → true ≡ (a || b)
taken-first a b e = ap (λ x. x || b) (sym e)

taken-second : (a b : Bool) → a ≡ false → b ≡ (a || b)
taken-second a b e = ap (λ x. x || b) (sym e)

pub returns-then-have_ints : goal.returns-then-have_ints
returns-then-have_ints c =
    let name = c.args.name.now in
    let s = c.self.inside in
    let told : c.have_ints.result ≡ in_sides name s.sides.items = c.have_ints.ensures ∙ ap (in_sides name) c.as_slice.ensures.value in
    c.if-have_ints.true ∙ taken-first (in_sides name s.sides.items) (has_ints s.main.layout.schema name) (sym told ∙ c.if-have_ints.true)
    ∙ one-by-one name s.sides.items s.main ∙ ap (λ (p : Physical). reads_ints p.sources name) c.self.view_is

pub returns-else-have_ints : goal.returns-else-have_ints
returns-else-have_ints c =
    let name = c.args.name.now in
    let s = c.self.inside in
    let told : c.have_ints.result ≡ in_sides name s.sides.items = c.have_ints.ensures ∙ ap (in_sides name) c.as_slice.ensures.value in
    c.has_ints.ensures ∙ taken-second (in_sides name s.sides.items) (has_ints s.main.layout.schema name) (sym told ∙ c.if-have_ints.false)
    ∙ one-by-one name s.sides.items s.main ∙ ap (λ (p : Physical). reads_ints p.sources name) c.self.view_is
