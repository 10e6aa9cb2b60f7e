use Rattle.std.proofs.Common.{◌≡◌, ◌∙◌, ◌&&◌, ap, sym, refl, Bool, List, [], ◌∷◌, length, map, String, Global, string_bytes}
use Rattle.std.proofs.lemmas.List.{length-map}
use Rattle.std.specs.Bool.{IsTrue}
use Rattle.std.specs.Cmp.Lexicographic.{pointwise}
use Rattle.std.specs.String.{string_eq}
use Rattle.fq_column.specs.declared.cells.Kind.{Kind}
use Rattle.fq_column.specs.contracts.cells.KindPartialEq.TheImpl.{eq-value}
use Rattle.fq_column.specs.Cell.{same_kind}
use Rattle.fq_column.specs.Frame.{Fields, same_name}
use Rattle.fq_column.specs.Schema.{same_fields, fields_of}
use Rattle.fq_column.specs.SchemaLaws.{same_fields_decides}
use Rattle.fq_column.proofs.KindLemmas.{derived}
use Rattle.fq_column.proofs.SchemaLemmas.{same_fields-fields_of}
use Rattle.fq_column.proofs.schemas.SchemaPartialEq.eq.Goals as goal

kinds : (ks ls : List Kind) → pointwise eq-value.it ks ls ≡ pointwise same_kind ks ls
kinds [] [] = refl
kinds [] (l ∷ ls) = refl
kinds (k ∷ ks) [] = refl
kinds (k ∷ ks) (l ∷ ls) = λ i. derived k l i && kinds ks ls i

names : (ns ms : List (String Global)) → pointwise string_eq ns ms ≡ pointwise same_name (map string_bytes ns) (map string_bytes ms)
names [] [] = refl
names [] (m ∷ ms) = refl
names (n ∷ ns) [] = refl
names (n ∷ ns) (m ∷ ms) = ap (λ b. same_name (string_bytes n) (string_bytes m) && b) (names ns ms)

-- the two tests of the code are that of the definitions
tests : (ns ms : List (String Global)) (ks ls : List Kind) → length ns ≡ length ks → length ms ≡ length ls →
    (pointwise string_eq ns ms && pointwise eq-value.it ks ls) ≡ same_fields (fields_of (map string_bytes ns) ks) (fields_of (map string_bytes ms) ls)
tests ns ms ks ls e f = (λ i. names ns ms i && kinds ks ls i)
    ∙ sym (same_fields-fields_of (map string_bytes ns) (map string_bytes ms) ks ls (length-map ns string_bytes ∙ e) (length-map ms string_bytes ∙ f))

-- a test that is that of the definitions decides whether the two are equal
deciding : (b : Bool) (fs gs : Fields) → b ≡ same_fields fs gs → (IsTrue b → fs ≡ gs) × (fs ≡ gs → IsTrue b)
deciding b fs gs e = rw e (same_fields_decides fs gs)

pub returns-then-eq-clause-value : goal.returns-then-eq-clause-value
returns-then-eq-clause-value c =
    rw (← c.self.view_is, ← c.other.view_is)
    (c.eq-then-eq.ensures ∙ ap (λ b. b && pointwise eq-value.it c.self.inside.kinds.items c.other.inside.kinds.items) (sym c.if-eq.true ∙ c.eq.ensures)
    ∙ tests c.self.inside.names.items c.other.inside.names.items c.self.inside.kinds.items c.other.inside.kinds.items c.self.invariant.0 c.other.invariant.0)

pub returns-then-eq-clause-decides : goal.returns-then-eq-clause-decides
returns-then-eq-clause-decides c = deciding c.eq-then-eq.result c.args.self.now c.args.other.now (returns-then-eq-clause-value c)

pub returns-else-eq-clause-value : goal.returns-else-eq-clause-value
returns-else-eq-clause-value c =
    rw (← c.self.view_is, ← c.other.view_is)
    (c.if-eq.false ∙ ap (λ b. b && pointwise eq-value.it c.self.inside.kinds.items c.other.inside.kinds.items) (sym c.if-eq.false ∙ c.eq.ensures)
    ∙ tests c.self.inside.names.items c.other.inside.names.items c.self.inside.kinds.items c.other.inside.kinds.items c.self.invariant.0 c.other.invariant.0)

pub returns-else-eq-clause-decides : goal.returns-else-eq-clause-decides
returns-else-eq-clause-decides c = deciding c.eq.result c.args.self.now c.args.other.now (returns-else-eq-clause-value c)
