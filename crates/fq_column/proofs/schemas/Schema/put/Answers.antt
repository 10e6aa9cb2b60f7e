use Rattle.std.proofs.Common.{◌≡◌, ◌+◌, ◌<◌, ◌∙◌, ◌++◌, ◌∷◌, [], Some, None, ap, sym, map, length, set, arith, string_bytes, subst}
use Rattle.std.proofs.lemmas.List.{length-append, length-map, length-set, map-append}
use Rattle.std.proofs.lemmas.List.Quantifiers.{position-Some}
use Rattle.fq_column.specs.Frame.{Fields, IsSchema, names_of, same_name, position_of, put_named}
use Rattle.fq_column.specs.Schema.{fields_of}
use Rattle.fq_column.proofs.SchemaLemmas.{names_of-fields_of}
use Rattle.fq_column.proofs.PutLemmas.{IsSchema-put_named, zip-set, zip-push, put_named-new}
use Rattle.fq_column.proofs.schemas.Schema.put.Goals as goal
use Rattle.fq_column.proofs.schemas.Schema.put.Goals.{In-Some, In-None}

same_length : (c : In-Some) → length (map string_bytes c.self.inside.names.items) ≡ length c.self.inside.kinds.items
same_length c = length-map c.self.inside.names.items string_bytes ∙ c.self.invariant.0

at_place : (c : In-Some) → position_of c.args.name.now (map string_bytes c.self.inside.names.items) ≡ Some c.in-Some.i
at_place c = sym (c.in-Some.ensures
    ∙ ap (λ (f : Fields). position_of c.args.name.now (names_of f)) (sym c.self.view_is)
    ∙ ap (position_of c.args.name.now) (names_of-fields_of (map string_bytes c.self.inside.names.items) c.self.inside.kinds.items (same_length c)))

below : (c : In-Some) → c.in-Some.i < length c.self.inside.kinds.items
below c = omega (arith, same_length c, (position-Some (same_name c.args.name.now) (map string_bytes c.self.inside.names.items) c.in-Some.i [] (at_place c)).0)

replaced : (c : In-Some) → put_named c.args.self.now (c.args.name.now, c.args.kind) ≡ fields_of (map string_bytes c.self.inside.names.items) (set c.self.inside.kinds.items c.in-Some.i c.args.kind)
replaced c = ap (λ (f : Fields). put_named f (c.args.name.now, c.args.kind)) (sym c.self.view_is)
    ∙ zip-set (map string_bytes c.self.inside.names.items) c.self.inside.kinds.items c.in-Some.i c.args.name.now c.args.kind (same_length c) (at_place c)

pub index_mut-requires : goal.index_mut-requires
index_mut-requires c = omega (arith, below (goal.at.index_mut-requires c).In-Some)

schema_after : (c : In-Some) → IsSchema (put_named c.args.self.now (c.args.name.now, c.args.kind))
schema_after c = IsSchema-put_named c.args.self.now (c.args.name.now, c.args.kind) (let P : Fields → Type 0 = λ f. IsSchema f in subst P c.self.view_is c.self.invariant.1) c.requires

pub invariant_of-self : goal.invariant_of-self
invariant_of-self c = let d = (goal.at.invariant_of-self c).In-Some in
    (c.self.invariant.0 ∙ sym (length-set c.self.inside.kinds.items c.in-Some.i c.args.kind), (let P : Fields → Type 0 = λ f. IsSchema f in subst P (replaced d) (schema_after d)))

same_length' : (c : In-None) → length (map string_bytes c.self.inside.names.items) ≡ length c.self.inside.kinds.items
same_length' c = length-map c.self.inside.names.items string_bytes ∙ c.self.invariant.0

no_place : (c : In-None) → position_of c.args.name.now (names_of c.args.self.now) ≡ None
no_place c = sym c.in-None.ensures

appended : (c : In-None) → put_named c.args.self.now (c.args.name.now, c.args.kind)
    ≡ fields_of (map string_bytes c.self.inside.names.items ++ c.args.name.now ∷ []) (c.self.inside.kinds.items ++ c.args.kind ∷ [])
appended c = put_named-new c.args.self.now c.args.name.now c.args.kind (no_place c)
    ∙ ap (λ (f : Fields). f ++ (c.args.name.now, c.args.kind) ∷ []) (sym c.self.view_is)
    ∙ sym (zip-push (map string_bytes c.self.inside.names.items) c.self.inside.kinds.items c.args.name.now c.args.kind (same_length' c))

pub invariant_of-self-in-Continue-branch-2 : goal.invariant_of-self-in-Continue-branch-2
invariant_of-self-in-Continue-branch-2 c = let d = (goal.at.invariant_of-self-in-Continue-branch-2 c).In-None in
    rw (c.in_ok-push_both-in-None.ensures.ok.0, c.in_ok-push_both-in-None.ensures.ok.1) (
      length-append c.self.inside.names.items (c.in_ok-name-in-None.name ∷ []) ∙ ap (λ n. n + 1) c.self.invariant.0 ∙ sym (length-append c.self.inside.kinds.items (c.args.kind ∷ [])),
      rw (map-append, c.in_ok-name-in-None.ensures.ok) (let P : Fields → Type 0 = λ f. IsSchema f in
          subst P (appended d) (IsSchema-put_named c.args.self.now (c.args.name.now, c.args.kind) (let Q : Fields → Type 0 = λ f. IsSchema f in subst Q c.self.view_is c.self.invariant.1) c.requires)),
    )

pub returns-in-Some-clause-ok : goal.returns-in-Some-clause-ok
returns-in-Some-clause-ok c = sym (replaced (goal.at.returns-in-Some-clause-ok c).In-Some)

pub returns-in_ok-push_both-in-None-clause-ok : goal.returns-in_ok-push_both-in-None-clause-ok
returns-in_ok-push_both-in-None-clause-ok c = let d = (goal.at.returns-in_ok-push_both-in-None-clause-ok c).In-None in
    rw (c.in_ok-push_both-in-None.ensures.ok.0, c.in_ok-push_both-in-None.ensures.ok.1, map-append, c.in_ok-name-in-None.ensures.ok) (sym (appended d))
