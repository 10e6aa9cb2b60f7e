use Rattle.std.proofs.Common.{◌≡◌, ◌∙◌, true, map, length, string_bytes, subst, sym}
use Rattle.fq_ops.specs.Fields.{AreAt}
use Rattle.fq_ops.specs.KeySets.{IsWholeAt, IsWholeNamed}
use Rattle.fq_ops.specs.Pairs.{IsIndex}
use Rattle.fq_ops.proofs.KeySetLemmas.{whole-places}
use Rattle.fq_ops.proofs.PlaceLemmas.{keys-named}
use Rattle.fq_ops.proofs.joins.JoinTable.build_from.Goals as goal
use Rattle.fq_ops.proofs.joins.JoinTable.build_from.Goals.{After-as_slice}

-- the places of the keys
placed : (c : After-as_slice) → AreAt c.in_ok-places.places.items (map string_bytes c.args.on.items) c.args.right.fields
placed c =
    let places = c.in_ok-places.places.items in
    subst (λ fs. AreAt places (map string_bytes c.args.on.items) fs) c.schema-schema.ensures
    (subst (λ xs. AreAt places (map string_bytes xs) c.schema-schema.result.now) c.as_slice-names.ensures.value c.in_ok-places.ensures.at)

-- what the keys' form says of their column
formed : (c : After-as_slice) → c.in_ok-seen.seen.is_whole ≡ true → IsWholeNamed c.args.right.fields (map string_bytes c.args.on.items)
formed c e =
    subst (λ fs. IsWholeNamed fs (map string_bytes c.args.on.items)) c.schema-schema.ensures
    (subst (λ xs. IsWholeNamed c.schema-schema.result.now (map string_bytes xs)) c.as_slice-names.ensures.value (c.is_whole_key-is_whole.ensures.0 (sym c.in_ok-seen.ensures.whole ∙ e)))

pub index_rows-requires-clause-whole : goal.index_rows-requires-clause-whole
index_rows-requires-clause-whole c e =
    let d = (goal.at.index_rows-requires-clause-whole c).After-as_slice in
    let right = c.args.right in
    subst (IsWholeAt right.fields) (sym c.as_slice.ensures.value) (whole-places right.fields (map string_bytes c.args.on.items) c.in_ok-places.places.items (placed d) (formed d e))

pub invariant_of-result : goal.invariant_of-result
invariant_of-result c =
    let d = (goal.at.invariant_of-result c).After-as_slice in
    let right = c.args.right in
    let on = map string_bytes c.args.on.items in
    record {
      beside = c.in_ok-index_rows.ensures.beside;
      index = subst (λ key. IsIndex c.args.nulls_equal key (length right.rows) c.index_rows.new.seen.keys c.index_rows.new.groups.items) (keys-named right.fields on c.in_ok-places.places.items (placed d) right.rows c.as_slice.result.now c.as_slice.ensures.value) c.in_ok-index_rows.ensures.index;
      whole = λ e. formed d (sym c.index_rows.ensures.whole ∙ e);
      some = c.requires.some;
      frame = c.in_ok-index_rows.ensures.frame;
    }
