use Rattle.std.proofs.Common.{◌≡◌, ℕ, ◌<◌, ◌≤◌, get_or, false, String, Global, List, map, length, nat_lt, string_bytes, sym, ap, Some, None, ◌∙◌, arith, take}
use Rattle.std.specs.Prelude.{slice_get}
use Rattle.std.specs.Bool.{◌==◌}
use Rattle.std.proofs.lemmas.List.{length-map, get_or-map}
use Rattle.std.proofs.Math.Seq.{take_all}
use Rattle.std.specs.List.{flat_map}
use Rattle.std.proofs.lemmas.Result.{err_from_is_err_and}
use Rattle.std.proofs.lemmas.Bool.{not-false, not-true}
use Rattle.fq_column.specs.Frame.{Fields, same_name}
use Rattle.fq_column.specs.Lists.{is_distinct}
use Rattle.fq_column.specs.declared.schemas.TheConstants.{MAX_COLUMNS}
use Rattle.fq_column.specs.Refusal.{first_refusal}
use Rattle.fq_column.proofs.SchemaLemmas.{slice_get-at}
use Rattle.fq_ops.specs.Join.{key_checks}
use Rattle.fq_ops.proofs.RefusalLemmas.{item-refused, item-passed, join-key_refused, join-many, join-passed, join-twice, not-many, over-many}
use Rattle.fq_ops.proofs.output_schemas.check_join.Goals as goal

some : (on : List (String Global)) → (length on == 0) ≡ false → (length (map string_bytes on) == 0) ≡ false
some on e = ap (λ n. n == 0) (length-map on string_bytes) ∙ e

-- all keys were passed
all-passed : (left right : Fields) (on : List (String Global)) (i : ℕ) → length on ≤ i → first_refusal (flat_map (key_checks left right) (take i (map string_bytes on))) ≡ None →
    first_refusal (flat_map (key_checks left right) (map string_bytes on)) ≡ None
all-passed left right on i end none =
    let low = length-map on string_bytes in
    ap (λ xs. first_refusal (flat_map (key_checks left right) xs)) (sym (take_all i (map string_bytes on) (omega (arith, low, end)))) ∙ none

-- the key at a place
key-at : (on : List (String Global)) (i : ℕ) (name : String Global) → i < length on → name ≡ get_or on i name → slice_get (map string_bytes on) i ≡ Some (string_bytes name)
key-at on i name low is =
    slice_get-at (map string_bytes on) i (string_bytes name) (omega (arith, length-map on string_bytes, low)) (ap string_bytes is ∙ sym (get_or-map string_bytes on i name (string_bytes name) low))

pub returns-in_err-check_key-clause-err : goal.returns-in_err-check_key-clause-err
returns-in_err-check_key-clause-err c =
    let left = c.args.left.now in
    let right = c.args.right.now in
    let on = map string_bytes c.args.on.now in
    let i = c.loop-name.name-index in
    let name = c.name-item.result in
    let exit = err_from_is_err_and c.from_residual.result c.from_residual.ensures.1 in
    rw exit.1 (join-key_refused c.args.how left right on (some c.args.on.now (sym c.is_empty.ensures ∙ c.if-is_empty.false)) exit.0
    (item-refused (key_checks left right) on i (string_bytes name) exit.0 (key-at c.args.on.now i name (omega arith) c.name-item.is) c.loop-name.invariant
    (ap (λ n. first_refusal (key_checks left right n)) (sym c.as_str.ensures.value) ∙ c.in_err-check_key.ensures.err ∙ ap Some (sym exit.2))))

pub loop-name-preserved : goal.loop-name-preserved
loop-name-preserved c =
    let left = c.args.left.now in
    let right = c.args.right.now in
    let on = map string_bytes c.args.on.now in
    let i = c.loop-name.name-index in
    let name = c.name-item.result in
    item-passed (key_checks left right) on i (string_bytes name) (key-at c.args.on.now i name (omega arith) c.name-item.is) c.loop-name.invariant
    (ap (λ n. first_refusal (key_checks left right n)) (sym c.as_str.ensures.value) ∙ c.in_ok-check_key.ensures.ok)

pub returns-then-joined_len-gt-MAX_COLUMNS-clause-err : goal.returns-then-joined_len-gt-MAX_COLUMNS-clause-err
returns-then-joined_len-gt-MAX_COLUMNS-clause-err c =
    let left = c.args.left.now in
    let right = c.args.right.now in
    let passed = all-passed left right c.args.on.now c.loop-name.name-index (omega arith) c.loop-name.invariant in
    let nonempty = some c.args.on.now (sym c.is_empty.ensures ∙ c.if-is_empty.false) in
    let many = ap (nat_lt MAX_COLUMNS) (sym c.joined_len.ensures) ∙ over-many c.joined_len.result c.if-joined_len-gt-MAX_COLUMNS.true in
    join-many c.args.how left right (map string_bytes c.args.on.now) nonempty passed many

pub returns-then-has_double-clause-err : goal.returns-then-has_double-clause-err
returns-then-has_double-clause-err c =
    let left = c.args.left.now in
    let right = c.args.right.now in
    let on = map string_bytes c.args.on.now in
    let passed = all-passed left right c.args.on.now c.loop-name.name-index (omega arith) c.loop-name.invariant in
    let nonempty = some c.args.on.now (sym c.is_empty.ensures ∙ c.if-is_empty.false) in
    let few = ap (nat_lt MAX_COLUMNS) (sym c.joined_len.ensures) ∙ not-many c.joined_len.result (omega (arith, c.if-joined_len-gt-MAX_COLUMNS.false)) in
    join-twice c.args.how left right on nonempty passed few (not-true (is_distinct same_name on) (sym c.has_double.ensures ∙ c.if-has_double.true))

pub returns-clause-ok : goal.returns-clause-ok
returns-clause-ok c =
    let left = c.args.left.now in
    let right = c.args.right.now in
    let on = map string_bytes c.args.on.now in
    let passed = all-passed left right c.args.on.now c.loop-name.name-index (omega arith) c.loop-name.invariant in
    let nonempty = some c.args.on.now (sym c.is_empty.ensures ∙ c.if-is_empty.false) in
    let few = ap (nat_lt MAX_COLUMNS) (sym c.joined_len.ensures) ∙ not-many c.joined_len.result (omega (arith, c.if-joined_len-gt-MAX_COLUMNS.false)) in
    let once = not-false (is_distinct same_name on) (sym c.has_double.ensures ∙ c.if-has_double.false) in
    (omega (arith, c.joined_len.ensures, c.if-joined_len-gt-MAX_COLUMNS.false), once, join-passed c.args.how left right on nonempty passed few once)
