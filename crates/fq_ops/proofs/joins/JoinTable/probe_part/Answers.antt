use Rattle.std.proofs.Common.{◌≡◌, ◌≤◌, ℕ, List, Ok, map, length, string_bytes, subst, sym, ap, arith, ◌∙◌, inl, inr}
use Rattle.std.specs.Prelude.{IsOk}
use Rattle.std.specs.List.{AllPass}
use Rattle.std.proofs.lemmas.List.{length-map}
use Rattle.fq_column.specs.declared.cells.Cell.{Cell}
use Rattle.fq_column.specs.Frame.{Fields, Frame, Name, has_name, names_of}
use Rattle.fq_column.specs.Refusal.{IsJudgement}
use Rattle.fq_ops.specs.declared.joins.How.{How}
use Rattle.fq_ops.specs.declared.probes.Next.TheVariants as next
use Rattle.fq_ops.specs.declared.probes.Rest.TheVariants as rest
use Rattle.fq_ops.specs.Fields.{AreAt}
use Rattle.fq_ops.specs.Join.{join_schema, joined_fields}
use Rattle.fq_ops.specs.KeySets.{IsWholeAt}
use Rattle.fq_ops.specs.Pairs.{Pair, join_picks, matches_of, named_key, pair_row, pairs_of}
use Rattle.fq_ops.specs.Picks.{columns_of}
use Rattle.fq_ops.specs.Probing.{GivesPart, GoesOn, IsCountOf, IsCursor, IsProbeOf}
use Rattle.fq_ops.specs.Table.{Table}
use Rattle.fq_ops.proofs.KeySetLemmas.{whole-left, whole-places}
use Rattle.fq_ops.proofs.PartLemmas.{end-inside, more-inside, pairs_at, part-end, part-kinds, part-lengths, part-more, part-rows, to-cursor}
use Rattle.fq_ops.proofs.PlaceLemmas.{keys-named}
use Rattle.fq_ops.proofs.RefusalLemmas.{join-known, join-output}
use Rattle.fq_ops.proofs.joins.JoinTable.probe_part.Goals as goal
use Rattle.fq_ops.proofs.joins.JoinTable.probe_part.Goals.{In-Ok, In_ok-pairs, In_ok-columns-in-At-2, In_ok-columns-in-End-2}

-- the schema that a judgement accepts
judged : (how : How) (left right : Fields) (on : List Name) (l r : Fields) (o : List Name) (s : Fields) → l ≡ left → r ≡ right → o ≡ on → IsOk (join_schema how left right on) → IsJudgement (join_schema how l r o) (Ok s) → s ≡ joined_fields how left right on
judged how left right on l r o s e f g ok (inl h) =
    let same : Ok s ≡ join_schema how left right on = h ∙ (λ i. join_schema how (e i) (f i) (g i)) in
    let both : Ok s ≡ Ok (joined_fields how left right on) = same ∙ join-output how left right on ok in
    cc
judged how left right on l r o s e f g ok (inr h) = absurd (cc)

-- ---- what stands once the schema is made, once the pairs are found, and once their columns are

out : (c : In-Ok) → c.in-Ok.schema ≡ joined_fields c.args.probe.how c.args.probe.left.fields c.self.inside.right.fields (map string_bytes c.self.inside.on.items)
out c =
    let is = subst (λ (t : Table). IsProbeOf t c.args.probe) (sym c.self.view_is) c.requires in
    judged c.args.probe.how c.args.probe.left.fields c.self.inside.right.fields (map string_bytes c.self.inside.on.items) c.schema.result.now c.schema-2.result.now (map string_bytes c.as_slice-on.result.now) c.in-Ok.schema
    c.schema.ensures c.schema-2.ensures (ap (map string_bytes) c.as_slice-on.ensures.value) is.0 c.in-Ok.ensures.judged

abbrev table : In_ok-pairs → Table
table c = record { fields = c.self.inside.right.fields; rows = c.self.inside.right.rows; on = map string_bytes c.self.inside.on.items; nulls_equal = c.self.inside.nulls_equal }

is-probe : (c : In_ok-pairs) → IsProbeOf (table c) c.args.probe
is-probe c = subst (λ (t : Table). IsProbeOf t c.args.probe) (sym c.self.view_is) c.requires

goes : (c : In_ok-pairs) → GoesOn (pairs_at (table c) c.args.probe.left c.args.probe.how) (length c.args.probe.left.rows) c.args.probe.from c.in_ok-pairs.pairs c.in_ok-pairs.next
goes c =
    let how = c.args.probe.how in
    let left = c.args.probe.left in
    let t = table c in
    let from = c.args.probe.from in
    let places = c.in_ok-places.places.items in
    let at : AreAt places t.on left.fields = subst (λ fs. AreAt places t.on fs) c.schema-3.ensures (subst (λ ns. AreAt places ns c.schema-3.result.now) (ap (map string_bytes) c.as_slice-on.ensures.value) c.in_ok-places.ensures.at) in
    subst (λ (key : ℕ → List Cell).
    let output : ℕ → List Pair = λ l. pairs_of how l (matches_of t.nulls_equal (named_key t.fields t.on t.rows) (length t.rows) (key l)) in
    IsCursor output (length left.rows) from → GoesOn output (length left.rows) from c.in_ok-pairs.pairs c.in_ok-pairs.next)
    (keys-named left.fields t.on places at left.rows c.as_slice-places.result.now c.as_slice-places.ensures.value)
    (c.in_ok-pairs.ensures.pairs t.nulls_equal (named_key t.fields t.on t.rows) (length t.rows) c.self.invariant.index)
    (to-cursor t left how from (is-probe c))

columns-at : (c : In_ok-columns-in-At-2)
    → c.in_ok-columns-in-At-2.columns.items ≡ columns_of (join_picks c.args.probe.how c.args.probe.left c.self.inside.right (map string_bytes c.self.inside.on.items)) c.in_ok-pairs.pairs
columns-at c =
    c.in_ok-columns-in-At-2.ensures c.args.probe.left c.in_ok-columns-in-At.ensures
    ∙ ap (λ os. columns_of (join_picks c.args.probe.how c.args.probe.left c.self.inside.right os) c.in_ok-pairs.pairs) (ap (map string_bytes) c.as_slice-on.ensures.value)

columns-end : (c : In_ok-columns-in-End-2)
    → c.in_ok-columns-in-End-2.columns.items ≡ columns_of (join_picks c.args.probe.how c.args.probe.left c.self.inside.right (map string_bytes c.self.inside.on.items)) c.in_ok-pairs.pairs
columns-end c =
    c.in_ok-columns-in-End-2.ensures c.args.probe.left c.in_ok-columns-in-End.ensures
    ∙ ap (λ os. columns_of (join_picks c.args.probe.how c.args.probe.left c.self.inside.right os) c.in_ok-pairs.pairs) (ap (map string_bytes) c.as_slice-on.ensures.value)

pub positions-requires : goal.positions-requires
positions-requires c =
    let left = c.args.probe.left in
    let right = c.self.inside.right in
    let on = map string_bytes c.self.inside.on.items in
    let is = subst (λ (t : Table). IsProbeOf t c.args.probe) (sym c.self.view_is) c.requires in
    subst (λ fields. AllPass (has_name (names_of fields)) (map string_bytes c.as_slice-on.result.now)) (sym c.schema-3.ensures)
    (subst (λ names. AllPass (has_name (names_of left.fields)) (map string_bytes names)) (sym c.as_slice-on.ensures.value) (join-known c.args.probe.how left.fields right.fields on is.0))

pub next_pairs-requires-clause-whole : goal.next_pairs-requires-clause-whole
next_pairs-requires-clause-whole c e =
    let left = c.args.probe.left in
    let right = c.self.inside.right in
    let on = map string_bytes c.self.inside.on.items in
    let is = subst (λ (t : Table). IsProbeOf t c.args.probe) (sym c.self.view_is) c.requires in
    let names : map string_bytes c.as_slice-on.result.now ≡ on = ap (map string_bytes) c.as_slice-on.ensures.value in
    let places = c.in_ok-places.places.items in
    let at : AreAt places on left.fields = subst (λ fs. AreAt places on fs) c.schema-3.ensures (subst (λ ns. AreAt places ns c.schema-3.result.now) names c.in_ok-places.ensures.at) in
    subst (IsWholeAt left.fields) (sym c.as_slice-places.ensures.value) (whole-places left.fields on places at (whole-left c.args.probe.how left.fields right.fields on is.0 (c.self.invariant.whole e)))

pub new-requires-clause-kinds : goal.new-requires-clause-kinds
new-requires-clause-kinds c =
    part-kinds c.args.probe.how c.args.probe.left c.self.inside.right (map string_bytes c.self.inside.on.items) c.in_ok-pairs.ensures.frame c.self.invariant.frame c.in-Ok.schema (out (goal.at.new-requires-clause-kinds c).In-Ok) c.in_ok-pairs.pairs
    c.in_ok-columns-in-At-2.columns.items (columns-at (goal.at.new-requires-clause-kinds c).In_ok-columns-in-At-2)

pub new-requires-clause-lengths : goal.new-requires-clause-lengths
new-requires-clause-lengths c =
    part-lengths c.args.probe.how c.args.probe.left c.self.inside.right (map string_bytes c.self.inside.on.items) c.in_ok-pairs.ensures.frame c.self.invariant.frame c.in-Ok.schema (out (goal.at.new-requires-clause-lengths c).In-Ok) c.in_ok-pairs.pairs
    c.in_ok-columns-in-At-2.columns.items (columns-at (goal.at.new-requires-clause-lengths c).In_ok-columns-in-At-2)

pub returns-in-At-clause-fields : goal.returns-in-At-clause-fields
returns-in-At-clause-fields c = ap (λ (f : Frame). f.fields) c.new.ensures ∙ out (goal.at.returns-in-At-clause-fields c).In-Ok ∙ ap (λ (t : Table). joined_fields c.args.probe.how c.args.probe.left.fields t.fields t.on) c.self.view_is

pub returns-in-At-clause-few : goal.returns-in-At-clause-few
returns-in-At-clause-few c =
    let how = c.args.probe.how in
    let left = c.args.probe.left in
    let right = c.self.inside.right in
    let t = table (goal.at.returns-in-At-clause-few c).In_ok-pairs in
    let from = c.args.probe.from in
    let pairs = c.in_ok-pairs.pairs in
    let goes_on : GoesOn (pairs_at t left how) (length left.rows) from pairs (next.At c.in-At.from) = subst (GoesOn (pairs_at t left how) (length left.rows) from pairs) c.in-At.is (goes (goal.at.returns-in-At-clause-few c).In_ok-pairs) in
    let rows : c.new.result.rows ≡ map (pair_row how left.fields right.fields t.on right.rows left.rows) pairs =
    ap (λ (f : Frame). f.rows) c.new.ensures
    ∙ part-rows how left right t.on c.in_ok-pairs.ensures.frame c.self.invariant.frame c.in-Ok.schema (out (goal.at.returns-in-At-clause-few c).In-Ok) pairs c.in_ok-columns-in-At-2.columns.items (columns-at (goal.at.returns-in-At-clause-few c).In_ok-columns-in-At-2)
    (more-inside t left how from c.in-At.from pairs goes_on) in
    let full : length pairs ≡ c.args.most = subst (IsCountOf c.args.most (length pairs)) c.in-At.is c.in_ok-pairs.ensures.few in
    omega (arith, ap length rows, length-map pairs (pair_row how left.fields right.fields t.on right.rows left.rows), full)

pub returns-in-At-clause-rows : goal.returns-in-At-clause-rows
returns-in-At-clause-rows c =
    let how = c.args.probe.how in
    let left = c.args.probe.left in
    let right = c.self.inside.right in
    let t = table (goal.at.returns-in-At-clause-rows c).In_ok-pairs in
    let from = c.args.probe.from in
    let pairs = c.in_ok-pairs.pairs in
    let goes_on : GoesOn (pairs_at t left how) (length left.rows) from pairs (next.At c.in-At.from) = subst (GoesOn (pairs_at t left how) (length left.rows) from pairs) c.in-At.is (goes (goal.at.returns-in-At-clause-rows c).In_ok-pairs) in
    let rows : c.new.result.rows ≡ map (pair_row how left.fields right.fields t.on right.rows left.rows) pairs =
    ap (λ (f : Frame). f.rows) c.new.ensures
    ∙ part-rows how left right t.on c.in_ok-pairs.ensures.frame c.self.invariant.frame c.in-Ok.schema (out (goal.at.returns-in-At-clause-rows c).In-Ok) pairs c.in_ok-columns-in-At-2.columns.items (columns-at (goal.at.returns-in-At-clause-rows c).In_ok-columns-in-At-2)
    (more-inside t left how from c.in-At.from pairs goes_on) in
    subst (λ (t : Table). GivesPart t c.args.probe c.new.result.rows (rest.More (record { left = left; how = how; from = c.in-At.from }))) c.self.view_is
    (part-more t left how from c.in-At.from pairs c.new.result.rows (is-probe (goal.at.returns-in-At-clause-rows c).In_ok-pairs).0 goes_on rows)

pub new-requires-in-End-clause-kinds : goal.new-requires-in-End-clause-kinds
new-requires-in-End-clause-kinds c =
    part-kinds c.args.probe.how c.args.probe.left c.self.inside.right (map string_bytes c.self.inside.on.items) c.in_ok-pairs.ensures.frame c.self.invariant.frame c.in-Ok.schema (out (goal.at.new-requires-in-End-clause-kinds c).In-Ok) c.in_ok-pairs.pairs
    c.in_ok-columns-in-End-2.columns.items (columns-end (goal.at.new-requires-in-End-clause-kinds c).In_ok-columns-in-End-2)

pub new-requires-in-End-clause-lengths : goal.new-requires-in-End-clause-lengths
new-requires-in-End-clause-lengths c =
    part-lengths c.args.probe.how c.args.probe.left c.self.inside.right (map string_bytes c.self.inside.on.items) c.in_ok-pairs.ensures.frame c.self.invariant.frame c.in-Ok.schema (out (goal.at.new-requires-in-End-clause-lengths c).In-Ok) c.in_ok-pairs.pairs
    c.in_ok-columns-in-End-2.columns.items (columns-end (goal.at.new-requires-in-End-clause-lengths c).In_ok-columns-in-End-2)

pub returns-clause-fields : goal.returns-clause-fields
returns-clause-fields c = ap (λ (f : Frame). f.fields) c.new-in-End.ensures ∙ out (goal.at.returns-clause-fields c).In-Ok ∙ ap (λ (t : Table). joined_fields c.args.probe.how c.args.probe.left.fields t.fields t.on) c.self.view_is

pub returns-clause-few : goal.returns-clause-few
returns-clause-few c =
    let how = c.args.probe.how in
    let left = c.args.probe.left in
    let right = c.self.inside.right in
    let t = table (goal.at.returns-clause-few c).In_ok-pairs in
    let from = c.args.probe.from in
    let pairs = c.in_ok-pairs.pairs in
    let goes_on : GoesOn (pairs_at t left how) (length left.rows) from pairs (next.End c.in-End.fault) = subst (GoesOn (pairs_at t left how) (length left.rows) from pairs) c.in-End.is (goes (goal.at.returns-clause-few c).In_ok-pairs) in
    let rows : c.new-in-End.result.rows ≡ map (pair_row how left.fields right.fields t.on right.rows left.rows) pairs =
    ap (λ (f : Frame). f.rows) c.new-in-End.ensures
    ∙ part-rows how left right t.on c.in_ok-pairs.ensures.frame c.self.invariant.frame c.in-Ok.schema (out (goal.at.returns-clause-few c).In-Ok) pairs c.in_ok-columns-in-End-2.columns.items (columns-end (goal.at.returns-clause-few c).In_ok-columns-in-End-2)
    (end-inside t left how from c.in-End.fault pairs goes_on) in
    let few : length pairs ≤ c.args.most = subst (IsCountOf c.args.most (length pairs)) c.in-End.is c.in_ok-pairs.ensures.few in
    omega (arith, ap length rows, length-map pairs (pair_row how left.fields right.fields t.on right.rows left.rows), few)

pub returns-clause-rows : goal.returns-clause-rows
returns-clause-rows c =
    let how = c.args.probe.how in
    let left = c.args.probe.left in
    let right = c.self.inside.right in
    let t = table (goal.at.returns-clause-rows c).In_ok-pairs in
    let from = c.args.probe.from in
    let pairs = c.in_ok-pairs.pairs in
    let goes_on : GoesOn (pairs_at t left how) (length left.rows) from pairs (next.End c.in-End.fault) = subst (GoesOn (pairs_at t left how) (length left.rows) from pairs) c.in-End.is (goes (goal.at.returns-clause-rows c).In_ok-pairs) in
    let rows : c.new-in-End.result.rows ≡ map (pair_row how left.fields right.fields t.on right.rows left.rows) pairs =
    ap (λ (f : Frame). f.rows) c.new-in-End.ensures
    ∙ part-rows how left right t.on c.in_ok-pairs.ensures.frame c.self.invariant.frame c.in-Ok.schema (out (goal.at.returns-clause-rows c).In-Ok) pairs c.in_ok-columns-in-End-2.columns.items (columns-end (goal.at.returns-clause-rows c).In_ok-columns-in-End-2)
    (end-inside t left how from c.in-End.fault pairs goes_on) in
    subst (λ (t : Table). GivesPart t c.args.probe c.new-in-End.result.rows (rest.End c.in-End.fault)) c.self.view_is
    (part-end t left how from c.in-End.fault pairs c.new-in-End.result.rows goes_on rows)
