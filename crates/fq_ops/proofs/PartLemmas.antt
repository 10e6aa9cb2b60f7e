-- The rows of a part of a join.
use Rattle.std.proofs.Common.{◌≡◌, ◌++◌, ◌∙◌, inl, inr, ℕ, List, [], Option, IsOk, length, map, ap, sym, subst, refl, append-nil, arith}
use Rattle.std.proofs.lemmas.List.{length-map, map-append}
use Rattle.fq_column.specs.Batch.{frame_of, kind_of_cells}
use Rattle.fq_column.specs.Column.{Cells}
use Rattle.fq_column.specs.Frame.{Fields, Frame, IsFrame, Name, Row, kinds_of}
use Rattle.fq_column.specs.Stream.{Stream}
use Rattle.fq_ops.specs.Join.{join_schema, joined_fields}
use Rattle.fq_ops.specs.Pairs.{Pair, join_picks, matches_of, named_key, pair_row, pairs_of}
use Rattle.fq_ops.specs.Picks.{columns_of, row_of}
use Rattle.fq_ops.specs.Probing.{GivesPart, GoesOn, IsCursor, IsProbeOf, output_at, pairs_from, rows_left}
use Rattle.fq_ops.specs.Table.{Table}
use Rattle.fq_ops.specs.declared.joins.How.{How}
use Rattle.fq_ops.specs.declared.probes.Cursor.{Cursor}
use Rattle.fq_ops.specs.declared.probes.Next.TheVariants as next
use Rattle.fq_ops.specs.declared.probes.Probe.{Probe}
use Rattle.fq_ops.specs.declared.probes.Rest.TheVariants as rest
use Rattle.fq_ops.proofs.JoinLemmas.{left-by_place, output-by_place}
use Rattle.fq_ops.proofs.PickLemmas.{OneLength, frame-picked, kinds-of-picks, lengths-picked}
use Rattle.fq_ops.proofs.ProbeLemmas.{AllIn, ArePlaces, join-kinds, map-in, pair-row, part-inside, picks-some}

-- ---- the columns that were gathered

module _ (how : How) (left right : Frame) (on : List Name) (l : IsFrame left) (r : IsFrame right) (s : Fields) (out : s ≡ joined_fields how left.fields right.fields on)
    (ps : List Pair) (columns : List Cells) (are : columns ≡ columns_of (join_picks how left right on) ps) where
  pub part-kinds : map kind_of_cells columns ≡ kinds_of s
  part-kinds = ap (map kind_of_cells) are ∙ kinds-of-picks ps (join_picks how left right on) ∙ sym (ap kinds_of out ∙ join-kinds how left right on)

  pub part-lengths : OneLength columns
  part-lengths = subst OneLength (sym are) (lengths-picked ps (join_picks how left right on) (picks-some how left right on l r))

  pub part-rows : AllIn (ArePlaces (length left.rows) (length right.rows)) ps → (frame_of s columns).rows ≡ map (pair_row how left.fields right.fields on right.rows left.rows) ps
  part-rows inside =
      ap (λ cs. (frame_of s cs).rows) are
      ∙ frame-picked ps s (join_picks how left right on) (picks-some how left right on l r)
      ∙ map-in (ArePlaces (length left.rows) (length right.rows)) (row_of (join_picks how left right on)) (pair_row how left.fields right.fields on right.rows left.rows) (pair-row how left right on l r) ps inside

-- ---- a left batch on its way through a table

module _ (t : Table) (left : Frame) (how : How) where
  abbrev pub probe_at : Cursor → Probe
  probe_at c = record { left = left; how = how; from = c }

  -- the pairs of a left place
  abbrev pub pairs_at : ℕ → List Pair
  pairs_at l = pairs_of how l (matches_of t.nulls_equal (named_key t.fields t.on t.rows) (length t.rows) (named_key left.fields t.on left.rows l))

  abbrev row_at : Pair → Row
  row_at p = pair_row how left.fields t.fields t.on t.rows left.rows p

  as-many : (c : Cursor) (l : ℕ) → length (output_at t (probe_at c) l) ≡ length (pairs_at l)
  as-many c l = ap length (output-by_place left.fields t.fields t.on t.rows left.rows how t.nulls_equal l) ∙ length-map (pairs_at l) row_at

  pub to-cursor : (c : Cursor) → IsProbeOf t (probe_at c) → IsCursor pairs_at (length left.rows) c
  to-cursor c is = elim is.1 [
    | inl none ↦ inl none
    | inr (low, few, room) ↦ inr (low, omega (arith, few, as-many c c.row), omega (arith, room, as-many c c.row))
  ]

  pub to-probe : (c : Cursor) → IsOk (join_schema how left.fields t.fields t.on) → IsCursor pairs_at (length left.rows) c → IsProbeOf t (probe_at c)
  to-probe c ok is = (
    ok,
    elim is [
      | inl none ↦ inl none
      | inr (low, few, room) ↦ inr (low, omega (arith, few, as-many c c.row), omega (arith, room, as-many c c.row))
    ],
  )

  left-rows : (c : Cursor) → (rows_left t (probe_at c)).rows ≡ map row_at (pairs_from pairs_at (length left.rows) c).0
  left-rows c = (left-by_place how t.nulls_equal left.fields t.fields t.on t.rows left.rows c).0

  left-fault : (c : Cursor) → (rows_left t (probe_at c)).fault ≡ (pairs_from pairs_at (length left.rows) c).1
  left-fault c = (left-by_place how t.nulls_equal left.fields t.fields t.on t.rows left.rows c).1

  pub part-more : (c d : Cursor) (ps : List Pair) (rows : List Row) → IsOk (join_schema how left.fields t.fields t.on) → GoesOn pairs_at (length left.rows) c ps (next.At d) → rows ≡ map row_at ps →
      GivesPart t (probe_at c) rows (rest.More (probe_at d))
  part-more c d ps rows ok on are = (
    refl,
    refl,
    to-probe d ok on.0,
    left-rows c ∙ ap (map row_at) on.1 ∙ map-append row_at ps (pairs_from pairs_at (length left.rows) d).0 ∙ (λ i. sym are i ++ sym (left-rows d) i),
    left-fault c ∙ on.2 ∙ sym (left-fault d),
  )

  pub part-end : (c : Cursor) (fault : Option ℕ) (ps : List Pair) (rows : List Row) → GoesOn pairs_at (length left.rows) c ps (next.End fault) → rows ≡ map row_at ps →
      GivesPart t (probe_at c) rows (rest.End fault)
  part-end c fault ps rows on are =
      let v : Option ℕ → Stream ℕ = λ o. record { rows = rows; fault = o } in
      λ i. record {
        rows = (left-rows c ∙ ap (λ (u : List Pair × Option ℕ). map row_at u.0) on ∙ sym are) i;
        fault = (left-fault c ∙ ap (λ (u : List Pair × Option ℕ). u.1) on) i;
      }

  -- the pairs of a part are of rows that are there
  pub more-inside : (c d : Cursor) (ps : List Pair) → GoesOn pairs_at (length left.rows) c ps (next.At d) → AllIn (ArePlaces (length left.rows) (length t.rows)) ps
  more-inside c d ps on = part-inside how t.nulls_equal left.fields t.fields t.on t.rows left.rows c ps (pairs_from pairs_at (length left.rows) d).0 on.1

  pub end-inside : (c : Cursor) (fault : Option ℕ) (ps : List Pair) → GoesOn pairs_at (length left.rows) c ps (next.End fault) → AllIn (ArePlaces (length left.rows) (length t.rows)) ps
  end-inside c fault ps on = part-inside how t.nulls_equal left.fields t.fields t.on t.rows left.rows c ps [] (ap (λ (u : List Pair × Option ℕ). u.0) on ∙ sym (append-nil ps))
