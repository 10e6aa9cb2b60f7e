-- A join in parts: what a left batch still gives after some of its output.
use Rattle.std.specs.Prelude.{◌≡◌, ◌<◌, ◌≤◌, ◌+◌, ◌-◌, ◌⊎◌, ◌++◌, ℕ, List, [], drop, length, slice_index_or, Option, option_map, IsOk}
use Rattle.std.specs.List.{range_with_len}
use Rattle.fq_column.specs.Frame.{Row}
use Rattle.fq_column.specs.Stream.{Stream}
use Rattle.fq_ops.specs.Join.{join_rows, join_schema, joined}
use Rattle.fq_ops.specs.Pairs.{Pair, pairs_within}
use Rattle.fq_ops.specs.Table.{Table}
use Rattle.fq_ops.specs.declared.probes.Cursor.{Cursor}
use Rattle.fq_ops.specs.declared.probes.Next.{Next}
use Rattle.fq_ops.specs.declared.probes.Next.TheVariants as next
use Rattle.fq_ops.specs.declared.probes.Probe.{Probe}
use Rattle.fq_ops.specs.declared.probes.Rest.{Rest}
use Rattle.fq_ops.specs.declared.probes.Rest.TheVariants as rest

-- ---- rows

-- the rows that a left batch still gives, and the place of the left row whose output would pass the room
abbrev pub rows_left : Table → Probe → Stream ℕ
rows_left t p = let u = join_rows p.how t.nulls_equal p.left.fields t.fields t.on t.rows p.from.room (drop p.from.row p.left.rows) in
    record { rows = drop p.from.given u.rows; fault = option_map (λ i. p.from.row + i) u.fault }

-- the output of a left row
abbrev pub output_at : Table → Probe → ℕ → List Row
output_at t p l = joined p.left.fields t.fields t.on p.how t.nulls_equal t.rows (slice_index_or p.left.rows l [])

-- a left batch that the table may be joined with; a left row that has given some of its output has room for all of it
abbrev pub IsProbeOf : Table → Probe → Type 0
IsProbeOf t p = IsOk (join_schema p.how p.left.fields t.fields t.on)
    × ((p.from.given ≡ 0) ⊎ ((p.from.row < length p.left.rows) × (p.from.given ≤ length (output_at t p p.from.row)) × (length (output_at t p p.from.row) ≤ p.from.room)))

-- these rows are the next ones
abbrev pub GivesPart : Table → Probe → List Row → Rest → Type 0
GivesPart t p rows (rest.More q) = (q.left ≡ p.left) × (q.how ≡ p.how) × IsProbeOf t q
    × ((rows_left t p).rows ≡ rows ++ (rows_left t q).rows) × ((rows_left t p).fault ≡ (rows_left t q).fault)
GivesPart t p rows (rest.End fault) = rows_left t p ≡ record { rows = rows; fault = fault }

-- so many rows are a part of at most so many, and all of these if another part follows
abbrev pub IsPartOf : ℕ → ℕ → Rest → Type 0
IsPartOf most rows (rest.More q) = rows ≡ most
IsPartOf most rows (rest.End fault) = rows ≤ most

-- ---- pairs

-- the pairs from a place of so many left ones on, and the left place whose pairs would pass the room
abbrev pub pairs_from : (ℕ → List Pair) → ℕ → Cursor → List Pair × Option ℕ
pairs_from output count c = let u = pairs_within output c.room (range_with_len c.row (count - c.row)) in (drop c.given u.0, u.1)

-- a left place that has given some of its pairs has room for all of them
abbrev pub IsCursor : (ℕ → List Pair) → ℕ → Cursor → Type 0
IsCursor output count c = (c.given ≡ 0) ⊎ ((c.row < count) × (c.given ≤ length (output c.row)) × (length (output c.row) ≤ c.room))

-- so many pairs are those of a part of at most so many, and all of these if others follow
abbrev pub IsCountOf : ℕ → ℕ → Next → Type 0
IsCountOf most count (next.At d) = count ≡ most
IsCountOf most count (next.End fault) = count ≤ most

-- these pairs are the next ones
abbrev pub GoesOn : (ℕ → List Pair) → ℕ → Cursor → List Pair → Next → Type 0
GoesOn output count c ps (next.At d) = IsCursor output count d × ((pairs_from output count c).0 ≡ ps ++ (pairs_from output count d).0) × ((pairs_from output count c).1 ≡ (pairs_from output count d).1)
GoesOn output count c ps (next.End fault) = pairs_from output count c ≡ (ps, fault)
