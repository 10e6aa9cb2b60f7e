-- The streams of a plan's sources, as far as worked items were taken.
use Rattle.std.specs.Prelude.{ℕ, ◌-◌, nat_lt, List, [], ◌∷◌, if◌then◌else◌}
use Rattle.fq_column.specs.Frame.{Fields}
use Rattle.fq_column.specs.Schema.{same_fields}
use Rattle.fq_column.specs.Stream.{Stream, done, faulted, then_stream}
use Rattle.fq_expr.specs.declared.fronts.RowFault.{RowFault}
use Rattle.fq_column.specs.declared.pieces.Piece.{Piece}
use Rattle.fq_run.specs.Sources.{scan_fault}
use Rattle.fq_run.specs.Working.{piece_stream}
use Rattle.fq_run.specs.declared.faults.Fault.{Fault}
use Rattle.fq_run.specs.declared.gathering.SideSource.{SideSource}
use Rattle.fq_run.specs.declared.leading_steps.Worked.{Worked}
use Rattle.fq_run.specs.declared.leading_steps.Worked.TheVariants as worked

-- the stream so far, and a source with another one
abbrev pub gathered_stream : SideSource → Stream Fault
gathered_stream g = record { rows = g.batch.rows; fault = g.fault }

abbrev pub with_stream : SideSource → Stream Fault → SideSource
with_stream g u = record { files = g.files; batch = record { fields = g.batch.fields; rows = u.rows }; fault = u.fault }

-- what a piece adds to a source with these columns; one of others is dropped
abbrev pub added_piece : Fields → Piece RowFault → Stream Fault
added_piece fields p = if same_fields p.batch.fields fields then piece_stream p else done []

-- what a worked item adds
abbrev pub added_stream : Fields → Worked → Stream Fault
added_stream fields (worked.Piece p) = added_piece fields p
added_stream fields (worked.Cut p fault) = then_stream (added_piece fields p) (faulted (scan_fault fault))
added_stream fields (worked.Ended fault) = faulted (scan_fault fault)

-- a source after one of its worked items
abbrev pub gathered : SideSource → Worked → SideSource
gathered g out = with_stream g (then_stream (gathered_stream g) (added_stream g.batch.fields out))

-- the sources after a worked item of a file, which is counted from the first of them on
abbrev pub taken_in : ℕ → Worked → List SideSource → List SideSource
taken_in file out [] = []
taken_in file out (g ∷ gs) = if nat_lt file g.files then gathered g out ∷ gs else g ∷ taken_in (file - g.files) out gs
