-- Worked examples: the definitions over these names, columns and rows.
use Rattle.std.specs.Prelude.{◌≡◌, ℕ, true, false, List, [], ◌∷◌, ◌++◌, take, pos, Some, None, codes, replicate}
use Rattle.fq_column.specs.declared.cells.Kind.TheVariants as kind
use Rattle.fq_column.specs.declared.cells.Cell.{Cell}
use Rattle.fq_column.specs.declared.cells.Cell.TheVariants.{Null, Whole, Text}
use Rattle.fq_column.specs.declared.faults.StepFault.TheVariants.{NoColumn, TooMany, DoubleName}
use Rattle.fq_column.specs.declared.faults.BatchFault.TheVariants.{Width, Kind as WrongKind, Length}
use Rattle.fq_column.specs.Batch.{batch_fault, frame_of}
use Rattle.fq_column.specs.Column.{Cells}
use Rattle.fq_column.specs.Frame.{Fields, Frame, position_of}
use Rattle.fq_column.specs.Lists.{keep, pieces}
use Rattle.fq_column.specs.Refusal.{first_refusal}
use Rattle.fq_column.specs.Schema.{schema_checks}
use Rattle.fq_column.specs.Stream.{done, then_stream}

abbrev pub n : ℕ → Cell
n k = Whole (pos k)

abbrev pub SchemaExamples : Type 0
SchemaExamples = (first_refusal (schema_checks []) ≡ Some NoColumn)
    × (first_refusal (schema_checks (replicate 65 (codes "a"))) ≡ Some TooMany)
    × (first_refusal (schema_checks (codes "a" ∷ codes "a" ∷ [])) ≡ Some DoubleName)
    × (first_refusal (schema_checks (codes "a" ∷ codes "b" ∷ [])) ≡ None)
    × (position_of (codes "b") (codes "a" ∷ codes "b" ∷ []) ≡ Some 1)
    × (position_of (codes "c") (codes "a" ∷ codes "b" ∷ []) ≡ None)

abbrev pub texts : List Cell
texts = Text (codes "x") ∷ Null ∷ Text [] ∷ Text (195 ∷ 169 ∷ []) ∷ []

abbrev pub ColumnExamples : Type 0
ColumnExamples = (keep (true ∷ false ∷ false ∷ true ∷ []) texts ≡ Text (codes "x") ∷ Text (195 ∷ 169 ∷ []) ∷ [])
    × (take 1 (keep (true ∷ false ∷ false ∷ true ∷ []) texts) ++ (Null ∷ []) ≡ Text (codes "x") ∷ Null ∷ [])

abbrev pub ab : Fields
ab = (codes "a", kind.Whole) ∷ (codes "b", kind.Text) ∷ []

abbrev pub whole : List Cell → Cells
whole cells = record { kind = kind.Whole; cells = cells }

abbrev pub text : List Cell → Cells
text cells = record { kind = kind.Text; cells = cells }

abbrev pub five : Frame
five = frame_of ab (whole (n 5 ∷ []) ∷ text (Text (codes "x") ∷ []) ∷ [])

abbrev pub BatchExamples : Type 0
BatchExamples = (batch_fault ab (whole (n 1 ∷ []) ∷ []) ≡ Some Width)
    × (batch_fault ab (whole (n 1 ∷ []) ∷ whole (n 1 ∷ n 2 ∷ []) ∷ []) ≡ Some WrongKind)
    × (batch_fault ab (whole (n 1 ∷ []) ∷ text (Null ∷ Null ∷ []) ∷ []) ≡ Some Length)
    × (batch_fault ab (whole (n 5 ∷ []) ∷ text (Text (codes "x") ∷ []) ∷ []) ≡ None)
    × (five.rows ≡ (n 5 ∷ Text (codes "x") ∷ []) ∷ [])

abbrev pub PieceExamples : Type 0
PieceExamples = (pieces {X = ℕ} 2 (1 ∷ 2 ∷ 3 ∷ []) ≡ (1 ∷ 2 ∷ []) ∷ (3 ∷ []) ∷ [])
    × (pieces {X = ℕ} 2 (1 ∷ 2 ∷ 3 ∷ 4 ∷ []) ≡ (1 ∷ 2 ∷ []) ∷ (3 ∷ 4 ∷ []) ∷ [])
    × (pieces {X = ℕ} 2 [] ≡ [])
    × (pieces {X = ℕ} 65536 (1 ∷ []) ≡ (1 ∷ []) ∷ [])

abbrev pub StreamExamples : Type 0
StreamExamples = let r : List Cell = n 1 ∷ [] in let s : List Cell = n 2 ∷ [] in
    (then_stream {F = ℕ} (done (r ∷ [])) (record { rows = s ∷ []; fault = Some 7 }) ≡ record { rows = r ∷ s ∷ []; fault = Some 7 })
    × (then_stream {F = ℕ} (record { rows = r ∷ []; fault = Some 7 }) (done (s ∷ [])) ≡ record { rows = r ∷ []; fault = Some 7 })
