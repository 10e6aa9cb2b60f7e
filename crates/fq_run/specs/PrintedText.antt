-- Text that is printed piece by piece.
use Rattle.std.specs.Prelude.{ℕ, List, flat_map}
use Rattle.fq_column.specs.Frame.{Frame}
use Rattle.fq_csv.specs.Printed.{printed_rows_in}
use Rattle.fq_notation.specs.declared.notations.Notation.{Notation}
use Rattle.fq_run.specs.declared.printed_text.PrintedText.{PrintedText}

abbrev pub text_of : PrintedText → List ℕ
text_of t = flat_map (λ piece. piece.items) t.pieces.items

-- the text of the rows of batches, in these notations
abbrev pub rows_text : List Notation → List Frame → List ℕ
rows_text notations batches = flat_map (λ b. printed_rows_in notations b.rows) batches
