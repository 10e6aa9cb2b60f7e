-- What marks say of the records of a file.
use Rattle.std.specs.Prelude.{Bool, true, false, ℕ, List, [], ◌∷◌, Option, Some, is_some, if◌then◌else◌}
use Rattle.std.specs.List.{list_any}
use Rattle.fq_places.specs.Marks.{marks_of}
use Rattle.fq_places.specs.declared.marks.Flaw.{Flaw}
use Rattle.fq_places.specs.declared.marks.Flaw.TheVariants as flaw
use Rattle.fq_places.specs.declared.marks.Mark.{Mark}

-- the lines of the marks at which records begin
abbrev pub lines_of : List Mark → List ℕ
lines_of [] = []
lines_of (mark ∷ marks) = if mark.begins then mark.line ∷ lines_of marks else lines_of marks

-- the marks at which a flaw shows
abbrev pub flaws_of : List Mark → List Mark
flaws_of [] = []
flaws_of (mark ∷ marks) = if is_some mark.flaw then mark ∷ flaws_of marks else flaws_of marks

-- the lines on which the records of a file begin
abbrev pub record_lines : List ℕ → List ℕ
record_lines bytes = lines_of (marks_of bytes)

abbrev pub is_open_quote : Option Flaw → Bool
is_open_quote (Some flaw.OpenQuote) = true
is_open_quote _ = false

-- whether a file ends in quotes that are not closed
abbrev pub ends_in_quotes : List ℕ → Bool
ends_in_quotes bytes = list_any (λ (mark : Mark). is_open_quote mark.flaw) (marks_of bytes)
