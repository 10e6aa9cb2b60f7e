-- The marks of a file: where its records begin, and where it is written otherwise than RFC 4180 says.
use Rattle.std.specs.Prelude.{◌≡◌, ◌≤◌, ◌==◌, ◌||◌, ◌++◌, false, ℕ, List, [], ◌∷◌, Option, Some, None, drop, is_some, length, if◌then◌else◌}
use Rattle.std.specs.Io.Buffered.{reader_remaining}
use Rattle.csv.specs.Machine.{ends_with, line_feed, step}
use Rattle.csv.specs.Reading.{default_config, strip_bom}
use Rattle.csv.specs.declared.parser.State.{State}
use Rattle.csv.specs.declared.parser.State.TheVariants as st
use Rattle.csv.specs.declared.parser.Terminator.TheVariants as term
use Rattle.fq_places.specs.Lines.{begins, line_after}
use Rattle.fq_places.specs.Places.{opens, state_of}
use Rattle.fq_places.specs.declared.marks.Flaw.{Flaw}
use Rattle.fq_places.specs.declared.marks.Flaw.TheVariants as flaw
use Rattle.fq_places.specs.declared.marks.Mark.{Mark}
use Rattle.fq_places.specs.declared.marks.Marks.{Marks}

-- what shows at a byte, where a reader stands so: text after a closing quote, or after a carriage return that has no line feed
abbrev pub flaw_at : State → ℕ → Option Flaw
flaw_at st.AfterQuote c = if (c == 34) || ((c == 44) || ends_with term.CRLF c) then None else Some flaw.TextAfterQuote
flaw_at st.AfterCr c = if c == line_feed then None else Some flaw.LoneReturn
flaw_at _ c = None

-- what is marked at a byte of a line
abbrev pub mark_at : State → ℕ → ℕ → Option Mark
mark_at s line c =
    if begins s c || is_some (flaw_at s c) then Some (record { line = line; begins = begins s c; flaw = flaw_at s c }) else None

-- what is marked where a file ends, on this line, by the line of the quote that opened last
abbrev pub mark_at_end : State → ℕ → ℕ → Option Mark
mark_at_end st.InQuoted line quote = Some (record { line = quote; begins = false; flaw = Some flaw.OpenQuote })
mark_at_end st.AfterCr line quote = Some (record { line = line; begins = false; flaw = Some flaw.LoneReturn })
mark_at_end _ line quote = None

abbrev pub with_mark : Option Mark → List Mark → List Mark
with_mark None marks = marks
with_mark (Some mark) marks = mark ∷ marks

-- the marks of these bytes, where a reader stands so, on this line, by the line of the quote that opened last
unfoldable pub marks_from : State → ℕ → ℕ → List ℕ → List Mark
marks_from s line quote [] = with_mark (mark_at_end s line quote) []
marks_from s line quote (c ∷ cs) =
    with_mark (mark_at s line c) (marks_from (step default_config s c).0 (line_after line c) (if opens s c then line else quote) cs)

-- the marks of a file
abbrev pub marks_of : List ℕ → List Mark
marks_of bytes = marks_from st.StartRecord 1 1 (strip_bom bytes)

-- ---- a reader of marks

-- no more is passed than was read
abbrev pub IsSound : {R : Type 0} → Marks R → Type 0
IsSound m = m.passed ≤ length m.bytes.items

-- these are the marks that a reader has left, by what its source has left
abbrev pub HasMarks : {R : Type 0} → (R → Option (List ℕ)) → Marks R → List Mark → Type 0
HasMarks remaining m marks = (bytes : List ℕ) × (reader_remaining remaining m.reader ≡ Some bytes)
    × (marks ≡ marks_from (state_of m.stand.place) m.stand.line m.stand.quote (drop m.passed m.bytes.items ++ bytes))
