-- The lines of a file on which its records begin. A line ends with a line feed, and lines count from 1, as in an editor; a record begins at
-- its first byte that ends no line.
use Rattle.std.specs.Prelude.{◌+◌, ◌==◌, ◌&&◌, not, Bool, true, false, ℕ, if◌then◌else◌}
use Rattle.csv.specs.Machine.{ends_with, line_feed}
use Rattle.csv.specs.declared.parser.State.{State}
use Rattle.csv.specs.declared.parser.State.TheVariants as st
use Rattle.csv.specs.declared.parser.Terminator.TheVariants as term

-- whether a reader stands between two records
abbrev pub is_between : State → Bool
is_between st.StartRecord = true
is_between st.AfterCr = true
is_between _ = false

-- whether a record begins with a byte
abbrev pub begins : State → ℕ → Bool
begins s c = is_between s && not (ends_with term.CRLF c)

-- the line of the byte after this one
abbrev pub line_after : ℕ → ℕ → ℕ
line_after line c = if c == line_feed then line + 1 else line
