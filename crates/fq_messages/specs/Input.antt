-- The two parts of an input that holds a plan's line and then one CSV file.
use Rattle.std.specs.Prelude.{ℕ, ◌+◌, ◌==◌, not, List, length, drop, take_while}

-- the bytes before the first line feed, or all
abbrev pub plan_line : List ℕ → List ℕ
plan_line input = take_while (λ c. not (c == 10)) input

-- the bytes after it
abbrev pub file_after : List ℕ → List ℕ
file_after input = drop (length (plan_line input) + 1) input
