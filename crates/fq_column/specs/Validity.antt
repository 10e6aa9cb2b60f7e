-- Marks in words of 64 bits.
--     word_at words k      word k; behind the last word each has all bits
--     mark_at words i      whether bit i is 1, the lowest bit of a word first
--     marks words n      the first n of them
use Rattle.std.specs.Prelude.{ℕ, ◌/◌, ◌%◌, Bool, List, map, slice_index_or}
use Rattle.std.specs.Bool.{◌==◌}
use Rattle.std.specs.Int.{bit_at}
use Rattle.fq_column.specs.Lists.{numbers}

-- word k; behind the last word each has all bits
abbrev pub word_at : List ℕ → ℕ → ℕ
word_at words k = slice_index_or words k 0xFFFF_FFFF_FFFF_FFFF

-- whether bit i is 1, the lowest bit of a word first
abbrev pub mark_at : List ℕ → ℕ → Bool
mark_at words i = bit_at (word_at words (i / 64)) (i % 64) == 1

-- the first n of them
abbrev pub marks : List ℕ → ℕ → List Bool
marks words n = map (mark_at words) (numbers n)
