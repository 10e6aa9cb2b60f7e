-- The words of kinds.
use Rattle.std.specs.Prelude.{List, ℕ, codes}
use Rattle.fq_column.specs.declared.cells.Kind.{Kind}
use Rattle.fq_column.specs.declared.cells.Kind.TheVariants as kind

-- the word for a kind of column, as plans and messages have it
abbrev pub kind_word : Kind → List ℕ
kind_word kind.Whole = codes "int"
kind_word kind.Text = codes "text"
kind_word kind.Truth = codes "bool"
