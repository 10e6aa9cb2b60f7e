-- The bytes of a text, wherever they lie.
use Rattle.std.specs.Prelude.{ℕ, List}
use Rattle.std.specs.String.{string_bytes}
use Rattle.fq_column.specs.declared.texts.Storage.{Storage}
use Rattle.fq_column.specs.declared.texts.Storage.TheVariants.{Inline, Heap}

abbrev pub stored : Storage → List ℕ
stored (Inline string) = string.bytes
stored (Heap string) = string_bytes string
