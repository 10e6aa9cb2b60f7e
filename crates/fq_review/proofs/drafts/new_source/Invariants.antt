use Rattle.std.proofs.Common.{◌≡◌, ℕ, List, [], Some, map, slice_get, string_bytes}
use Rattle.std.specs.Prelude.{String}
use Rattle.std.specs.Global.{Global}
use Rattle.fq_notation.specs.Notation.{notation_named}
use Rattle.fq_review.specs.Checked.{names_in}
use Rattle.fq_review.specs.Drafted.{HasCounted}
use Rattle.fq_review.specs.declared.guesses.Guess.{Guess}
use Rattle.fq_review.proofs.drafts.new_source.Given as goal

abbrev pub invariant-loop-name : goal.invariant-loop-name
invariant-loop-name l = record {
  names : names_in l.columns.items ≡ map string_bytes l.yielded;
  none : (i : ℕ) (column : String Global × Guess) → slice_get l.columns.items i ≡ Some column →
      (column.1.notation ≡ notation_named l.named (string_bytes column.0)) × ((nulls : List (List ℕ)) → HasCounted nulls column.1 []);
}
