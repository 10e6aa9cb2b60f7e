use Rattle.std.proofs.Common.{◌≡◌, length}
use Rattle.csv.specs.Records.{fields_of}
use Rattle.fq_review.specs.Checked.{names_in}
use Rattle.fq_review.proofs.DraftLemmas.{FirstCounted, OthersSame}
use Rattle.fq_review.proofs.drafts.Source.take_row.Given as goal

abbrev pub invariant-loop-at : goal.invariant-loop-at
invariant-loop-at l = record {
  files : l.self.files ≡ l.fn.self.files;
  size : length l.self.columns.items ≡ length l.fn.self.columns.items;
  names : names_in l.self.columns.items ≡ names_in l.fn.self.columns.items;
  first : FirstCounted l.reading.nulls (fields_of l.row) l.fn.self.columns.items l.self.columns.items l.at;
  others : OthersSame l.reading.nulls (fields_of l.row) l.fn.self.columns.items l.self.columns.items l.at;
}
