use Rattle.std.proofs.Common.{◌≡◌, map, string_bytes, take}
use Rattle.csv.specs.Records.{fields_of}
use Rattle.fq_review.proofs.drafts.names_of.Given as goal

abbrev pub invariant-loop-at : goal.invariant-loop-at
invariant-loop-at l = map string_bytes l.names.items ≡ take l.at (fields_of l.header)
