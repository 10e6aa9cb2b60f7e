use Rattle.std.proofs.Common.{◌≡◌}
use Rattle.fq_messages.proofs.reviews.draft_files.Given as goal

abbrev pub invariant-loop-name : goal.invariant-loop-name
invariant-loop-name g l = g.O.Opener.bytes_of l.files ≡ g.O.Opener.bytes_of l.initial.files
