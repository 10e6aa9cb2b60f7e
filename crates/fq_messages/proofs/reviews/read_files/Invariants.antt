use Rattle.std.proofs.Common.{◌≡◌, ℕ, List, map, take}
use Rattle.std.specs.Prelude.{◌==◌, ◌&&◌}
use Rattle.fq_review.specs.Checked.{are_clean}
use Rattle.fq_run.specs.Run.{Tell}
use Rattle.fq_plan.specs.Noted.{noted_layouts}
use Rattle.fq_messages.proofs.reviews.read_files.Given as goal

abbrev pub invariant-loop-name : goal.invariant-loop-name
invariant-loop-name g l = (l.number ≡ l.name-index)
    × (g.O.Opener.bytes_of l.files ≡ g.O.Opener.bytes_of l.initial.files)
    × ((inputs : List (List ℕ)) → Tell (g.O.Opener.bytes_of l.initial.files) (map (λ name. name.now) l.names) inputs →
    (l.check.problems == 0) ≡ ((l.initial.check.problems == 0) && are_clean (take l.name-index (noted_layouts l.named l.plan)) (take l.name-index inputs)))
