use Rattle.std.proofs.Common.{◌≡◌, ◌++◌, ℕ, List}
use Rattle.std.specs.Prelude.{drop}
use Rattle.fq_places.specs.Marks.{marks_from}
use Rattle.fq_places.specs.Places.{state_of}
use Rattle.fq_places.proofs.marks.Stand.pass_all.Given as goal

abbrev pub invariant-loop-i : goal.invariant-loop-i
invariant-loop-i l = (more : List ℕ) →
    marks_from (state_of l.fn.self.place) l.fn.self.line l.fn.self.quote (l.fn.bytes ++ more)
    ≡ marks_from (state_of l.self.place) l.self.line l.self.quote (drop l.i l.fn.bytes ++ more)
