use Rattle.std.proofs.Common.{◌∙◌, ◌++◌, ap, sym}
use Rattle.fq_places.specs.Records.{flaws_of}
use Rattle.fq_places.proofs.lined.LinedRecords.next.Goals as goal

pub returns-in-true-Some-clause-reads : goal.returns-in-true-Some-clause-reads
returns-in-true-Some-clause-reads g c rs marks some left =
    let read = rw c.in-true-Some.is-0 at (c.in_ok-found.ensures.reads rs some) in
    let mark = rw c.in-true-Some.is-1 at (c.in_ok-line.ensures.reads marks left) in
    let flaws = sym (ap (λ fs. fs ++ flaws_of marks) c.clear.ensures.items) ∙ mark.3 in
    (mark.0, mark.1, flaws, (read.0, read.1, read.2, mark.2))

pub returns-in-false-None-clause-reads : goal.returns-in-false-None-clause-reads
returns-in-false-None-clause-reads g c rs marks some left =
    let mark = rw c.in-false-None.is-1 at (c.in_ok-line.ensures.reads marks left) in
    let flaws = sym (ap (λ fs. fs ++ flaws_of marks) c.clear.ensures.items) ∙ mark.3 in
    (mark.0, mark.1, flaws, (rw c.in-false-None.is-0 at (c.in_ok-found.ensures.reads rs some), mark.2.0, mark.2.1))
