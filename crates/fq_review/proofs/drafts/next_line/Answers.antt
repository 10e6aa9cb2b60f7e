use Rattle.fq_review.proofs.CheckLemmas.{match-map}
use Rattle.fq_review.proofs.drafts.next_line.Goals as goal

pub returns-in-Ok-clause-reads : goal.returns-in-Ok-clause-reads
returns-in-Ok-clause-reads g c rs marks some left =
    let r = c.in-Ok.ensures.reads rs marks some left in
    (r.0, r.1, match-map c.in-Ok.line (λ n. n.0) (λ l s. (s.0, s.1, s.2)) r.3)
