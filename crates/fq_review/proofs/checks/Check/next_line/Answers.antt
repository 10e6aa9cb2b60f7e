use Rattle.std.proofs.Common.{◌∙◌, ap, sym}
use Rattle.std.specs.Prelude.{◌==◌, ◌&&◌}
use Rattle.fq_review.specs.Checked.{is_flawless}
use Rattle.fq_review.proofs.CheckLemmas.{and-assoc, flawless-parts, match-map}
use Rattle.fq_review.proofs.checks.Check.next_line.Goals as goal

pub returns-clause-told : goal.returns-clause-told
returns-clause-told g c some = c.tell_flaws.ensures ∙ ap (λ b. b && is_flawless c.as_slice.result.now) some

pub returns-clause-reads : goal.returns-clause-reads
returns-clause-reads g c rs marks some left =
    let r = c.in_ok-line.ensures.reads rs marks some left in
    let flaws = c.next.new.self.flaws.items in
    let old = c.args.self.now.problems == 0 in
    let told = c.tell_flaws.ensures ∙ ap (λ fs. old && is_flawless fs) c.as_slice.ensures.value in (
      r.0,
      r.1,
      ap (λ b. b && is_flawless r.0) told ∙ and-assoc old (is_flawless flaws) (is_flawless r.0) ∙ ap (λ b. old && b) (sym (flawless-parts marks flaws r.0 r.2)),
      match-map c.in_ok-line.line (λ n. (n.0, n.2)) (λ l s. (s.0, s.1, s.2)) r.3,
    )
