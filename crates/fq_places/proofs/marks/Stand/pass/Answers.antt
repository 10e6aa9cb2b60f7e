use Rattle.std.proofs.Common.{◌∙◌, sym}
use Rattle.fq_places.specs.Places.{state_of}
use Rattle.fq_places.proofs.MarkLemmas.{marks-step}
use Rattle.fq_places.proofs.marks.Stand.pass.Goals as goal
use Rattle.fq_places.proofs.marks.Stand.pass.Goals.{then-opens, else-opens}

pub returns : goal.returns
returns c more =
    let now = c.args.self.now in
    let step = marks-step (state_of now.place) now.line now.quote c.args.byte more in
    elim c.if-opens.branch [
      | then-opens w ↦ rw (c.after-self.ensures, c.in_ok-self.ensures, w.self-is) (rw (sym c.opens.ensures ∙ w.if-opens.true) at step)
      | else-opens w ↦ rw (c.after-self.ensures, c.in_ok-self.ensures, w.self-is) (rw (sym c.opens.ensures ∙ w.if-opens.false) at step)
    ]
