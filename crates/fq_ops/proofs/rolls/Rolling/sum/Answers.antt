use Rattle.std.proofs.Common.{◌≡◌, ap, sym, ◌∙◌, arith, rules, Some}
use mir.Syntax.{w64, w128}
use mir.Val.{SFits, to_z, of_z}
use Rattle.std.proofs.lemmas.Int.{to_z-of_z}
use Rattle.fq_column.specs.declared.cells.Cell.TheVariants as cell
use Rattle.fq_ops.specs.Taken.{Window}
use Rattle.fq_ops.specs.Window.{sum_of_window}
use Rattle.fq_ops.proofs.WindowLemmas.{fits-so, fits-not, sum-too_few, sum-given, sum-out_of_range}
use Rattle.fq_ops.proofs.rolls.Rolling.sum.Goals as goal

pub returns-then-self : goal.returns-then-self
returns-then-self c =
    let r = c.self.inside in
    ap (λ (w : Window). sum_of_window w.min_samples w.last) (sym c.self.view_is)
    ∙ sum-too_few r.min_samples r.ring.items r.total.sum r.total.count c.self.invariant.sum_is c.self.invariant.count_is (omega arith)

pub returns-in-Ok : goal.returns-in-Ok
returns-in-Ok c =
    let r = c.self.inside in
    let small : SFits w128 r.total.sum = search rules in
    let is = to_z-of_z w128 r.total.sum small in
    let given = c.in-Ok.ensures in
    let fit : SFits w64 r.total.sum = rw is at given.0 in
    let same : c.in-Ok.sum ≡ r.total.sum = given.1 ∙ is in
    let back : to_z w64 (of_z w64 c.in-Ok.sum) ≡ r.total.sum = ap (λ z. to_z w64 (of_z w64 z)) same ∙ to_z-of_z w64 r.total.sum fit in
    ap (λ (w : Window). sum_of_window w.min_samples w.last) (sym c.self.view_is)
    ∙ sum-given r.min_samples r.ring.items r.total.sum r.total.count c.self.invariant.sum_is c.self.invariant.count_is (omega arith) (fits-so r.total.sum fit)
    ∙ ap (λ z. Some (cell.Whole z)) (sym back)

pub returns-in-Err : goal.returns-in-Err
returns-in-Err c =
    let r = c.self.inside in
    let small : SFits w128 r.total.sum = search rules in
    let is = to_z-of_z w128 r.total.sum small in
    ap (λ (w : Window). sum_of_window w.min_samples w.last) (sym c.self.view_is)
    ∙ sum-out_of_range r.min_samples r.ring.items r.total.sum r.total.count c.self.invariant.sum_is c.self.invariant.count_is (omega arith) (fits-not r.total.sum (λ f. c.in-Err.ensures (rw is f)))
