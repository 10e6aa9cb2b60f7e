use Rattle.std.proofs.Common.{◌≡◌, ◌+ℤ◌, ◌+◌, ◌^◌, subst, sym, ap, ◌∙◌, arith, length, unwrap_or, None}
use Rattle.std.specs.Prelude.{option_to_list}
use Rattle.circular_buffer.specs.Buffer.{Buffer}
use Rattle.fq_ops.specs.Aggregate.{int_sum}
use Rattle.fq_ops.specs.Sums.{IsWithin}
use Rattle.fq_ops.specs.Window.{IsRunning, present}
use Rattle.fq_ops.proofs.WindowLemmas.{kept, window-within, sum-left, count-left, window-left, count-few, slid}
use Rattle.fq_ops.proofs.rolls.Rolling.slide.Goals as goal

pub remove-requires-clause-within : goal.remove-requires-clause-within
remove-requires-clause-within c =
    let r = c.self.invariant in
    subst (IsWithin (2 ^ 40)) (sym r.sum_is) (window-within c.self.inside.ring.items r.all_fit (omega (arith, r.within, r.few)))

pub remove-requires-clause-one_of_them : goal.remove-requires-clause-one_of_them
remove-requires-clause-one_of_them c =
    let b = c.self.inside.ring in
    let t = c.self.inside.total in
    omega (arith, count-left b.items b.capacity t.sum t.count c.self.invariant c.args.place c.unwrap_or-left.result (c.unwrap_or-left.ensures ∙ ap (λ o. unwrap_or o None) c.push_back.ensures.value))

pub add-requires-clause-within : goal.add-requires-clause-within
add-requires-clause-within c =
    let b = c.self.inside.ring in
    let t = c.self.inside.total in
    let g = c.unwrap_or-left.ensures ∙ ap (λ o. unwrap_or o None) c.push_back.ensures.value in
    let left = c.unwrap_or-left.result in
    subst (IsWithin (2 ^ 40)) (sym (c.remove.ensures.sum ∙ sum-left b.items b.capacity t.sum t.count c.self.invariant c.args.place left g)) (window-left b.items b.capacity t.sum t.count c.self.invariant c.args.place left g)

pub add-requires-clause-few : goal.add-requires-clause-few
add-requires-clause-few c =
    let b = c.self.inside.ring in
    let t = c.self.inside.total in
    let g = c.unwrap_or-left.ensures ∙ ap (λ o. unwrap_or o None) c.push_back.ensures.value in
    let left = c.unwrap_or-left.result in
    omega (arith, c.remove.ensures.count, count-left b.items b.capacity t.sum t.count c.self.invariant c.args.place left g, count-few b.items b.capacity t.sum t.count c.self.invariant c.args.place left g)

pub invariant_of-self : goal.invariant_of-self
invariant_of-self c =
    let b = c.self.inside.ring in
    let t = c.self.inside.total in
    let g = c.unwrap_or-left.ensures ∙ ap (λ o. unwrap_or o None) c.push_back.ensures.value in
    let left = c.unwrap_or-left.result in
    let sum = c.add.ensures.sum ∙ ap (λ s. s +ℤ int_sum (option_to_list c.args.place)) (c.remove.ensures.sum ∙ sum-left b.items b.capacity t.sum t.count c.self.invariant c.args.place left g) in
    let remaining : c.remove.new.self.count ≡ length (present (kept b.capacity b.items)) =
    omega (arith, c.remove.ensures.count, count-left b.items b.capacity t.sum t.count c.self.invariant c.args.place left g) in
    let count = c.add.ensures.count ∙ ap (λ n. n + length (option_to_list c.args.place)) remaining in
    subst (λ (r : Buffer _). IsRunning r.items r.capacity c.add.new.self.sum c.add.new.self.count) (sym c.push_back.ensures.items)
    (slid b.items b.capacity t.sum t.count c.self.invariant c.args.place left g c.add.new.self.sum c.add.new.self.count sum count c.add.ensures.fits)
