use Rattle.std.proofs.Common.{◌≡◌, ◌<◌, ◌-◌, Ok, Some, None, length, map, subst, sym, ap, ◌∙◌, arith}
use Rattle.fq_column.specs.Batch.{frame_of, kind_of_cells}
use Rattle.fq_column.specs.Frame.{Frame, kinds_of}
use Rattle.fq_column.specs.Lists.{numbers}
use Rattle.fq_ops.specs.Accumulated.{first_found, group_picks, out_of_range_in}
use Rattle.fq_ops.specs.Grouped.{Grouped, HasTakenRows}
use Rattle.fq_ops.specs.Group.{grouped}
use Rattle.fq_ops.specs.Picks.{columns_of}
use Rattle.fq_ops.proofs.GroupedLemmas.{picks-count, picks-kinds, taken-fits, taken-not}
use Rattle.fq_ops.proofs.PickLemmas.{OneLength, frame-picked, kinds-of-picks, lengths-picked}
use Rattle.fq_ops.proofs.groups.Grouper.groups.Goals as goal

pub returns-in-Some-clause-fault : goal.returns-in-Some-clause-fault
returns-in-Some-clause-fault c = λ names outputs rows h.
    let own = subst (λ (g : Grouped). HasTakenRows g names outputs rows) (sym c.self.view_is) h in
    let inside = c.self.inside in
    let found : first_found (out_of_range_in inside.accumulators.items) (numbers (length inside.seen.keys)) ≡ Some c.in-Some.item =
    (λ i. first_found (out_of_range_in (sym c.as_slice.ensures.value i)) (numbers (sym c.len.ensures i))) ∙ sym c.in-Some.ensures.found in
    ap (λ (g : Grouped). grouped g.fields names outputs rows) (sym c.self.view_is) ∙ taken-not _ names outputs rows own c.in-Some.item found

pub new-requires-clause-kinds : goal.new-requires-clause-kinds
new-requires-clause-kinds c =
    let output = c.self.inside.output in
    let accumulators = c.as_slice-2.result.now in
    let seen = c.self.inside.seen.keys in
    let places = length output - length accumulators in
    let picks = group_picks places seen accumulators (kinds_of output) (length output) in
    ap (map kind_of_cells) c.in_ok-columns.ensures ∙ kinds-of-picks (numbers (length seen)) picks
    ∙ sym (ap kinds_of c.in_ok-output.ensures ∙ picks-kinds places seen accumulators output)

pub new-requires-clause-lengths : goal.new-requires-clause-lengths
new-requires-clause-lengths c =
    let output = c.self.inside.output in
    let accumulators = c.as_slice-2.result.now in
    let seen = c.self.inside.seen.keys in
    let places = length output - length accumulators in
    let picks = group_picks places seen accumulators (kinds_of output) (length output) in
    let some : 0 < length picks = omega (arith, picks-count places seen accumulators output, c.self.invariant.width, c.self.invariant.some) in
    subst OneLength (sym c.in_ok-columns.ensures) (lengths-picked (numbers (length seen)) picks some)

pub returns-clause-rows : goal.returns-clause-rows
returns-clause-rows c = λ names outputs rows h.
    let own = subst (λ (g : Grouped). HasTakenRows g names outputs rows) (sym c.self.view_is) h in
    let inside = c.self.inside in
    let output = inside.output in
    let accumulators = inside.accumulators.items in
    let seen = inside.seen.keys in
    let places = length output - length accumulators in
    let picks = group_picks places seen accumulators (kinds_of output) (length output) in
    let some : 0 < length picks = omega (arith, picks-count places seen accumulators output, c.self.invariant.width, c.self.invariant.some) in
    let none : first_found (out_of_range_in accumulators) (numbers (length seen)) ≡ None =
    (λ i. first_found (out_of_range_in (sym c.as_slice.ensures.value i)) (numbers (sym c.len.ensures i))) ∙ sym c.in_default.ensures.found in
    let columns : c.in_ok-columns.columns.items ≡ columns_of picks (numbers (length seen)) =
    c.in_ok-columns.ensures ∙ (λ i. columns_of (group_picks (length output - length (c.as_slice-2.ensures.value i)) seen (c.as_slice-2.ensures.value i) (kinds_of output) (length output)) (numbers (length seen))) in
    ap (λ (g : Grouped). grouped g.fields names outputs rows) (sym c.self.view_is)
    ∙ taken-fits _ names outputs rows own none
    ∙ ap Ok (sym (ap (λ (f : Frame). f.rows) c.new.ensures
    ∙ (λ i. (frame_of (c.in_ok-output.ensures i) (columns i)).rows)
    ∙ frame-picked (numbers (length seen)) output picks some))
