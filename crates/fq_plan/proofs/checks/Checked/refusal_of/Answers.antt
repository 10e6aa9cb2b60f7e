use Rattle.std.proofs.Common.{◌≡◌, ◌∙◌, ap, get_or, sym, take}
use Rattle.std.specs.List.{list_any}
use Rattle.fq_column.specs.Frame.{same_name}
use Rattle.fq_plan.specs.Noted.{has_ints}
use Rattle.fq_plan.proofs.NotedLemmas.{Entry, name_in, refused-column, refused-further, refused-twice}
use Rattle.fq_plan.proofs.checks.Checked.refusal_of.Goals as goal
use Rattle.fq_plan.proofs.checks.Checked.refusal_of.Goals.{After-stands_in}

-- the entry
abbrev here : After-stands_in → Entry
here c = get_or c.args.named.now c.loop-place.place c.index-named-place.result

-- whether its name stands before it
stands : (c : After-stands_in) → list_any (λ (entry : Entry). same_name (name_in (here c)) (name_in entry)) (take c.loop-place.place c.args.named.now) ≡ c.stands_in.result
stands c = sym (c.stands_in.ensures ∙ ap (λ name. list_any (λ (entry : Entry). same_name name (name_in entry)) (take c.loop-place.place c.args.named.now)) c.as_str-name.ensures.value)

pub returns-then-stands_in : goal.returns-then-stands_in
returns-then-stands_in c =
    let at = (goal.at.returns-then-stands_in c).After-stands_in in
    sym (c.loop-place.invariant ∙ refused-twice c.args.self.now c.args.named.now c.loop-place.place c.index-named-place.result c.loop-place-test.true (stands at ∙ c.if-stands_in.true))

pub returns-then-not-has_ints : goal.returns-then-not-has_ints
returns-then-not-has_ints c =
    let at = (goal.at.returns-then-not-has_ints c).After-stands_in in
    let none : has_ints c.args.self.now (name_in (here at)) ≡ c.has_ints.result =
    sym (c.has_ints.ensures ∙ ap (has_ints c.args.self.now) c.as_str-name.ensures.value) in
    sym (c.loop-place.invariant ∙ refused-column c.args.self.now c.args.named.now c.loop-place.place c.index-named-place.result c.loop-place-test.true (stands at ∙ c.if-stands_in.false) (none ∙ c.if-not-has_ints.true))

pub loop-place-preserved : goal.loop-place-preserved
loop-place-preserved c =
    let at = (goal.at.loop-place-preserved c).After-stands_in in
    let some : has_ints c.args.self.now (name_in (here at)) ≡ c.has_ints.result =
    sym (c.has_ints.ensures ∙ ap (has_ints c.args.self.now) c.as_str-name.ensures.value) in
    c.loop-place.invariant ∙ refused-further c.args.self.now c.args.named.now c.loop-place.place c.index-named-place.result c.loop-place-test.true (stands at ∙ c.if-stands_in.false) (some ∙ c.if-not-has_ints.false)
