use Rattle.std.proofs.Common.{◌≡◌, [], ◌∷◌, ◌++◌, length, sym, ap, ◌∙◌, arith, inl, inr}
use Rattle.std.proofs.lemmas.Result.{on_ok_weaker}
use Rattle.std.proofs.lemmas.List.{length-set, length-append}
use Rattle.indexmap.specs.IndexSet.{insert_key}
use Rattle.fq_ops.specs.Group.{same_key}
use Rattle.fq_ops.proofs.GroupLemmas.{Grown, grown-written, position-within, length-insert_key}
use Rattle.fq_ops.proofs.joins.add_place.Goals as goal
use Rattle.fq_ops.proofs.joins.add_place.Goals.{then-i-len+in_ok-push, else-i-len}

grown : (c : goal.After-groups-1) → Grown c.args.groups.now.items c.if-i-len.groups.items c.in_ok-i.i []
grown c =
    let xs = c.args.groups.now.items in
    let low = position-within (same_key c.args.key.now.cells) c.args.seen.now.keys in
    elim c.if-i-len.branch [
      | then-i-len+in_ok-push w ↦ inl (omega arith, ap (λ v. v.items) w.groups-is ∙ w.in_ok-push.ensures.items ∙ ap (λ g. xs ++ g ∷ []) w.new.ensures)
      | else-i-len w ↦ inr (omega (arith, low, c.in_ok-i.ensures.index), ap (λ v. v.items) w.groups-is)
    ]

pub returns-clause-groups : goal.returns-clause-groups
returns-clause-groups c =
    on_ok_weaker c.push-2.result (λ e. grown-written (λ g. g ++ c.args.row ∷ []) c.args.groups.now.items c.if-i-len.groups.items c.in_ok-i.i _ [] _ _ (grown c) c.in_ok-i.ensures.index c.index_mut-group.ensures.value e) c.push-2.ensures

pub returns-clause-beside : goal.returns-clause-beside
returns-clause-beside c =
    let xs = c.args.groups.now.items in
    let gs = c.if-i-len.groups.items in
    let grows = length-insert_key same_key c.args.key.now.cells c.args.seen.now.keys in
    let at = c.in_ok-i.ensures.index in
    let keys : length c.number_of.new.self.keys ≡ length (insert_key same_key c.args.seen.now.keys c.args.key.now.cells) = ap length c.in_ok-i.ensures.keys in
    let same : length gs ≡ length c.number_of.new.self.keys = elim (grown c) [
      | inl (e, h) ↦ ap length h ∙ length-append xs ([] ∷ []) ∙ omega (arith, keys, grows.0 (sym at ∙ e ∙ c.requires.beside), c.requires.beside)
      | inr (e, h) ↦ ap length h ∙ omega (arith, keys, grows.1 (omega (arith, at, e, c.requires.beside)), c.requires.beside)
    ] in
    on_ok_weaker c.push-2.result (λ _. length-set gs c.in_ok-i.i c.push-2.new.self ∙ same) c.push-2.ensures
