use Rattle.std.proofs.Common.{rules, ◌≡◌, ◌++◌, ◌∷◌, [], ◌∙◌, List, refl, ap, sym, map, take, length, arith}
use Rattle.std.proofs.lemmas.List.{append-nil, append_assoc, length-map, map-append}
use Rattle.std.specs.Vec.Iter.{into_iter_items, into_iter_len}
use Rattle.fq_column.proofs.BatchLemmas.{changed, written}
use Rattle.fq_expr.specs.declared.application.Made.{Made}
use Rattle.fq_expr.specs.Made.{made_column}
use Rattle.fq_expr.proofs.MadeLemmas.{first-of-made, placed}
use Rattle.fq_expr.proofs.application.with_copies.Goals.{in-Column, in-Place+in_ok-copy-in-Place}
use Rattle.fq_expr.proofs.application.with_copies.Goals as goal

nothing_in : (xs : List Made) → length xs ≡ 0 → xs ≡ []
nothing_in [] e = refl
nothing_in (x ∷ xs) e = absurd (omega (arith, e))

pub loop-one-preserved : goal.loop-one-preserved
loop-one-preserved c =
    let f = c.args.batch.now in
    let one = c.in-Some.one in
    let made : c.match-one.push ≡ made_column f one = elim c.match-one.branch [
      | in-Column w ↦ w.push-is ∙ ap (made_column f) (sym w.in-Column.is)
      | in-Place+in_ok-copy-in-Place w ↦
          w.push-is ∙ w.in_ok-copy-in-Place.ensures ∙ placed f w.in-Place.place w.column.result.now w.column.ensures.kind w.column.ensures.cells ∙ ap (made_column f) (sym w.in-Place.is)
    ] in
    record {
      columns = c.in_ok-push.ensures.items ∙ (λ i. c.loop-one.invariant.columns i ++ made i ∷ []) ∙ sym (map-append (made_column f) c.loop-one.yielded (one ∷ []));
      all = c.loop-one.invariant.all ∙ ap (λ l. c.loop-one.yielded ++ l) c.in-Some.ensures.steps.0 ∙ sym (append_assoc c.loop-one.yielded (one ∷ []) (into_iter_items c.next.new.self));
    }

pub returns-clause-columns : goal.returns-clause-columns
returns-clause-columns c =
    let columns = c.loop-one.columns.items in
    let made = c.args.evaluated.columns.items in
    let f = changed (take c.args.evaluated.rows) in
    let cut : c.cut_columns.new.columns ≡ map f columns = c.cut_columns.ensures ∙ ap (map f) c.as_mut_slice.ensures.value in
    let size : length c.cut_columns.new.columns ≡ length columns = ap length cut ∙ length-map columns f in
    let empty : into_iter_len c.loop-one.one-iterator ≡ 0 = c.in-None.ensures.steps.0 in
    let none : length (into_iter_items c.loop-one.one-iterator) ≡ 0 = search rules in
    let whole : c.loop-one.yielded ≡ made = sym (c.loop-one.invariant.all ∙ ap (λ l. c.loop-one.yielded ++ l) (nothing_in (into_iter_items c.loop-one.one-iterator) none) ∙ append-nil c.loop-one.yielded) in
    written c.loop-one.columns.len c.cut_columns.new.columns columns size (grind arith) ∙ cut ∙ ap (map f) (c.loop-one.invariant.columns ∙ ap (map (made_column c.args.batch.now)) whole) ∙ sym (first-of-made c.args.batch.now c.args.evaluated.rows made)
