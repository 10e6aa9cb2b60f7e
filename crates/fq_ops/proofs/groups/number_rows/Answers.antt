use Rattle.std.proofs.Common.{◌≡◌, ◌+◌, ◌∷◌, [], ◌++◌, ◌<◌, ◌≤◌, get_or, length, map, take, subst, sym, ap, ◌∙◌, arith}
use Rattle.std.specs.Prelude.{All}
use Rattle.std.specs.List.{position_or_len}
use Rattle.std.proofs.lemmas.List.{length-append}
use Rattle.std.proofs.lemmas.List.Elements.{All-push}
use Rattle.indexmap.specs.IndexSet.{insert_all, insert_key}
use Rattle.fq_ops.specs.Accumulated.{numbers_along}
use Rattle.fq_ops.specs.Group.{same_key}
use Rattle.fq_ops.specs.Grouping.{key_at}
use Rattle.fq_ops.proofs.AccumulatorLemmas.{all-below, insert-grows, insert-push, keys-more, numbers-push}
use Rattle.fq_ops.proofs.groups.number_rows.Goals as goal

pub loop-row-preserved : goal.loop-row-preserved
loop-row-preserved c =
    let rows = c.args.batch.now.rows in
    let key = key_at c.args.places.now in
    let row = c.loop-row.row in
    let first = c.args.seen.now.keys in
    let seen = c.loop-row.seen.keys in
    let numbers = c.loop-row.numbers.items in
    let n = c.in_ok-number_of.field-0 in
    let here = key (get_or rows row []) in
    let before = map key (take row rows) in
    let kept : c.number_of.new.self.keys ≡ insert_key same_key seen here = c.in_ok-number_of.ensures.keys ∙ ap (insert_key same_key seen) c.in_ok-read.ensures.read in
    let at : n ≡ position_or_len (same_key here) seen = c.in_ok-number_of.ensures.index ∙ ap (λ k. position_or_len (same_key k) seen) c.in_ok-read.ensures.read in
    let taken : map key (take (row + 1) rows) ≡ before ++ here ∷ [] = keys-more key rows row [] (omega arith) in
    let grows : length seen ≤ length c.number_of.new.self.keys = omega (arith, insert-grows seen here, ap length kept) in
    record {
      size = c.in_ok-read.ensures.size;
      form = c.in_ok-read.ensures.whole ∙ c.loop-row.invariant.form ∙ sym c.number_of.ensures.whole;
      whole = c.number_of.ensures.whole ∙ c.loop-row.invariant.whole;
      seen = kept ∙ ap (λ ks. insert_key same_key ks here) c.loop-row.invariant.seen ∙ sym (ap (insert_all same_key first) taken ∙ insert-push first before here);
      numbers = c.in_ok-push.ensures.items ∙ (λ i. c.loop-row.invariant.numbers i ++ at i ∷ [])
          ∙ ap (λ ks. numbers_along first before ++ position_or_len (same_key here) ks ∷ []) c.loop-row.invariant.seen
          ∙ sym (ap (numbers_along first) taken ∙ numbers-push first before here);
      beside = ap length c.in_ok-push.ensures.items ∙ length-append numbers (n ∷ []) ∙ omega (arith, c.loop-row.invariant.beside);
      within = subst (All (λ x. x < length c.number_of.new.self.keys)) (sym c.in_ok-push.ensures.items)
          (All-push (λ x. x < length c.number_of.new.self.keys) numbers n (all-below (length seen) (length c.number_of.new.self.keys) grows numbers c.loop-row.invariant.within) c.in_ok-number_of.ensures.within);
      grown = omega (arith, c.loop-row.invariant.grown, grows);
    }
