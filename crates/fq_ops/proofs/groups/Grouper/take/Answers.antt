use Rattle.std.proofs.Common.{◌≡◌, ◌+◌, ◌++◌, true, true≢false, length, map, subst, sym, ap, ◌∙◌, arith}
use Rattle.std.specs.Prelude.{All}
use Rattle.std.specs.List.{AllPass}
use Rattle.std.proofs.lemmas.List.{length-append}
use Rattle.std.proofs.lemmas.List.Elements.{All-append}
use Rattle.indexmap.specs.IndexSet.{insert_all}
use Rattle.fq_column.specs.Frame.{Fields, row_fits}
use Rattle.fq_ops.specs.Accumulated.{IsAccumulator, accumulated, numbers_along}
use Rattle.fq_ops.specs.Grouped.{Grouped, HasTakenRows}
use Rattle.fq_ops.specs.Group.{key_of, keys_of_rows, same_key}
use Rattle.fq_ops.specs.Grouping.{key_at}
use Rattle.fq_ops.proofs.GatherLemmas.{all-gathered, keys-more_rows}
use Rattle.fq_ops.proofs.PlaceLemmas.{key-same}
use Rattle.fq_ops.proofs.groups.Grouper.take.Goals as goal

pub invariant_of-self-in_err-accumulate : goal.invariant_of-self-in_err-accumulate
invariant_of-self-in_err-accumulate c =
    let ready = c.self.invariant in
    record {
      some = ready.some;
      places = ready.places;
      whole = λ e. ready.whole (sym c.number_rows.ensures.whole ∙ e);
      few = ready.few;
      width = omega (arith, ready.width, c.in_err-accumulate.ensures.size);
      accumulators = λ e. absurd (true≢false e);
    }

pub invariant_of-self-2 : goal.invariant_of-self-2
invariant_of-self-2 c =
    let ready = c.self.invariant in
    let taken = c.self.inside.rows_taken in
    let fields = c.requires.fields ∙ ap (λ (g : Grouped). g.fields) (sym c.self.view_is) in
    let count : taken + length c.as_slice-2.result.now ≡ taken + c.len.result = omega (arith, ap length c.as_slice-2.ensures.value, c.len.ensures) in
    let all = c.in_ok-accumulate.ensures.ready taken (λ k d low. (ready.accumulators c.if-self.false k d low).bounded) in
    record {
      some = ready.some;
      places = ready.places;
      whole = λ e. ready.whole (sym c.number_rows.ensures.whole ∙ e);
      few = omega (arith, c.requires.room, ap (λ (g : Grouped). g.taken) c.self.view_is, c.len.ensures, c.in_ok-numbers.ensures.beside);
      width = omega (arith, ready.width, c.in_ok-accumulate.ensures.size);
      accumulators = λ e. subst (λ n. All (IsAccumulator (length c.self.inside.schema) (length c.number_rows.new.seen.keys) n) c.accumulate.new.accumulators.items) count
          (subst (λ n. All (IsAccumulator (length c.self.inside.schema) n (taken + length c.as_slice-2.result.now)) c.accumulate.new.accumulators.items) c.len-groups.ensures
          (subst (λ (fs : Fields). All (IsAccumulator (length fs) c.len-groups.result (taken + length c.as_slice-2.result.now)) c.accumulate.new.accumulators.items) fields all));
    }

pub returns-clause-taken : goal.returns-clause-taken
returns-clause-taken c = λ names outputs rows h.
    let old = subst (λ (g : Grouped). HasTakenRows g names outputs rows) (sym c.self.view_is) h in
    let inside = c.self.inside in
    let fields = inside.schema in
    let more = c.args.batch.now.rows in
    let key = key_of fields names in
    let named : key_at c.as_slice.result.now ≡ key = ap key_at c.as_slice.ensures.value ∙ key-same fields names inside.places.items old.places in
    let before = keys_of_rows fields names rows in
    let seen : c.number_rows.new.seen.keys ≡ keys_of_rows fields names (rows ++ more) =
    c.in_ok-numbers.ensures.seen ∙ (λ i. insert_all same_key (old.seen i) (map (named i) more)) ∙ keys-more_rows fields names rows more in
    let numbers : c.as_slice-2.result.now ≡ numbers_along before (map key more) =
    c.as_slice-2.ensures.value ∙ c.in_ok-numbers.ensures.numbers ∙ (λ i. numbers_along (old.seen i) (map (named i) more)) in
    let groups : c.len-groups.result ≡ length (keys_of_rows fields names (rows ++ more)) = c.len-groups.ensures ∙ ap length seen in
    record {
      accepted = old.accepted;
      output = old.output;
      taken = omega (arith, old.taken, c.len.ensures, c.in_ok-numbers.ensures.beside, length-append rows more);
      fit = All-append (λ row. row_fits fields row ≡ true) rows more old.fit
          (subst (λ (fs : Fields). AllPass (row_fits fs) more) (c.requires.fields ∙ ap (λ (g : Grouped). g.fields) (sym c.self.view_is)) c.in_ok-numbers.ensures.frame.1);
      places = old.places;
      seen = seen;
      accumulators = c.in_ok-accumulate.ensures.taken ∙ ap (map (accumulated c.len-groups.result c.as_slice-2.result.now more)) old.accumulators
          ∙ all-gathered fields names outputs rows more c.len-groups.result c.as_slice-2.result.now groups numbers;
    }
