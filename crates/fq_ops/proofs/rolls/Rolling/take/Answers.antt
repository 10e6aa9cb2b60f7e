use Rattle.std.proofs.Common.{◌≡◌, ◌+◌, ◌++◌, ◌∷◌, [], Some, None, is_some, true, false, true≢false, map, take, length, sym, ap, subst, set, rules, ◌∙◌, arith}
use mir.Syntax.{w64}
use mir.Val.{SFits}
use Rattle.std.proofs.lemmas.Int.{to_z-of_z}
use Rattle.std.proofs.Math.Seq.{take_all}
use Rattle.circular_buffer.specs.Buffer.{keep_last}
use Rattle.fq_column.specs.declared.cells.Cell.TheVariants.{Whole}
use Rattle.fq_column.specs.Column.{Cells, cells_of, nullable}
use Rattle.fq_column.specs.Lists.{before_missing, first_missing}
use Rattle.fq_ops.specs.Roll.{rolled}
use Rattle.fq_ops.specs.Taken.{Window}
use Rattle.fq_ops.specs.Window.{sum_of_window, sums_along}
use Rattle.fq_ops.proofs.RollLemmas.{slid_along, slid-all, slid-more, IsSummed, IsFilled, summed-more, summed-before, summed-fault, summed-all, filled-none, filled-some, added, faulted-added}
use Rattle.fq_ops.proofs.rolls.Rolling.take.Goals as goal
use Rattle.fq_ops.proofs.rolls.Rolling.take.Goals.{in-Some, in_default-sum}

pub returns-in-Err-clause-sums : goal.returns-in-Err-clause-sums
returns-in-Err-clause-sums c = λ cells h.
    let self = c.args.self.now in
    let inv = c.loop-i.invariant in
    let column : c.args.column.now ≡ _ = sym c.values.ensures ∙ ap cells_of c.in-Whole.is in
    let at = c.get.ensures ∙ ap Some (sym c.copied.ensures) in
    let moved = ap (λ (w : Window). w.last) c.slide.ensures ∙ ap (λ n. keep_last n (c.loop-i.self.last ++ nullable Whole c.copied.result ∷ [])) inv.window in
    let samples = ap (λ (w : Window). w.min_samples) c.slide.ensures ∙ inv.samples in
    let none = sym (λ k. sum_of_window (samples k) (moved k)) ∙ c.in-Err.ensures in
    ap (λ (x : Cells). x.cells) c.from_values.ensures ∙ ap (map (nullable Whole)) c.truncate.ensures
    ∙ sym (ap before_missing (added self cells c.args.column.now.cells h c.requires.not_faulted)
    ∙ ap (λ (x : Cells). before_missing (sums_along self.window self.min_samples self.last x.cells)) column
    ∙ summed-before self.window self.min_samples self.last c.loop-i.self.last c.in-Whole.values c.loop-i.i (take c.loop-i.i c.loop-i.sums) inv.summed c.copied.result at none)

pub returns-in-Err-clause-fault : goal.returns-in-Err-clause-fault
returns-in-Err-clause-fault c = λ cells h.
    let self = c.args.self.now in
    let inv = c.loop-i.invariant in
    let column : c.args.column.now ≡ _ = sym c.values.ensures ∙ ap cells_of c.in-Whole.is in
    let at = c.get.ensures ∙ ap Some (sym c.copied.ensures) in
    let moved = ap (λ (w : Window). w.last) c.slide.ensures ∙ ap (λ n. keep_last n (c.loop-i.self.last ++ nullable Whole c.copied.result ∷ [])) inv.window in
    let samples = ap (λ (w : Window). w.min_samples) c.slide.ensures ∙ inv.samples in
    let none = sym (λ k. sum_of_window (samples k) (moved k)) ∙ c.in-Err.ensures in
    sym (ap first_missing (added self cells c.args.column.now.cells h c.requires.not_faulted)
    ∙ ap (λ (x : Cells). first_missing (sums_along self.window self.min_samples self.last x.cells)) column
    ∙ summed-fault self.window self.min_samples self.last c.loop-i.self.last c.in-Whole.values c.loop-i.i (take c.loop-i.i c.loop-i.sums) inv.summed c.copied.result at none)

pub returns-in-Err-clause-taken : goal.returns-in-Err-clause-taken
returns-in-Err-clause-taken c = λ cells h.
    let self = c.args.self.now in
    let inv = c.loop-i.invariant in
    let column : c.args.column.now ≡ _ = sym c.values.ensures ∙ ap cells_of c.in-Whole.is in
    let at = c.get.ensures ∙ ap Some (sym c.copied.ensures) in
    let moved = ap (λ (w : Window). w.last) c.slide.ensures ∙ ap (λ n. keep_last n (c.loop-i.self.last ++ nullable Whole c.copied.result ∷ [])) inv.window in
    let samples = ap (λ (w : Window). w.min_samples) c.slide.ensures ∙ inv.samples in
    let none = sym (λ k. sum_of_window (samples k) (moved k)) ∙ c.in-Err.ensures in
    let window : c.self.inside.ring.capacity ≡ self.window = ap (λ (w : Window). w.window) (c.self.view_is ∙ c.slide.ensures) ∙ inv.window in
    let least : c.self.inside.min_samples ≡ self.min_samples = ap (λ (w : Window). w.min_samples) (c.self.view_is ∙ c.slide.ensures) ∙ inv.samples in
    let found : is_some (first_missing (rolled self.window self.min_samples (cells ++ c.args.column.now.cells))) ≡ true =
    faulted-added self cells c.args.column.now.cells h c.requires.not_faulted
    ∙ ap (λ (x : Cells). is_some (first_missing (sums_along self.window self.min_samples self.last x.cells))) column
    ∙ ap is_some (summed-fault self.window self.min_samples self.last c.loop-i.self.last c.in-Whole.values c.loop-i.i (take c.loop-i.i c.loop-i.sums) inv.summed c.copied.result at none) in
    record {
      last = λ e. absurd (true≢false e);
      faulted = sym found ∙ (λ k. is_some (first_missing (rolled (sym window k) (sym least k) (cells ++ c.args.column.now.cells))));
    }

pub loop-i-preserved : goal.loop-i-preserved
loop-i-preserved c =
    let self = c.args.self.now in
    let inv = c.loop-i.invariant in
    let vs = c.in-Whole.values in
    let i = c.loop-i.i in
    let at = c.get.ensures ∙ ap Some (sym c.copied.ensures) in
    let moved = ap (λ (w : Window). w.last) c.slide.ensures ∙ ap (λ n. keep_last n (c.loop-i.self.last ++ nullable Whole c.copied.result ∷ [])) inv.window in
    let samples = ap (λ (w : Window). w.min_samples) c.slide.ensures ∙ inv.samples in
    let next : (sum : _) → sum_of_window c.slide.new.self.min_samples c.slide.new.self.last ≡ Some (nullable Whole sum) → IsSummed self.window self.min_samples self.last c.slide.new.self.last vs (i + 1) (take i c.loop-i.sums ++ sum ∷ []) =
    λ sum s. subst (λ w. IsSummed self.window self.min_samples self.last w vs (i + 1) (take i c.loop-i.sums ++ sum ∷ [])) (sym moved)
    (summed-more self.window self.min_samples self.last c.loop-i.self.last vs i (take i c.loop-i.sums) inv.summed c.copied.result at sum (sym (λ k. sum_of_window (samples k) (moved k)) ∙ s)) in
    let both = elim c.match-sum-2.branch as (λ _. IsSummed self.window self.min_samples self.last c.slide.new.self.last vs (i + 1) (take (i + 1) c.match-sum-2.sums) × IsFilled (length vs) (i + 1) c.match-sum-2.sums) [
      | in-Some w ↦
          let given = rw w.in-Some.is at c.in-Ok.ensures in
          let filled = filled-some (length vs) i c.loop-i.sums inv.filled (omega arith) (Some w.in-Some.sum) in
          let fit : SFits w64 w.in-Some.sum = search rules in
          let same = sym (w.sums-is ∙ w.set.ensures ∙ ap (λ z. set c.loop-i.sums i (Some z)) (to_z-of_z w64 w.in-Some.sum fit)) in (
            subst (IsSummed self.window self.min_samples self.last c.slide.new.self.last vs (i + 1)) (sym filled.1 ∙ ap (take (i + 1)) same) (next (Some w.in-Some.sum) given),
            subst (IsFilled (length vs) (i + 1)) same filled.0,
          )
      | in_default-sum w ↦
          let given = rw w.in_default-sum.is at c.in-Ok.ensures in
          let filled = filled-none (length vs) i c.loop-i.sums inv.filled (omega arith) in
          let same = sym w.sums-is in (
            subst (IsSummed self.window self.min_samples self.last c.slide.new.self.last vs (i + 1)) (sym filled.1 ∙ ap (take (i + 1)) same) (next None given),
            subst (IsFilled (length vs) (i + 1)) same filled.0,
          )
    ] in
    record {
      window = ap (λ (w : Window). w.window) c.slide.ensures ∙ inv.window;
      samples = samples;
      faulted = ap (λ (w : Window). w.faulted) c.slide.ensures ∙ inv.faulted;
      last = moved ∙ ap (λ w. keep_last self.window (w ++ nullable Whole c.copied.result ∷ [])) inv.last ∙ sym (slid-more self.window self.last vs i c.copied.result at);
      summed = both.0;
      filled = both.1;
    }

pub returns-clause-taken : goal.returns-clause-taken
returns-clause-taken c = λ cells h.
    let self = c.args.self.now in
    let inv = c.loop-i.invariant in
    let vs = c.in-Whole.values in
    let column : c.args.column.now ≡ _ = sym c.values.ensures ∙ ap cells_of c.in-Whole.is in
    let done = summed-all self.window self.min_samples self.last c.loop-i.self.last vs c.loop-i.i (take c.loop-i.i c.loop-i.sums) inv.summed (omega arith) in
    let found : is_some (first_missing (rolled self.window self.min_samples (cells ++ c.args.column.now.cells))) ≡ false =
    faulted-added self cells c.args.column.now.cells h c.requires.not_faulted
    ∙ ap (λ (x : Cells). is_some (first_missing (sums_along self.window self.min_samples self.last x.cells))) column
    ∙ ap is_some done.1 in
    record {
      last = λ e. inv.last ∙ ap (λ l. slid_along self.window self.last (map (nullable Whole) l)) (take_all c.loop-i.i vs (omega arith))
          ∙ ap (λ w. slid_along self.window w (map (nullable Whole) vs)) (h.last c.requires.not_faulted)
          ∙ slid-all self.window cells (map (nullable Whole) vs)
          ∙ ap (λ (x : Cells). keep_last self.window (cells ++ x.cells)) (sym column)
          ∙ ap (λ n. keep_last n (cells ++ c.args.column.now.cells)) (sym inv.window);
      faulted = inv.faulted ∙ c.requires.not_faulted ∙ sym found ∙ (λ k. is_some (first_missing (rolled (sym inv.window k) (sym inv.samples k) (cells ++ c.args.column.now.cells))));
    }

pub returns-clause-sums : goal.returns-clause-sums
returns-clause-sums c = λ cells h.
    let self = c.args.self.now in
    let inv = c.loop-i.invariant in
    let vs = c.in-Whole.values in
    let column : c.args.column.now ≡ _ = sym c.values.ensures ∙ ap cells_of c.in-Whole.is in
    let done = summed-all self.window self.min_samples self.last c.loop-i.self.last vs c.loop-i.i (take c.loop-i.i c.loop-i.sums) inv.summed (omega arith) in
    ap (λ (x : Cells). x.cells) c.from_values-2.ensures
    ∙ sym (ap before_missing (added self cells c.args.column.now.cells h c.requires.not_faulted)
    ∙ ap (λ (x : Cells). before_missing (sums_along self.window self.min_samples self.last x.cells)) column
    ∙ done.0 ∙ ap (map (nullable Whole)) (take_all c.loop-i.i c.loop-i.sums (omega (arith, inv.filled.size))))

pub returns-clause-fault : goal.returns-clause-fault
returns-clause-fault c = λ cells h.
    let self = c.args.self.now in
    let inv = c.loop-i.invariant in
    let column : c.args.column.now ≡ _ = sym c.values.ensures ∙ ap cells_of c.in-Whole.is in
    let done = summed-all self.window self.min_samples self.last c.loop-i.self.last c.in-Whole.values c.loop-i.i (take c.loop-i.i c.loop-i.sums) inv.summed (omega arith) in
    sym (ap first_missing (added self cells c.args.column.now.cells h c.requires.not_faulted)
    ∙ ap (λ (x : Cells). first_missing (sums_along self.window self.min_samples self.last x.cells)) column
    ∙ done.1)
