-- What is taken and dropped after a fault.
use Rattle.std.specs.Prelude.{◌||◌, drop, if◌then◌else◌, is_err}
use Rattle.std.specs.List.{list_any, slice_get}
use Rattle.std.proofs.Common.{◌≡◌, ◌≤◌, ◌∙◌, ◌++◌, ◌⊎◌, inl, inr, ℕ, zero, suc, Bool, true, false, List, [], ◌∷◌, Result, Option, Some, None, IfSome, length, length-append, set, refl, sym, ap, arith}
use Rattle.std.proofs.Math.Bool.{or-false, or_assoc}
use Rattle.std.proofs.Math.Seq.{drop-length}
use Rattle.std.proofs.lemmas.List.{drop-append-le}
use Rattle.std.proofs.lemmas.List.Folds.{list_any-append}
use mathlib.Core.List.{IsPrefix}
use Rattle.fq_lanes.specs.HubView.{Tells, end_told, WorkerView, any_refused, refused_between}
use Rattle.fq_lanes.specs.declared.faults.FeedFault.{FeedFault}
use Rattle.fq_lanes.specs.declared.faults.Memory.{Memory}
use Rattle.fq_lanes.specs.declared.faults.RunFault.{RunFault}
use Rattle.fq_lanes.specs.declared.faults.RunFault.TheVariants as run_fault
use Rattle.fq_lanes.specs.declared.messages.FromFeed.{FromFeed}
use Rattle.fq_lanes.specs.declared.messages.FromFeed.TheVariants.{End}
use Rattle.fq_lanes.proofs.LaneLemmas.{ended_grows, ended_stays, told_end}

-- the fault that a drained feed ends with was told
pub fault-told : {X : Type 0} (was : Bool) (told : List (FromFeed X)) (end : Option FeedFault) → (was ≡ true → end ≡ None) → (was ≡ false → Tells told (End end))
    → IfSome end (λ e. Tells told (End (Some e)))
fault-told was told None before after = tt
fault-told true told (Some e) before after = let bad : ⊥ = cc (before refl) in absurd bad
fault-told false told (Some e) before after = after refl

or-flip : (a b : Bool) → (a || b) ≡ (b || a)
or-flip true true = refl
or-flip true false = refl
or-flip false true = refl
or-flip false false = refl

pub fault-next : (a r : Bool) (first fault next : RunFault) → first ≡ (if a then run_fault.Memory else fault) → next ≡ (if r then run_fault.Memory else first)
    → next ≡ (if a || r then run_fault.Memory else fault)
fault-next true true first fault next e f = f
fault-next true false first fault next e f = f ∙ e
fault-next false true first fault next e f = f
fault-next false false first fault next e f = f ∙ e

module _ {X O : Type 0} where
  pub none-between : (d : WorkerView X O) → refused_between d d ≡ false
  none-between d = ap (list_any is_err) (drop-length d.answers)

  -- nothing was received
  pub between-same : (a b c : WorkerView X O) → c.answers ≡ b.answers → refused_between a c ≡ refused_between a b
  between-same a b c e = ap (λ l. list_any is_err (drop (length a.answers) l)) e

  -- an answer was received
  pub between-more : (a b c : WorkerView X O) (r : Result O Memory) → IsPrefix a.answers b.answers → c.answers ≡ b.answers ++ r ∷ [] → refused_between a c ≡ (refused_between a b || is_err r)
  between-more a b c r (more, p) e =
      let high : length a.answers ≤ length b.answers = omega (arith, ap length p, length-append a.answers more) in
      ap (λ l. list_any is_err (drop (length a.answers) l)) e
      ∙ ap (list_any is_err) (drop-append-le (length a.answers) b.answers (r ∷ []) high)
      ∙ list_any-append is_err (drop (length a.answers) b.answers) (r ∷ [])
      ∙ ap (λ t. refused_between a b || t) (or-false (is_err r))

  -- so what was received says whether work was refused
  pub between-err : (a b c : WorkerView X O) (r : Result O Memory) → IsPrefix a.answers b.answers → c.answers ≡ b.answers ++ r ∷ [] → is_err r ≡ true → true ≡ refused_between a c
  between-err a b c r p e is = sym (between-more a b c r p e ∙ ap (λ t. refused_between a b || t) is ∙ or-flip (refused_between a b) true)

  pub between-ok : (a b c : WorkerView X O) (r : Result O Memory) → IsPrefix a.answers b.answers → c.answers ≡ b.answers ++ r ∷ [] → is_err r ≡ false → refused_between a b ≡ refused_between a c
  between-ok a b c r p e is = sym (between-more a b c r p e ∙ ap (λ t. refused_between a b || t) is ∙ or-false (refused_between a b))

  pub none-of-all : (ds : List (WorkerView X O)) → any_refused ds ds ≡ false
  none-of-all [] = refl
  none-of-all (d ∷ ds) = rw (none-between d, none-of-all ds) refl

  -- one more worker was drained
  pub any-set : (olds news : List (WorkerView X O)) (w : ℕ) (o n : WorkerView X O) → slice_get olds w ≡ Some o → slice_get news w ≡ Some o
      → any_refused olds (set news w n) ≡ (any_refused olds news || refused_between o n)
  any-set [] news w o n e f = cc e
  any-set (d ∷ ds) [] w o n e f = cc f
  any-set (d ∷ ds) (c ∷ cs) zero o n e f =
      let a : d ≡ o = cc in
      let b : c ≡ o = cc in
      rw (a, b, none-between o) (or-flip (refused_between o n) (any_refused ds cs))
  any-set (d ∷ ds) (c ∷ cs) (suc w) o n e f =
      ap (λ t. refused_between d c || t) (any-set ds cs w o n e f) ∙ sym (or_assoc (refused_between d c) (any_refused ds cs) (refused_between o n))

-- the fault that a feed's lane tells after a drain was told before, or is the one with which the feed then ended
pub drained-fault : {X : Type 0} (old prev new : List (FromFeed X)) (end : Option FeedFault) (e : FeedFault) → IsPrefix old prev → (end_told old ≡ None → end_told prev ≡ None) → new ≡ prev ++ End end ∷ []
    → end_told new ≡ Some (Some e) → (end_told old ≡ Some (Some e)) ⊎ (end ≡ Some e)
drained-fault old prev new end e more unended is told = by (end_told old) refl
  where
    now : end_told (prev ++ End end ∷ []) ≡ Some (Some e)
    now = ap end_told (sym is) ∙ told

    by : (d : Option (Option FeedFault)) → end_told old ≡ d → (end_told old ≡ Some (Some e)) ⊎ (end ≡ Some e)
    by None none = inr (let both : Some end ≡ Some (Some e) = sym (told_end prev end (unended none)).1 ∙ now in cc)
    by (Some d) ended =
        let stays = (ended_stays prev (End end ∷ []) d (ended_grows old prev d more ended).1).1 in
        let same : d ≡ Some e = (let both : Some d ≡ Some (Some e) = sym stays ∙ now in cc) in
        inl (ended ∙ ap Some same)
