-- Leading row-wise steps on the items of files.
use Rattle.std.proofs.Common.{◌≡◌, ℕ, ◌+◌, Bool, true, false, nat_lt, cond, List, [], ◌∷◌, ◌++◌, map, Option, Some, None, option_map, refl, ap, sym, ◌∙◌}
use Rattle.fq_column.specs.Frame.{Fields, Row}
use Rattle.fq_column.specs.Stream.{Stream, done, then_stream, rename_fault, ended_as, one_by_one}
use Rattle.fq_expr.specs.Steps.{rows_after, apply_step, apply_steps, fields_after}
use Rattle.fq_expr.specs.Expression.{Step}
use Rattle.fq_column.proofs.StreamLemmas.{then_stream-assoc}
use Rattle.fq_expr.proofs.StepLemmas.{rename_fault-then, apply_steps-then}
use Rattle.fq_run.specs.Physical.{Physical, after_leading, side_files, main_fields}
use Rattle.fq_run.specs.Sources.{concat_streams}
use Rattle.fq_run.specs.Tail.{worked}
use Rattle.fq_run.specs.declared.faults.Fault.{Fault}
use Rattle.fq_run.specs.declared.faults.Fault.TheVariants.{Overflow}

module _ {F : Type 0} where
  pub concat_streams-append : (us vs : List (Stream F)) → concat_streams (us ++ vs) ≡ then_stream (concat_streams us) (concat_streams vs)
  concat_streams-append [] vs = refl
  concat_streams-append (u ∷ us) vs = ap (then_stream u) (concat_streams-append us vs) ∙ sym (then_stream-assoc u (concat_streams us) (concat_streams vs))

  -- below, `overflow n i` is the fault of item i of step n
  module _ (overflow : ℕ → ℕ → F) where
    pub apply_steps-done : (n : ℕ) (fields : Fields) (steps : List Step) → apply_steps overflow n fields steps (done []) ≡ done []
    apply_steps-done n fields [] = refl
    apply_steps-done n fields (s ∷ steps) = apply_steps-done (n + 1) (fields_after fields s) steps

    pub apply_steps-concat_streams : (n : ℕ) (fields : Fields) (steps : List Step) (us : List (Stream F)) →
        apply_steps overflow n fields steps (concat_streams us) ≡ concat_streams (map (apply_steps overflow n fields steps) us)
    apply_steps-concat_streams n fields steps [] = apply_steps-done n fields steps
    apply_steps-concat_streams n fields steps (u ∷ us) =
        apply_steps-then overflow n fields steps u (concat_streams us)
        ∙ ap (then_stream (apply_steps overflow n fields steps u)) (apply_steps-concat_streams n fields steps us)

module _ {F G : Type 0} (overflow : ℕ → ℕ → F) (name : F → G) where
  rename_fault-rename_fault : {E : Type 0} (f : E → F) (rows : List Row) (end : Option E) →
      rename_fault name (rename_fault f (record { rows = rows; fault = end })) ≡ rename_fault (λ e. name (f e)) (record { rows = rows; fault = end })
  rename_fault-rename_fault f rows None = refl
  rename_fault-rename_fault f rows (Some e) = refl

  rename_fault-apply_step : (n : ℕ) (fields : Fields) (s : Step) (u : Stream F) →
      rename_fault name (apply_step overflow n fields s u) ≡ apply_step (λ m i. name (overflow m i)) n fields s (rename_fault name u)
  rename_fault-apply_step n fields s u =
      let v = one_by_one (rows_after fields s) u.rows in
      rename_fault-then name (rename_fault (overflow n) v) (record { rows = []; fault = u.fault })
      ∙ ap (ended_as (option_map name u.fault)) (rename_fault-rename_fault (overflow n) v.rows v.fault)

  pub rename_fault-apply_steps : (n : ℕ) (fields : Fields) (steps : List Step) (u : Stream F) →
      rename_fault name (apply_steps overflow n fields steps u) ≡ apply_steps (λ m i. name (overflow m i)) n fields steps (rename_fault name u)
  rename_fault-apply_steps n fields [] u = refl
  rename_fault-apply_steps n fields (s ∷ steps) u =
      rename_fault-apply_steps (n + 1) (fields_after fields s) steps (apply_step overflow n fields s u)
      ∙ ap (apply_steps (λ m i. name (overflow m i)) (n + 1) (fields_after fields s) steps) (rename_fault-apply_step n fields s u)

-- items of a file that are worked one by one join to the file's rows worked at once
pub worked-joined : (p : Physical) (file : ℕ) (us : List (Stream Fault)) → concat_streams (map (worked p file) us) ≡ worked p file (concat_streams us)
worked-joined p file us = go (nat_lt file (side_files p))
  where
    same : (us : List (Stream Fault)) → map (λ u. u) us ≡ us
    same [] = refl
    same (u ∷ us) = ap (λ vs. u ∷ vs) (same us)

    go : (join : Bool) → concat_streams (map (λ u. cond join u (after_leading p u)) us) ≡ cond join (concat_streams us) (after_leading p (concat_streams us))
    go true = ap concat_streams (same us)
    go false = sym (apply_steps-concat_streams Overflow 0 (main_fields p) p.front us)
