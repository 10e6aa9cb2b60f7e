-- Row-wise steps on streams in a row.
use Rattle.std.proofs.Common.{◌≡◌, ℕ, ◌+◌, List, [], ◌∷◌, Option, Some, None, Result, refl, ap, sym, ◌∙◌}
use Rattle.fq_column.specs.Frame.{Fields, Row}
use Rattle.fq_column.specs.Stream.{Stream, then_stream, one_by_one, ended_as, rename_fault, step_on}
use Rattle.fq_column.proofs.StreamLemmas.{one_by_one-append, stream, then_stream-assoc}
use Rattle.fq_expr.specs.Steps.{apply_step, apply_steps, fields_after}
use Rattle.fq_expr.specs.Expression.{Step}

module _ {F : Type 0} where
  -- streams in a row, under other faults
  pub rename_fault-then : {G : Type 0} (name : F → G) (u v : Stream F) → rename_fault name (then_stream u v) ≡ then_stream (rename_fault name u) (rename_fault name v)
  rename_fault-then name u v = go u.rows u.fault v
    where
      go : (rs : List Row) (e : Option F) (v : Stream F) → rename_fault name (then_stream (stream rs e) v) ≡ then_stream (rename_fault name (stream rs e)) (rename_fault name v)
      go rs (Some e) v = refl
      go rs None v = refl

module _ {F : Type 0} where
  -- rows that go one by one, of streams in a row
  pub step_on-then : {G : Type 0} (step : Row → Result (List Row) G) (name : G → F) (rs : List Row) (e : Option F) (v : Stream F) →
      step_on (one_by_one step) name (then_stream (stream rs e) v) ≡ then_stream (step_on (one_by_one step) name (stream rs e)) (step_on (one_by_one step) name v)
  step_on-then step name rs (Some f) v = sym (then_stream-assoc (rename_fault name (one_by_one step rs)) (stream [] (Some f)) (step_on (one_by_one step) name v))
  step_on-then step name rs None v =
      ap (λ u. ended_as v.fault (rename_fault name u)) (one_by_one-append step rs v.rows)
      ∙ ap (ended_as v.fault) (rename_fault-then name (one_by_one step rs) (one_by_one step v.rows))
      ∙ then_stream-assoc (rename_fault name (one_by_one step rs)) (rename_fault name (one_by_one step v.rows)) (stream [] v.fault)
      ∙ sym (then_stream-assoc (rename_fault name (one_by_one step rs)) (stream [] None) (step_on (one_by_one step) name v))

  pub apply_steps-then : (overflow : ℕ → ℕ → F) (n : ℕ) (fields : Fields) (steps : List Step) (u v : Stream F) →
      apply_steps overflow n fields steps (then_stream u v) ≡ then_stream (apply_steps overflow n fields steps u) (apply_steps overflow n fields steps v)
  apply_steps-then overflow n fields [] u v = refl
  apply_steps-then overflow n fields (s ∷ steps) u v =
      ap (apply_steps overflow (n + 1) (fields_after fields s) steps) (step_on-then _ _ u.rows u.fault v)
      ∙ apply_steps-then overflow (n + 1) (fields_after fields s) steps (apply_step overflow n fields s u) (apply_step overflow n fields s v)
