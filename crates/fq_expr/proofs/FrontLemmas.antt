-- Steps on a stream, one after the other.
use Rattle.std.proofs.Common.{◌≡◌, ℕ, zero, suc, ◌+◌, ◌<◌, List, [], ◌∷◌, length, map, drop, get_or, refl, ap, sym, ◌∙◌, arith, append-nil, Option, Some, None, Result, Ok, Err}
use Rattle.std.specs.Prelude.{IsOk}
use Rattle.std.specs.Option.{option_map_or}
use Rattle.std.specs.Result.{result_unwrap_or}
use Rattle.fq_column.specs.declared.faults.StepFault.{StepFault}
use Rattle.fq_column.specs.Frame.{Fields, Row}
use Rattle.fq_column.specs.Refusal.{and_then}
use Rattle.fq_column.specs.Stream.{Stream, ended_as, rename_fault, one_by_one}
use Rattle.fq_expr.specs.Expression.{Step}
use Rattle.fq_expr.specs.Kinds.{step_schema, steps_schema}
use Rattle.fq_expr.specs.Steps.{apply_steps, fields_after, rows_after}

-- the first of steps that are not refused, and those after it
pub first-step : (fields : Fields) (s : Step) (steps : List Step) → IsOk (steps_schema fields (s ∷ steps)) → IsOk (step_schema fields s)
first-step fields s steps h = go (step_schema fields s) h
  where
    go : (r : Result Fields StepFault) → IsOk (and_then r (λ after. steps_schema after steps)) → IsOk r
    go (Ok after) h = refl
    go (Err f) h = absurd (cc)

pub later-steps : (fields : Fields) (s : Step) (steps : List Step) → IsOk (steps_schema fields (s ∷ steps)) → IsOk (steps_schema (fields_after fields s) steps)
later-steps fields s steps h = go (step_schema fields s) h
  where
    go : (r : Result Fields StepFault) → IsOk (and_then r (λ after. steps_schema after steps)) → IsOk (steps_schema (result_unwrap_or r fields) steps)
    go (Ok after) h = h
    go (Err f) h = absurd (cc)

-- the steps from a place on
pub drop-map : {X Y : Type 0} (f : X → Y) (xs : List X) (i : ℕ) (x : X) → i < length xs → x ≡ get_or xs i x → drop i (map f xs) ≡ f x ∷ drop (i + 1) (map f xs)
drop-map f xs i x h e = go xs i h e ∙ ap (λ n. f x ∷ drop n (map f xs)) (let g : suc i ≡ i + 1 = omega arith in g)
  where
    go : (xs : List _) (i : ℕ) → i < length xs → x ≡ get_or xs i x → drop i (map f xs) ≡ f x ∷ drop (suc i) (map f xs)
    go [] i h e = absurd (omega (arith, h))
    go (y ∷ xs) zero h e = ap (λ z. f z ∷ map f xs) (sym e)
    go (y ∷ xs) (suc i) h e = go xs i (omega (arith, h)) e

-- the step's own fault under its name, or else the stream's
abbrev pub fault_or_end : {F : Type 0} → (ℕ → F) → Option ℕ → Option F → Option F
fault_or_end name (Some i) end = Some (name i)
fault_or_end name None end = end

pub replaced : {F : Type 0} (name : ℕ → F) (item : Option ℕ) (end : Option F) → option_map_or (λ i. Some (name i)) item end ≡ fault_or_end name item end
replaced name (Some i) end = refl
replaced name None end = refl

pub ended-step : {F : Type 0} (name : ℕ → F) (rows : List Row) (fault : Option ℕ) (end : Option F) →
    (let u : Stream F = record { rows = rows; fault = fault_or_end name fault end } in u) ≡ ended_as end (rename_fault name (let v : Stream ℕ = record { rows = rows; fault = fault } in v))
ended-step {F} name rows (Some i) end = refl
ended-step {F} name rows None end = λ j. record { rows = sym (append-nil rows) j; fault = end }

-- one step more
pub stream-step : {F : Type 0} (overflow : ℕ → ℕ → F) (n : ℕ) (fields after : Fields) (s : Step) (steps : List Step) (rows rows' : List Row) (end end' : Option F) (item : Option ℕ) →
    after ≡ fields_after fields s → rows' ≡ (one_by_one (rows_after fields s) rows).rows → item ≡ (one_by_one (rows_after fields s) rows).fault → end' ≡ fault_or_end (overflow n) item end →
    apply_steps overflow (n + 1) after steps (record { rows = rows'; fault = end' }) ≡ apply_steps overflow n fields (s ∷ steps) (record { rows = rows; fault = end })
stream-step overflow n fields after s steps rows rows' end end' item a r i e =
    let v = one_by_one (rows_after fields s) rows in
    (λ j. apply_steps overflow (n + 1) (a j) steps (record { rows = r j; fault = (e ∙ ap (λ o. fault_or_end (overflow n) o end) i) j }))
    ∙ ap (apply_steps overflow (n + 1) (fields_after fields s) steps) (ended-step (overflow n) v.rows v.fault end)
