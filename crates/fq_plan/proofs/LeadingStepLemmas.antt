-- Leading row-wise steps before the others, and the items of a file.
use Rattle.std.proofs.Common.{◌≡◌, ℕ, suc, ◌+◌, ◌<◌, List, [], ◌∷◌, ◌++◌, map, length, flat_map, Option, Some, None, Err, refl, ap, sym, ◌∙◌, arith, append-nil}
use Rattle.fq_column.specs.Frame.{Fields, Frame, Row}
use Rattle.fq_column.specs.Lists.{pieces}
use Rattle.fq_column.proofs.PieceLemmas.{flat_map-pieces}
use Rattle.fq_column.specs.Stream.{Stream, done, then_stream}
use Rattle.fq_expr.specs.Steps.{apply_step, apply_steps, fields_after, fields_after_all}
use Rattle.fq_expr.specs.Expression.{Step}
use Rattle.fq_plan.specs.Meaning.{apply_plan_steps, meaning_of_sources}
use Rattle.fq_language.specs.Plan.{PlanStep, row_wise, join, group_by, rolling_sum, PlanData, front_of, rest_of, main_fields}
use Rattle.fq_plan.specs.Tail.{finished, items_of, last_item, reading}
use Rattle.fq_run.specs.Outcome.{frame_or_fault}
use Rattle.fq_run.specs.Physical.{after_leading}
use Rattle.fq_csv.specs.Sources.{but_last}
use Rattle.fq_run.specs.Sources.{concat_streams, first_fault, frames_of}
use Rattle.fq_run.specs.declared.faults.Fault.{Fault}
use Rattle.fq_run.specs.declared.faults.Fault.TheVariants.{Overflow}
use Rattle.fq_run.proofs.LeadingStepLemmas.{concat_streams-append}

pub leading-steps : (sides : List Frame) (n : ℕ) (fields : Fields) (front : List Step) (rest : List PlanStep) (u : Stream Fault) →
    apply_plan_steps sides n fields (map row_wise front ++ rest) u
    ≡ apply_plan_steps sides (n + length front) (fields_after_all fields front) rest (apply_steps Overflow n fields front u)
leading-steps sides n fields [] rest u = ap (λ m. apply_plan_steps sides m fields rest u) (let e : n ≡ n + 0 = omega arith in e)
leading-steps sides n fields (s ∷ front) rest u =
    leading-steps sides (n + 1) (fields_after fields s) front rest (apply_step Overflow n fields s u)
    ∙ ap (λ m. apply_plan_steps sides m (fields_after_all fields (s ∷ front)) rest (apply_steps Overflow n fields (s ∷ front) u)) (let e : n + 1 + length front ≡ n + suc (length front) = omega arith in e)

pub front-rest : (steps : List PlanStep) → map row_wise (front_of steps) ++ rest_of steps ≡ steps
front-rest [] = refl
front-rest (row_wise s ∷ steps) = ap (λ rest. row_wise s ∷ rest) (front-rest steps)
front-rest (join source on how nulls_equal ∷ steps) = refl
front-rest (group_by keys aggs ∷ steps) = refl
front-rest (rolling_sum column window m name ∷ steps) = refl

module _ {F : Type 0} where
  concat_streams-done : (ps : List (List Row)) → concat_streams (map (done {F = F}) ps) ≡ done (flat_map (λ p. p) ps)
  concat_streams-done [] = refl
  concat_streams-done (p ∷ ps) = ap (then_stream (done p)) (concat_streams-done ps)

  then-last_item : (rows : List Row) (end : Option F) → then_stream (done rows) (concat_streams (last_item end)) ≡ record { rows = rows; fault = end }
  then-last_item rows None = ap (λ rs. done rs) (append-nil rows)
  then-last_item rows (Some f) = ap (λ rs. record { rows = rs; fault = Some f }) (append-nil rows)

  pub concat_streams-items : (b : ℕ) (u : Stream F) → 0 < b → concat_streams (items_of b u) ≡ u
  concat_streams-items b u h =
      concat_streams-append (map done (pieces b u.rows)) (last_item u.fault)
      ∙ ap (λ v. then_stream v (concat_streams (last_item u.fault))) (concat_streams-done (pieces b u.rows) ∙ ap (λ rs. done rs) (flat_map-pieces b u.rows h))
      ∙ then-last_item u.rows u.fault

-- the meaning is what the other steps make of worked items that join to the main source's rows after the leading steps
pub finished-worked : (p : PlanData) (sides us items : List (Stream Fault)) → concat_streams items ≡ after_leading (reading p) (concat_streams us) →
    finished p sides items ≡ meaning_of_sources p sides (concat_streams us)
finished-worked p sides us items same =
    let frames : List Frame = frames_of (but_last p.sources) sides in
    let fields : Fields = main_fields p in
    let front : List Step = front_of p.steps in
    let rest : List PlanStep = rest_of p.steps in
    ap (λ r. elim (first_fault sides) [ Some f ↦ Err f | None ↦ frame_or_fault r.0 r.1 ])
    (ap (apply_plan_steps frames (length front) (fields_after_all fields front) rest) same
    ∙ ap (λ m. apply_plan_steps frames m (fields_after_all fields front) rest (apply_steps Overflow 0 fields front (concat_streams us))) (let e : length front ≡ 0 + length front = omega arith in e)
    ∙ sym (leading-steps frames 0 fields front rest (concat_streams us))
    ∙ ap (λ steps. apply_plan_steps frames 0 fields steps (concat_streams us)) (front-rest p.steps))
