-- What operators make of a stream.
use Rattle.std.proofs.Common.{◌≡◌, ℕ, suc, ◌+◌, ◌≤◌, nat_lt, false, not, List, [], ◌∷◌, map, length, take, zip, Option, Some, None, is_none, Result, Ok, Err, pos, refl, ap, sym, ◌∙◌, arith, append-nil}
use Rattle.std.specs.Prelude.{IsOk, option_map}
use Rattle.std.specs.Option.{option_or}
use Rattle.std.specs.Result.{result_unwrap_or}
use Rattle.std.proofs.lemmas.List.{length-map}
use Rattle.std.proofs.lemmas.Bool.Decides.{nat_tests}
use Rattle.std.proofs.lemmas.Bool.{not-false}
use Rattle.std.proofs.lemmas.List.FromFn.{length-range_with_len}
use Rattle.fq_column.specs.declared.cells.Cell.{Cell}
use Rattle.fq_column.specs.declared.cells.Kind.{Kind}
use Rattle.fq_column.specs.declared.cells.Kind.TheVariants.{Whole}
use Rattle.fq_column.specs.declared.faults.StepFault.{StepFault}
use Rattle.fq_column.specs.declared.faults.StepFault.TheVariants.{WrongKind, Window, Samples, TooMany}
use Rattle.fq_column.specs.Batch.{row_with}
use Rattle.fq_column.specs.Cell.{same_kind}
use Rattle.fq_column.specs.Frame.{Fields, Name, Row, put_named, value_named}
use Rattle.fq_column.specs.Lists.{zip_with, before_missing, first_missing, numbers}
use Rattle.fq_column.specs.Refusal.{and_then, first_refusal, refuse_if, unless_refused}
use Rattle.fq_column.specs.Schema.{kind_named}
use Rattle.fq_column.specs.SchemaLaws.{same_kind_decides}
use Rattle.fq_column.specs.Stream.{Stream, done, then_stream, ended_as, one_by_one, rename_fault}
use Rattle.fq_column.proofs.PutLemmas.{position-cons}
use Rattle.fq_expr.specs.Expression.{Step}
use Rattle.fq_expr.specs.Front.{fault_at}
use Rattle.fq_expr.specs.Kinds.{step_schema, steps_schema}
use Rattle.fq_expr.specs.Steps.{apply_steps, fields_after, fields_after_all}
use Rattle.fq_expr.specs.declared.fronts.RowFault.{RowFault}
use Rattle.fq_expr.proofs.StepLemmas.{apply_steps-then}
use Rattle.fq_ops.specs.Roll.{roll_schema, rolled, rolled_at, is_from_to, with_sum}
use Rattle.fq_ops.proofs.RefusalLemmas.{accepted, none-first}
use Rattle.fq_run.specs.Sources.{row_fault}
use Rattle.fq_run.specs.declared.faults.Fault.{Fault}
use Rattle.fq_run.specs.declared.faults.Fault.TheVariants.{Overflow}
use Rattle.fq_run.proofs.LeadingStepLemmas.{rename_fault-apply_steps}
use Rattle.fq_column.specs.declared.schemas.TheConstants.{MAX_COLUMNS}
use Rattle.fq_ops.specs.declared.rolls.TheConstants.{MAX_WINDOW}

-- ---- a step that goes row by row, on a stream

-- the step's own fault, or else the stream's
pub ended-stream : {F : Type 0} (v : Stream F) (end : Option F) → record { rows = v.rows; fault = option_or v.fault end } ≡ ended_as end v
ended-stream {F} v end = go v.rows v.fault
  where
    go : (rows : List Row) (fault : Option F) → record { rows = rows; fault = option_or fault end } ≡ ended_as end (record { rows = rows; fault = fault })
    go rows None = ap (λ (l : List Row). record { rows = l; fault = end }) (sym (append-nil rows))
    go rows (Some f) = refl

-- ---- row-wise steps

pub apply_steps-none : (n : ℕ) (fields : Fields) (steps : List Step) (end : Option Fault) → apply_steps Overflow n fields steps (record { rows = []; fault = end }) ≡ record { rows = []; fault = end }
apply_steps-none n fields [] end = refl
apply_steps-none n fields (s ∷ steps) end = apply_steps-none (n + 1) (fields_after fields s) steps end

-- a stream is its rows and then its end
pub rows-then-end : {F : Type 0} (u : Stream F) → then_stream (done u.rows) (record { rows = []; fault = u.fault }) ≡ u
rows-then-end u = λ i. record { rows = append-nil u.rows i; fault = u.fault }

pub steps-on-stream : (n : ℕ) (fields : Fields) (steps : List Step) (u : Stream Fault) (rows : List Row) (fault : Option RowFault) →
    rows ≡ (apply_steps fault_at n fields steps (done u.rows)).rows → fault ≡ (apply_steps fault_at n fields steps (done u.rows)).fault →
    record { rows = rows; fault = option_or (option_map row_fault fault) u.fault } ≡ apply_steps Overflow n fields steps u
steps-on-stream n fields steps u rows fault e f =
    (λ i. record { rows = e i; fault = option_or (option_map row_fault (f i)) u.fault })
    ∙ ended-stream (rename_fault row_fault (apply_steps fault_at n fields steps (done u.rows))) u.fault
    ∙ (λ i. then_stream (rename_fault-apply_steps fault_at row_fault n fields steps (done u.rows) i) (sym (apply_steps-none n fields steps u.fault) i))
    ∙ sym (apply_steps-then Overflow n fields steps (done u.rows) (record { rows = []; fault = u.fault }))
    ∙ ap (apply_steps Overflow n fields steps) (rows-then-end u)

-- ---- rolling sums

pub record RollAccepted (fields : Fields) (column : Name) (window min_samples : ℕ) (name : Name) : Type 0 where
  pub kind : kind_named fields column ≡ Ok Whole
  pub room : length (put_named fields (name, Whole)) ≤ MAX_COLUMNS

pub roll-accepted : (fields : Fields) (column : Name) (window min_samples : ℕ) (name : Name) → IsOk (roll_schema fields column (pos window) (pos min_samples) name) →
    RollAccepted fields column window min_samples name
roll-accepted fields column window min_samples name ok = go (kind_named fields column) refl ok
  where
    room_checks : List (Option StepFault)
    room_checks = refuse_if (nat_lt MAX_COLUMNS (length (put_named fields (name, Whole)))) TooMany ∷ []

    sample_checks : List (Option StepFault)
    sample_checks = refuse_if (not (is_from_to (pos 1) (pos window) (pos min_samples))) Samples ∷ room_checks

    window_checks : List (Option StepFault)
    window_checks = refuse_if (not (is_from_to (pos 1) (pos MAX_WINDOW) (pos window))) Window ∷ sample_checks

    kind_checks : Kind → List (Option StepFault)
    kind_checks k = refuse_if (not (same_kind k Whole)) WrongKind ∷ window_checks

    not_more : (n : ℕ) → nat_lt MAX_COLUMNS n ≡ false → n ≤ MAX_COLUMNS
    not_more n e = grind (arith, nat_tests)

    go : (r : Result Kind StepFault) → kind_named fields column ≡ r → IsOk (and_then r (λ k. unless_refused (kind_checks k) (put_named fields (name, Whole)))) → RollAccepted fields column window min_samples name
    go (Err f) e h = absurd (grind arith)
    go (Ok k) e h =
        let none : first_refusal (kind_checks k) ≡ None = accepted (kind_checks k) (put_named fields (name, Whole)) h in
        let a = none-first (not (same_kind k Whole)) WrongKind window_checks none in
        let b = none-first (not (is_from_to (pos 1) (pos MAX_WINDOW) (pos window))) Window sample_checks a.1 in
        let c = none-first (not (is_from_to (pos 1) (pos window) (pos min_samples))) Samples room_checks b.1 in
        let d = none-first (nat_lt MAX_COLUMNS (length (put_named fields (name, Whole)))) TooMany [] c.1 in
        let whole : k ≡ Whole = (same_kind_decides k Whole).0 (not-false (same_kind k Whole) a.0) in
        record { kind = e ∙ (λ i. Ok (whole i)); room = not_more (length (put_named fields (name, Whole))) d.0 }

there-later : (o : Option ℕ) → option_map (λ (_ : ℕ). let t : Unit {0} = tt in t) (option_map suc o) ≡ option_map (λ (_ : ℕ). let t : Unit {0} = tt in t) o
there-later None = refl
there-later (Some n) = refl

-- rows with the sums that there are, up to the first that does not fit
pub with-sums : (fields : Fields) (name : Name) (sums : List (Option Cell)) (rows : List Row) → length sums ≡ length rows →
    one_by_one (λ (p : Row × Option Cell). with_sum fields name p.0 p.1) (zip rows sums)
    ≡ record { rows = zip_with (row_with fields name) (take (length (before_missing sums)) rows) (before_missing sums); fault = option_map (λ _. tt) (first_missing sums) }
with-sums fields name [] [] e = refl
with-sums fields name [] (r ∷ rows) e = absurd (omega (arith, e))
with-sums fields name (o ∷ sums) [] e = absurd (omega (arith, e))
with-sums fields name (None ∷ sums) (r ∷ rows) e = ap (λ (o : Option ℕ). record { rows = []; fault = option_map (λ _. tt) o }) (sym (position-cons is_none None sums))
with-sums fields name (Some c ∷ sums) (r ∷ rows) e =
    ap (then_stream (done (row_with fields name r c ∷ []))) (with-sums fields name sums rows (omega (arith, e)))
    ∙ (λ i. record { rows = row_with fields name r c ∷ zip_with (row_with fields name) (take (length (before_missing sums)) rows) (before_missing sums); fault = (sym (there-later (first_missing sums)) ∙ ap (option_map (λ _. tt)) (sym (position-cons is_none (Some c) sums))) i })

abbrev pub sums_of : Fields → Name → ℕ → ℕ → List Row → List (Option Cell)
sums_of fields column n m rows = rolled n m (map (value_named fields column) rows)

pub length-sums : (fields : Fields) (column : Name) (n m : ℕ) (rows : List Row) → length (sums_of fields column n m rows) ≡ length rows
length-sums fields column n m rows =
    let cells = map (value_named fields column) rows in
    length-map (numbers (length cells)) (rolled_at n m cells) ∙ length-range_with_len 0 (length cells) ∙ length-map rows (value_named fields column)

pub length-before : (sums : List (Option Cell)) → length (before_missing sums) ≤ length sums
length-before [] = omega arith
length-before (None ∷ sums) = omega arith
length-before (Some c ∷ sums) = omega (arith, length-before sums)

-- the columns after row-wise steps that are not refused
pub fields-after-all : (fields after : Fields) (steps : List Step) → steps_schema fields steps ≡ Ok after → fields_after_all fields steps ≡ after
fields-after-all fields after [] e = cc
fields-after-all fields after (s ∷ steps) e = go (step_schema fields s) refl e (λ f h. fields-after-all f after steps h)
  where
    go : (r : Result Fields StepFault) → step_schema fields s ≡ r → and_then r (λ f. steps_schema f steps) ≡ Ok after → ((f : Fields) → steps_schema f steps ≡ Ok after → fields_after_all f steps ≡ after) →
        fields_after_all (result_unwrap_or (step_schema fields s) fields) steps ≡ after
    go (Err f) e h rest = absurd (cc)
    go (Ok f) e h rest = ap (λ (r : Result Fields StepFault). fields_after_all (result_unwrap_or r fields) steps) e ∙ rest f h
