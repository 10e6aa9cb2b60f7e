-- Totals of rows that come in batches.
use Rattle.std.proofs.Common.{◌≡◌, ℕ, ◌+◌, ◌++◌, List, [], ◌∷◌, Option, Some, None, refl, ap, sym, subst, ◌∙◌}
use Rattle.std.specs.Prelude.{is_some, if◌then◌else◌, option_map}
use Rattle.fq_column.specs.Frame.{Fields, Frame, Row}
use Rattle.fq_column.specs.Stream.{Stream, done, then_stream}
use Rattle.fq_csv.specs.File.{file_stream, plain}
use Rattle.fq_csv.specs.declared.faults.ScanFault.{ScanFault}
use Rattle.fq_csv.specs.declared.cells.layouts.Layout.{Layout}
use Rattle.fq_expr.specs.declared.fronts.RowFault.{RowFault}
use Rattle.fq_expr.specs.Expression.{Step}
use Rattle.fq_expr.specs.Front.{NumberedSteps, fault_at}
use Rattle.fq_expr.specs.Steps.{apply_steps, fields_after}
use Rattle.fq_ops.specs.Grouped.{Grouped, HasTakenRows}
use Rattle.region_totals.specs.Report.{group_keys, group_outputs, orders, order_steps}
use Rattle.region_totals.specs.Totals.{AreTotals, HasTotals, stepped}

-- two streams joined, of which the first has no fault
pub then_stream-done : {F : Type 0} (u v : Stream F) → u.fault ≡ None → then_stream u v ≡ (let w : Stream F = record { rows = u.rows ++ v.rows; fault = v.fault } in w)
then_stream-done {F = F} u v e = ap (λ (f : Option F). if is_some f then u else (let w : Stream F = record { rows = u.rows ++ v.rows; fault = v.fault } in w)) e

-- steps on no row
pub stepped-none : (n : ℕ) (fields : Fields) (steps : List Step) → apply_steps fault_at n fields steps (done []) ≡ done []
stepped-none n fields [] = refl
stepped-none n fields (s ∷ steps) = stepped-none (n + 1) (fields_after fields s) steps

-- before the first batch
pub totals-none : (front : NumberedSteps) (grouper : Grouped) → HasTakenRows grouper group_keys group_outputs [] → HasTotals front grouper []
totals-none front grouper taken =
    let none = stepped-none front.first front.fields front.steps in
    let P : Stream RowFault → Type 0 = λ u. HasTakenRows grouper group_keys group_outputs u.rows in
    record {
      no_fault = ap (λ (u : Stream RowFault). u.fault) none;
      taken = subst P (sym none) taken;
    }

-- after one more batch, of whose rows the steps made these
pub totals-more : (front : NumberedSteps) (old new : Grouped) (rows more made : List Row) →
    stepped front (rows ++ more) ≡ then_stream (stepped front rows) (stepped front more) →
    made ≡ (stepped front more).rows → (stepped front more).fault ≡ None →
    (HasTakenRows old group_keys group_outputs (stepped front rows).rows → HasTakenRows new group_keys group_outputs ((stepped front rows).rows ++ made)) →
    HasTotals front old rows → HasTotals front new (rows ++ more)
totals-more front old new rows more made law same whole take h =
    let joined = law ∙ then_stream-done (stepped front rows) (stepped front more) h.no_fault in
    let P : Stream RowFault → Type 0 = λ u. HasTakenRows new group_keys group_outputs u.rows in
    let Q : List Row → Type 0 = λ m. HasTakenRows new group_keys group_outputs ((stepped front rows).rows ++ m) in
    record {
      no_fault = ap (λ (u : Stream RowFault). u.fault) joined ∙ whole;
      taken = subst P (sym joined) (subst Q same (take h.taken));
    }

-- the totals of a file, by those of the stream that a scanner has still to hand out
pub totals-of-file : (front : NumberedSteps) (columns : Fields) (nulls : List (List ℕ)) (limit : ℕ) (bytes : List ℕ) (remaining : Option (List ℕ)) (upcoming : Option (Stream ScanFault)) (frame : Frame) →
    columns ≡ orders → nulls ≡ [] → front ≡ record order_steps { fields = columns } →
    upcoming ≡ option_map (file_stream 0 (record { schema = columns; nulls = nulls; notations = []; projection = [] }) limit) remaining → remaining ≡ Some bytes →
    ((u : Stream ScanFault) → upcoming ≡ Some u → AreTotals front u frame) → AreTotals order_steps (file_stream 0 (plain orders) limit bytes) frame
totals-of-file front columns nulls limit bytes remaining upcoming frame same none steps stream known are =
    let front-is : front ≡ order_steps = steps ∙ ap (λ (c : Fields). let p : NumberedSteps = record order_steps { fields = c } in p) same in
    let layout-is : (let l : Layout = record { schema = columns; nulls = nulls; notations = []; projection = [] } in l) ≡ plain orders =
    ap (λ (n : List (List ℕ)). let l : Layout = record { schema = columns; nulls = n; notations = []; projection = [] } in l) none ∙ ap plain same in
    let upcoming-is = stream ∙ ap (option_map (file_stream 0 (record { schema = columns; nulls = nulls; notations = []; projection = [] }) limit)) known ∙ ap (λ (l : Layout). Some (file_stream 0 l limit bytes)) layout-is in
    let P : NumberedSteps → Type 0 = λ p. AreTotals p (file_stream 0 (plain orders) limit bytes) frame in
    subst P front-is (are (file_stream 0 (plain orders) limit bytes) upcoming-is)
