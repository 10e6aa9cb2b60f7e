use Rattle.std.proofs.Common.{◌≡◌, ◌∙◌, ◌+◌, ◌-◌, Some, None, ap, inl, inr, sym}
use Rattle.fq_csv.specs.RecordScan.{RecordScanning}
use Rattle.fq_csv.specs.Scan.{Scanning, batches_left, rows_ending}
use Rattle.fq_csv.specs.declared.scanning.scans.Scan.{Scan}
use Rattle.fq_csv.specs.declared.scanning.scans.Scan.TheVariants.{End}
use Rattle.fq_csv.proofs.ScanLemmas.{batch-end, batch-next, batch-none, last-none, last-some}
use Rattle.fq_csv.proofs.scanning.scanners.Scanner.next_batch.Goals as goal

pub returns-in-Ok-clause-stream : goal.returns-in-Ok-clause-stream
returns-in-Ok-clause-stream g c = λ u e.
    let old = c.self.inside.records in
    let found = c.in-Ok-Some.ensures in
    let left : batches_left None old ≡ Some u = ap (λ f. batches_left f old) (sym c.in_default.is) ∙ ap (λ (s : Scanning). s.upcoming) c.self.view_is ∙ e in
    let size : old.run_size ≡ c.args.self.now.batch_size = ap (λ (s : Scanning). s.batch_size) c.self.view_is in
    rw (sym size)
    (batch-next old c.next_run.new.self c.in-Ok-Some.run' (rw c.in-Ok-Some.field-0-is at found.form) c.in-Ok.piece.batch c.in-Ok.piece.fault u c.in-Ok.ensures.rows.0 (λ w h. rw c.in-Ok-Some.field-0-is at (found.stream w h)) left)

pub returns-in-Err-rows_of-clause-stream : goal.returns-in-Err-rows_of-clause-stream
returns-in-Err-rows_of-clause-stream g c = λ u e.
    let old = c.self.inside.records in
    let found = c.in-Ok-Some.ensures in
    let left : batches_left None old ≡ Some u = ap (λ f. batches_left f old) (sym c.in_default.is) ∙ ap (λ (s : Scanning). s.upcoming) c.self.view_is ∙ e in
    rw c.end_of-in-Err-rows_of.ensures
    (elim c.in-Err-rows_of.ensures.none [
      | inl none ↦
          let end = batch-none old c.next_run.new.self c.in-Ok-Some.run' (rw c.in-Ok-Some.field-0-is at found.form) c.in-Err-rows_of.fault u none (λ w h. rw c.in-Ok-Some.field-0-is at (found.stream w h)) left in
          inl (end, ap Some (sym end))
      | inr memory ↦ inr (inr (ap Some memory))
    ])

pub returns-in-Ok-None-clause-stream : goal.returns-in-Ok-None-clause-stream
returns-in-Ok-None-clause-stream g c = λ u e.
    let old = c.self.inside.records in
    let left : batches_left None old ≡ Some u = ap (λ f. batches_left f old) (sym c.in_default.is) ∙ ap (λ (s : Scanning). s.upcoming) c.self.view_is ∙ e in
    let end = batch-end old c.next_run.new.self u (λ w h. rw c.in-Ok-None.field-0-is at (c.in-Ok-None.ensures.stream w h)) left in
    rw (c.end_of-in-Ok-None.ensures, c.in_default.is) (inl end)

pub returns-in-Ok-None-clause-ended : goal.returns-in-Ok-None-clause-ended
returns-in-Ok-None-clause-ended g c = λ f e.
    let inside = c.self.inside in
    let old = inside.records in
    let ending : old.ending ≡ Some f = ap (λ x. rows_ending x old.ending) (sym c.in_default.is) ∙ ap (λ (s : Scanning). s.ending) c.self.view_is ∙ e in
    let last = rw c.in-Ok-None.field-0-is at (c.in-Ok-None.ensures.ended f ending) in
    let none = last-none f last.0 in
    let file = c.file-file.ensures ∙ ap (λ (s : Scanning). s.file) c.self.view_is in
    let serial = ap (λ (s : Scanning). s.serial) c.self.view_is in (
      c.end_of-in-Ok-None.ensures ∙ (λ i. let s : Scan = End (file i) (serial i) (sym none i) in s),
      ap (λ (x : RecordScanning). let s : Scanning = record { file = x.file; layout = x.layout; batch_size = x.run_size; serial = inside.serial; room = x.taken + x.room - inside.rows; upcoming = batches_left inside.fault x; ending = rows_ending inside.fault x.ending; stopped = x.stopped } in s) last.1
          ∙ c.self.view_is,
    )

pub returns-in-Err-clause-ended : goal.returns-in-Err-clause-ended
returns-in-Err-clause-ended g c = λ f e.
    let inside = c.self.inside in
    let old = inside.records in
    let ending : old.ending ≡ Some f = ap (λ x. rows_ending x old.ending) (sym c.in_default.is) ∙ ap (λ (s : Scanning). s.ending) c.self.view_is ∙ e in
    let last = c.in-Err.ensures.ended f ending in
    let some = last-some f c.in-Err.fault last.0 in
    let file = c.file-file.ensures ∙ ap (λ (s : Scanning). s.file) c.self.view_is in
    let serial = ap (λ (s : Scanning). s.serial) c.self.view_is in (
      c.end_of-in-Err.ensures ∙ (λ i. let s : Scan = End (file i) (serial i) (sym some i) in s),
      ap (λ (x : RecordScanning). let s : Scanning = record { file = x.file; layout = x.layout; batch_size = x.run_size; serial = inside.serial; room = x.taken + x.room - inside.rows; upcoming = batches_left inside.fault x; ending = rows_ending inside.fault x.ending; stopped = x.stopped } in s) last.1
          ∙ c.self.view_is,
    )
