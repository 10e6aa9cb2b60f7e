-- The rows of a stream of records, run by run.
use Rattle.std.specs.Prelude.{nat_lt, option_map, Result}
use Rattle.std.proofs.Common.{◌≡◌, ◌≤◌, ◌+◌, ◌-◌, ◌++◌, ◌⊎◌, inl, inr, ◌∙◌, ℕ, suc, List, [], ◌∷◌, false, Option, Some, None, Ok, Err, length, take, drop, refl, sym, ap, subst, arith}
use Rattle.std.proofs.lemmas.Bool.{cases_Bool}
use Rattle.std.proofs.lemmas.List.{append-nil, drop_all, length-take, length-take-le, take-append-drop, take_all}
use Rattle.std.specs.Cmp.Lexicographic.{pointwise}
use Rattle.std.proofs.Math.Seq.{drop-append_seam, take-append_seam}
use Rattle.fq_column.specs.Frame.{Frame, Row, names_of, same_name}
use Rattle.fq_column.specs.Stream.{Stream, done, then_stream}
use Rattle.fq_column.proofs.StreamLemmas.{then_stream-assoc}
use Rattle.csv.specs.Reading.{default_config, records, strip_bom}
use Rattle.fq_csv.specs.File.{Record, file_stream, row_of, rows_after, rows_under_header}
use Rattle.fq_csv.specs.RecordScan.{IsNextRun, RecordScanning, last_run}
use Rattle.fq_csv.specs.Records.{IsOfText}
use Rattle.fq_csv.specs.Scan.{Scanning, batches_left, rows_ending}
use Rattle.fq_csv.specs.Stage.{ended, without}
use Rattle.fq_csv.specs.Taking.{FieldRun, HasNoRow, ReadsRun, RecordStream, over, record_fault, records_after, record_stream, records_under_header, rows_of_records, without_records}
use Rattle.fq_csv.specs.declared.faults.ScanFault.{ScanFault}
use Rattle.fq_csv.specs.declared.cells.layouts.Layout.{Layout}
use Rattle.fq_csv.specs.declared.faults.ScanFault.TheVariants.{TooLong}
use Rattle.fq_csv.proofs.BlockLemmas.{le-or-lt}
use Rattle.fq_csv.proofs.RecordLemmas.{mapped, option-case}
use Rattle.fq_csv.proofs.HeldRowLemmas.{no-item}
use Rattle.fq_csv.proofs.FileStreamLemmas.{after-fault, after-rows}
use Rattle.fq_csv.proofs.TakingLemmas.{fault-first, record-first}

result-case : {A E : Type 0} (r : Result A E) → ((x : A) × (r ≡ Ok x)) ⊎ ((e : E) × (r ≡ Err e))
result-case (Ok x) = inl (x, refl)
result-case (Err e) = inr (e, refl)

-- ---- the rows of records are those of the records that may be rows

module _ (file : ℕ) (layout : Layout) (limit : ℕ) where
  -- a fault that shows without a cell
  fault-of-row : (n : ℕ) (r : Record) (fault : ScanFault) → record_fault file limit n ≡ Some fault → row_of file layout limit n r ≡ Err fault
  fault-of-row n r fault e =
      elim (cases_Bool (nat_lt limit n)) [
        | inl t ↦ let s : TooLong file ≡ fault = (let q = rw t at e in cc q) in rw t (ap Err s)
        | inr f ↦ let q = rw f at e in cc q
      ]

  pub rows-split : (n : ℕ) (xs ys : List Record) → rows_after file layout limit n (xs ++ ys) ≡ then_stream (rows_after file layout limit n xs) (rows_after file layout limit (n + length xs) ys)
  rows-split n [] ys = ap (λ k. rows_after file layout limit k ys) (let z : n ≡ n + 0 = omega arith in z)
  rows-split n (x ∷ xs) ys =
      elim (result-case (row_of file layout limit (n + 1) x)) [
        | inl (rows, e) ↦
            after-rows file layout limit n x (xs ++ ys) rows e
            ∙ ap (then_stream (done rows)) (rows-split (n + 1) xs ys)
            ∙ sym (then_stream-assoc (done rows) (rows_after file layout limit (n + 1) xs) (rows_after file layout limit (n + 1 + length xs) ys))
            ∙ ap (λ u. then_stream u (rows_after file layout limit (n + 1 + length xs) ys)) (sym (after-rows file layout limit n x xs rows e))
            ∙ ap (λ k. then_stream (rows_after file layout limit n (x ∷ xs)) (rows_after file layout limit k ys)) (let z : n + 1 + length xs ≡ n + suc (length xs) = omega arith in z)
        | inr (fault, e) ↦
            after-fault file layout limit n x (xs ++ ys) fault e
            ∙ ap (λ u. then_stream u (rows_after file layout limit (n + suc (length xs)) ys)) (sym (after-fault file layout limit n x xs fault e))
      ]

  pub rows-of-records : (n : ℕ) (rs : List Record) → rows_after file layout limit n rs ≡ rows_of_records file layout limit n (records_after file limit n rs)
  rows-of-records n [] = refl
  rows-of-records n (r ∷ rs) =
      elim (option-case (record_fault file limit (n + 1))) [
        | inr (fault, e) ↦
            after-fault file layout limit n r rs fault (fault-of-row (n + 1) r fault e)
            ∙ ap (rows_of_records file layout limit n) (sym (fault-first file limit n r rs fault e))
        | inl e ↦
            let u = records_after file limit (n + 1) rs in
            elim (result-case (row_of file layout limit (n + 1) r)) [
              | inl (rows, g) ↦
                  after-rows file layout limit n r rs rows g
                  ∙ ap (then_stream (done rows)) (rows-of-records (n + 1) rs)
                  ∙ sym (then_stream-assoc (done rows) (rows_after file layout limit (n + 1) u.records) (ended u.fault))
                  ∙ ap (λ v. then_stream v (ended u.fault)) (sym (after-rows file layout limit n r u.records rows g))
              | inr (fault, g) ↦
                  after-fault file layout limit n r rs fault g
                  ∙ ap (λ v. then_stream v (ended u.fault)) (sym (after-fault file layout limit n r u.records fault g))
            ]
            ∙ ap (rows_of_records file layout limit n) (sym (record-first file limit n r rs e))
      ]

  pub rows-under-header : (rs : List Record) → rows_under_header file layout limit rs ≡ rows_of_records file layout limit 0 (records_under_header file layout.schema limit rs)
  rows-under-header [] = refl
  rows-under-header (r ∷ rs) = elim (cases_Bool (pointwise same_name (names_of layout.schema) r)) [
    | inl t ↦ rw t (rows-of-records 0 rs)
    | inr f ↦ rw f refl
  ]

-- ---- one run

cut-here : (size : ℕ) (xs ys : List Row) → (length xs ≡ size) ⊎ ((length xs ≤ size) × (ys ≡ [])) → (take size (xs ++ ys) ≡ xs) × (drop size (xs ++ ys) ≡ ys)
cut-here size xs ys (inl e) = (ap (λ n. take n (xs ++ ys)) (sym e) ∙ take-append_seam xs ys, ap (λ n. drop n (xs ++ ys)) (sym e) ∙ drop-append_seam xs ys)
cut-here size xs ys (inr (few, none)) = rw (none, append-nil xs) (take_all size xs few, drop_all size xs few)

-- what is left of the rows after a run
abbrev pub rest_after : FieldRun → ℕ → ℕ → RecordStream → Option ScanFault → Stream ScanFault
rest_after run limit size u None = rows_of_records run.file run.layout limit (run.before + length run.records) (without_records size u)
rest_after run limit size u (Some fault) = ended (Some fault)

module _ (run : FieldRun) (limit size : ℕ) (u : RecordStream) (next : run.records ≡ take size u.records) (room : run.before + length run.records ≤ limit) where
  split : rows_of_records run.file run.layout limit run.before u ≡ then_stream (rows_after run.file run.layout limit run.before run.records) (rows_of_records run.file run.layout limit (run.before + length run.records) (without_records size u))
  split =
      let rest = drop size u.records in
      let at = run.before + length run.records in
      let all : u.records ≡ run.records ++ rest = sym (ap (λ xs. xs ++ rest) next ∙ take-append-drop size u.records) in
      ap (λ rs. then_stream (rows_after run.file run.layout limit run.before rs) (ended u.fault)) all
      ∙ ap (λ v. then_stream v (ended u.fault)) (rows-split run.file run.layout limit run.before run.records rest)
      ∙ then_stream-assoc (rows_after run.file run.layout limit run.before run.records) (rows_after run.file run.layout limit at rest) (ended u.fault)

  -- there are as many rows as are wanted, or no record is left
  short : (batch : Frame) → length batch.rows ≡ length run.records
      → (length batch.rows ≡ size) ⊎ ((length batch.rows ≤ size) × ((rows_of_records run.file run.layout limit (run.before + length run.records) (without_records size u)).rows ≡ []))
  short batch many = elim (le-or-lt size (length u.records)) [
    | inl l ↦ inl (omega (arith, many, ap length next, length-take-le size u.records l))
    | inr l ↦ inr (
      omega (arith, many, ap length next, length-take size u.records, l),
      ap (λ rs. (rows_of_records run.file run.layout limit (run.before + length run.records) (let v : RecordStream = record { records = rs; fault = u.fault } in v)).rows) (drop_all size u.records (omega (arith, l))),
    )
  ]

  pub next-rows : (batch : Frame) (fault : Option ScanFault) → ReadsRun run batch fault
      → (batch.rows ≡ take size (rows_of_records run.file run.layout limit run.before u).rows) × (rest_after run limit size u fault ≡ without size (rows_of_records run.file run.layout limit run.before u))
  next-rows batch None r =
      let rest = rows_of_records run.file run.layout limit (run.before + length run.records) (without_records size u) in
      let whole : rows_of_records run.file run.layout limit run.before u ≡ then_stream (done batch.rows) rest = split ∙ ap (λ v. then_stream v rest) (r.stream limit room) in
      let many : length batch.rows ≡ length run.records = r.all refl in
      let here = cut-here size batch.rows rest.rows (short batch many) in
      rw whole (sym here.0, sym (ap (λ rs. let v : Stream ScanFault = record { rows = rs; fault = rest.fault } in v) here.1))
  next-rows batch (Some fault) r =
      let rest = rows_of_records run.file run.layout limit (run.before + length run.records) (without_records size u) in
      let whole : rows_of_records run.file run.layout limit run.before u ≡ record { rows = batch.rows; fault = Some fault } = split ∙ ap (λ v. then_stream v rest) (r.stream limit room) in
      let few : length batch.rows ≤ size = omega (arith, r.fewer, ap length next, length-take size u.records) in
      rw whole (sym (take_all size batch.rows few), sym (ap (λ rs. let v : Stream ScanFault = record { rows = rs; fault = Some fault } in v) (drop_all size batch.rows few)))

  pub no-row : (fault : ScanFault) → HasNoRow run fault → rows_of_records run.file run.layout limit run.before u ≡ ended (Some fault)
  no-row fault h = split ∙ ap (λ v. then_stream v (rows_of_records run.file run.layout limit (run.before + length run.records) (without_records size u))) (h.stream limit room)

-- ---- one call of a scanner

what-comes : (old : RecordScanning) (u : Stream ScanFault) → batches_left None old ≡ Some u
    → (w : RecordStream) × (old.upcoming ≡ Some w) × (u ≡ rows_of_records old.file old.layout (old.taken + old.room) old.taken w)
what-comes old u e = mapped (rows_of_records old.file old.layout (old.taken + old.room) old.taken) old.upcoming u e

module _ (old new : RecordScanning) (run : FieldRun) (form : IsNextRun old run new) where
  under-run : (w : RecordStream) → rows_of_records old.file old.layout (old.taken + old.room) old.taken w ≡ rows_of_records run.file run.layout (old.taken + old.room) run.before w
  under-run w i = rows_of_records (sym form.number i) (sym form.layout i) (old.taken + old.room) (sym form.place i) w

  room : run.before + length run.records ≤ old.taken + old.room
  room = omega (arith, form.place, form.in_room)

  rest-left : (w : RecordStream) (fault : Option ScanFault) → new.upcoming ≡ Some (without_records old.run_size w) → batches_left fault new ≡ Some (rest_after run (old.taken + old.room) old.run_size w fault)
  rest-left w None e =
      let limit : new.taken + new.room ≡ old.taken + old.room = omega (arith, form.counted, form.in_room) in
      let at : new.taken ≡ run.before + length run.records = omega (arith, form.counted, form.place) in
      let file : new.file ≡ run.file = form.same.file ∙ sym form.number in
      let layout : new.layout ≡ run.layout = form.same.layout ∙ sym form.layout in
      ap (option_map (rows_of_records new.file new.layout (new.taken + new.room) new.taken)) e
      ∙ (λ i. Some (rows_of_records (file i) (layout i) (limit i) (at i) (without_records old.run_size w)))
  rest-left w (Some fault) e = refl

  pub batch-next : (batch : Frame) (fault : Option ScanFault) (u : Stream ScanFault) → ReadsRun run batch fault
      → ((w : RecordStream) → old.upcoming ≡ Some w → (run.records ≡ take old.run_size w.records) × (new.upcoming ≡ Some (without_records old.run_size w)))
      → batches_left None old ≡ Some u → (batch.rows ≡ take old.run_size u.rows) × (batches_left fault new ≡ Some (without old.run_size u))
  batch-next batch fault u reads hands e =
      let m = what-comes old u e in
      let h = hands m.0 m.1 in
      let same = m.2 ∙ under-run m.0 in
      let r = next-rows run (old.taken + old.room) old.run_size m.0 h.0 room batch fault reads in (
        r.0 ∙ ap (λ (v : Stream ScanFault). take old.run_size v.rows) (sym same),
        rest-left m.0 fault h.1 ∙ ap Some (r.1 ∙ ap (without old.run_size) (sym same)),
      )

  pub batch-none : (fault : ScanFault) (u : Stream ScanFault) → HasNoRow run fault
      → ((w : RecordStream) → old.upcoming ≡ Some w → (run.records ≡ take old.run_size w.records) × (new.upcoming ≡ Some (without_records old.run_size w)))
      → batches_left None old ≡ Some u → u ≡ ended (Some fault)
  batch-none fault u none hands e =
      let m = what-comes old u e in
      let h = hands m.0 m.1 in
      m.2 ∙ under-run m.0 ∙ no-row run (old.taken + old.room) old.run_size m.0 h.0 room fault none

pub batch-end : (old new : RecordScanning) (u : Stream ScanFault) → ((w : RecordStream) → old.upcoming ≡ Some w → (w ≡ over None) × (new.upcoming ≡ Some w))
    → batches_left None old ≡ Some u → (u ≡ ended None) × (batches_left None new ≡ Some u)
batch-end old new u hands e =
    let m = what-comes old u e in
    let h = hands m.0 m.1 in
    let end : u ≡ ended None = m.2 ∙ ap (rows_of_records old.file old.layout (old.taken + old.room) old.taken) h.0 in (
      end,
      ap (option_map (rows_of_records new.file new.layout (new.taken + new.room) new.taken)) (h.1 ∙ ap Some h.0) ∙ ap Some (sym end),
    )

-- an answer that was the last
pub last-none : (f : Option ScanFault) → ◌≡◌ {A = Result (Option FieldRun) ScanFault} (Ok None) (last_run f) → f ≡ None
last-none None e = refl
last-none (Some fault) e = cc e

pub last-some : (f : Option ScanFault) (fault : ScanFault) → ◌≡◌ {A = Result (Option FieldRun) ScanFault} (Err fault) (last_run f) → f ≡ Some fault
last-some None fault e = cc e
last-some (Some g) fault e = cc

-- a batch of no row
pub no-row-read : (run : FieldRun) (batch : Frame) (end : Option ScanFault) (fault : ScanFault) → end ≡ Some fault → ReadsRun run batch end → length batch.rows ≡ 0 → HasNoRow run fault
no-row-read run batch end fault e r none = record {
  cause = subst IsOfText e r.cause;
  stream = λ limit room. r.stream limit room ∙ (λ i. let u : Stream ScanFault = record { rows = no-item batch.rows none i; fault = e i } in u);
}

-- what a scanner hands out of records that were not begun
pub scanner-of-records : (file size limit : ℕ) (layout : Layout) (bytes : Option (List ℕ)) (r : RecordScanning)
    → r ≡ record { file = file; layout = layout; run_size = size; taken = 0; room = limit; upcoming = option_map (record_stream file layout.schema limit) bytes; ending = None; stopped = false }
    → ◌≡◌ {A = Scanning} (record { file = r.file; layout = r.layout; batch_size = r.run_size; serial = 0; room = r.taken + r.room - 0; upcoming = batches_left None r; ending = rows_ending None r.ending; stopped = r.stopped })
    (record { file = file; layout = layout; batch_size = size; serial = 0; room = limit; upcoming = option_map (file_stream file layout limit) bytes; ending = None; stopped = false })
scanner-of-records file size limit layout bytes r e =
    ap (λ (x : RecordScanning). let s : Scanning = record { file = x.file; layout = x.layout; batch_size = x.run_size; serial = 0; room = x.taken + x.room - 0; upcoming = batches_left None x; ending = rows_ending None x.ending; stopped = x.stopped } in s) e
    ∙ (λ i. let s : Scanning = record { file = file; layout = layout; batch_size = size; serial = 0; room = same i; upcoming = left bytes i; ending = None; stopped = false } in s)
  where
    same : 0 + limit - 0 ≡ limit
    same = omega arith

    left : (o : Option (List ℕ)) → option_map (rows_of_records file layout (0 + limit) 0) (option_map (record_stream file layout.schema limit) o) ≡ option_map (file_stream file layout limit) o
    left None = refl
    left (Some xs) =
        ap Some (ap (λ n. rows_of_records file layout n 0 (record_stream file layout.schema limit xs)) (let z : 0 + limit ≡ limit = omega arith in z) ∙ sym (rows-under-header file layout limit (records default_config (strip_bom xs))))
