-- Records that are taken from a file.
use Rattle.std.specs.Prelude.{option_map}
use Rattle.std.proofs.Common.{◌≡◌, ◌<◌, ◌≤◌, ◌+◌, ◌++◌, ◌∙◌, ℕ, suc, List, [], ◌∷◌, Option, Some, None, length, refl, sym, ap, subst, arith, append-nil}
use Rattle.std.proofs.lemmas.Bool.{le-ltb, lt-ltb}
use Rattle.std.proofs.lemmas.List.{nil_from_length}
use Rattle.csv.specs.Reading.{default_config, records}
use Rattle.fq_csv.specs.File.{Record}
use Rattle.fq_csv.specs.Records.{IsOfText, Takes, Unread}
use Rattle.fq_csv.specs.Taking.{EndsAtLimit, ReadsRecords, RecordStream, over, record_fault, records_after, then_records}
use Rattle.fq_csv.specs.declared.faults.ScanFault.{ScanFault}
use Rattle.fq_csv.specs.declared.faults.ScanFault.TheVariants.{TooLong}
use Rattle.fq_csv.specs.declared.scanning.spans.Span.{Span}
use Rattle.fq_csv.specs.declared.scanning.stages.Stage.{Stage}
use Rattle.fq_csv.specs.declared.scanning.stages.Stage.TheVariants as stage

-- ---- the stream of records, one at a time

fault-long : (file limit n : ℕ) → limit < n → record_fault file limit n ≡ Some (TooLong file)
fault-long file limit n h = rw (lt-ltb limit n h) refl

no-fault : (file limit n : ℕ) → n ≤ limit → record_fault file limit n ≡ None
no-fault file limit n h = rw (le-ltb limit n h) refl

module _ (file limit : ℕ) where
  pub fault-first : (n : ℕ) (r : Record) (rs : List Record) (fault : ScanFault) → record_fault file limit (n + 1) ≡ Some fault → records_after file limit n (r ∷ rs) ≡ over (Some fault)
  fault-first n r rs fault e = rw (e, records_after) refl

  pub record-first : (n : ℕ) (r : Record) (rs : List Record) → record_fault file limit (n + 1) ≡ None → records_after file limit n (r ∷ rs) ≡ then_records (r ∷ []) (records_after file limit (n + 1) rs)
  record-first n r rs e = rw (e, records_after) refl

  -- records within the limit, and then others
  pub records-split : (n : ℕ) (xs ys : List Record) → n + length xs ≤ limit → records_after file limit n (xs ++ ys) ≡ then_records xs (records_after file limit (n + length xs) ys)
  records-split n [] ys room = ap (λ k. records_after file limit k ys) (let z : n ≡ n + 0 = omega arith in z)
  records-split n (x ∷ xs) ys room =
      record-first n x (xs ++ ys) (no-fault file limit (n + 1) (omega (arith, room)))
      ∙ ap (then_records (x ∷ [])) (records-split (n + 1) xs ys (omega (arith, room)))
      ∙ ap (λ k. then_records (x ∷ xs) (records_after file limit k ys)) (let z : n + 1 + length xs ≡ n + suc (length xs) = omega arith in z)

then-over : (rs : List Record) (fault : Option ScanFault) → ◌≡◌ {A = RecordStream} (then_records rs (over fault)) (record { records = rs; fault = fault })
then-over rs fault = ap (λ xs. let v : RecordStream = record { records = xs; fault = fault } in v) (append-nil rs)

-- ---- the records that were taken, and the rest

module _ (span : Span) (old now : Unread) (text : List ℕ) (wanted count : ℕ) (takes : Takes old wanted text count now) (room : span.from + count ≤ span.limit) where
  abbrev rs : List Record
  rs = records default_config text

  rest : (before : List Record) → old.upcoming ≡ Some before
      → (after : List Record) × (now.upcoming ≡ Some after) × (records_after old.file span.limit span.from before ≡ then_records rs (records_after old.file span.limit (span.from + count) after)) × (count < wanted → after ≡ [])
  rest before e =
      let t = takes.rest before e in (
        t.0,
        t.1,
        ap (records_after old.file span.limit span.from) t.2
            ∙ records-split old.file span.limit span.from rs t.0 (omega (arith, room, takes.number))
            ∙ ap (λ n. then_records rs (records_after old.file span.limit (span.from + n) t.0)) takes.number,
        t.3,
      )

  -- as many as a run may have
  pub reads-full : count ≡ span.size → ReadsRecords span old now stage.Rows text count
  reads-full all = record {
    number = takes.number;
    in_limit = room;
    ends = all;
    goes_on = λ before e. (let t = rest before e in (records_after old.file span.limit (span.from + count) t.0, ap (option_map (records_after old.file span.limit (span.from + count))) t.1, t.2));
  }

  -- no other is left
  pub reads-last : (new : Unread) → count < wanted → count < span.size → ReadsRecords span old new (stage.Closed None) text count
  reads-last new few fewer = record {
    number = takes.number;
    in_limit = room;
    ends = (fewer, tt);
    goes_on = λ before e. (let t = rest before e in t.2 ∙ ap (λ xs. then_records rs (records_after old.file span.limit (span.from + count) xs)) (t.3 few) ∙ then-over rs None);
  }

  -- the limit is reached
  pub reads-limit : (new : Unread) (s : Stage) → old.file ≡ now.file → span.from + count ≡ span.limit → count < span.size → EndsAtLimit now s → ReadsRecords span old new s text count
  reads-limit new stage.Header file full fewer h = absurd h
  reads-limit new stage.Rows file full fewer h = absurd h
  reads-limit new (stage.Failed fault) file full fewer h = absurd h
  reads-limit new (stage.Closed None) file full fewer h = record {
    number = takes.number;
    in_limit = room;
    ends = (fewer, tt);
    goes_on = λ before e. (let t = rest before e in t.2 ∙ ap (λ xs. then_records rs (records_after old.file span.limit (span.from + count) xs)) (h t.0 t.1) ∙ then-over rs None);
  }
  reads-limit new (stage.Closed (Some fault)) file full fewer h = record {
    number = takes.number;
    in_limit = room;
    ends = (fewer, subst (λ f. IsOfText (Some f)) (sym h.0) tt);
    goes_on = λ before e.
        let t = rest before e in
        let more = h.1 t.0 t.1 in
        t.2
        ∙ ap (λ xs. then_records rs (records_after old.file span.limit (span.from + count) xs)) more.2
        ∙ ap (then_records rs) (fault-first old.file span.limit (span.from + count) more.0 more.1 (TooLong old.file) (fault-long old.file span.limit (span.from + count + 1) (omega (arith, full))))
        ∙ then-over rs (Some (TooLong old.file))
        ∙ ap (λ f. let u : RecordStream = record { records = rs; fault = Some f } in u) (ap TooLong file ∙ sym h.0);
  }

-- a file that may have no more records
pub no-more : (old new : Unread) (text : List ℕ) (more : ℕ) → Takes old 1 text more new → more ≡ 0 → EndsAtLimit old (stage.Closed None)
no-more old new text more t none before e =
    let r = t.rest before e in
    (r.2 ∙ ap (λ xs. xs ++ r.0) (nil_from_length (records default_config text) (t.number ∙ none)) ∙ r.3 (omega (arith, none)))

pub one-more : (old new : Unread) (text : List ℕ) (more : ℕ) (fault : ScanFault) → Takes old 1 text more new → 0 < more → fault ≡ TooLong old.file → EndsAtLimit old (stage.Closed (Some fault))
one-more old new text more fault t some f = (f, λ before e. (let r = t.rest before e in go (records default_config text) r.0 before r.2 (omega (arith, t.number, some))))
  where
    go : (xs ys before : List Record) → before ≡ xs ++ ys → 0 < length xs → (r : Record) × (rs : List Record) × (before ≡ r ∷ rs)
    go [] ys before e l = absurd (omega (arith, l))
    go (x ∷ xs) ys before e l = (x, xs ++ ys, e)
