-- The run that a step makes, and the stream of records that it leaves.
use Rattle.std.specs.Prelude.{option_map}
use Rattle.std.proofs.Common.{◌≡◌, ◌<◌, ◌≤◌, ◌+◌, ◌++◌, ◌∙◌, ℕ, List, Option, Some, length, take, refl, sym, ap, subst, arith}
use Rattle.std.proofs.lemmas.List.{drop_all, take_all, nil_from_length}
use Rattle.std.proofs.Math.Seq.{drop-append_seam, take-append_seam}
use Rattle.fq_column.specs.Frame.{Fields}
use Rattle.csv.specs.Reading.{default_config, records}
use Rattle.fq_csv.specs.File.{Record}
use Rattle.fq_csv.specs.RecordScan.{GivesNoRun, GivesRun, records_left_at}
use Rattle.fq_csv.specs.Records.{Unread}
use Rattle.fq_csv.specs.Rows.{EndsAt}
use Rattle.fq_csv.specs.Taking.{ReadsRecords, RecordStream, RecordsGoOn, records_after, then_records, without_records}
use Rattle.fq_csv.specs.declared.cells.layouts.Layout.{Layout}
use Rattle.fq_csv.specs.declared.scanning.spans.Span.{Span}
use Rattle.fq_csv.specs.declared.scanning.stages.Stage.{Stage}
use Rattle.fq_csv.specs.declared.scanning.stages.Stage.TheVariants as stage
use Rattle.fq_csv.proofs.RecordLemmas.{mapped}

cut : (after : Stage) (size : ℕ) (rs : List Record) (u : RecordStream) (v : Option RecordStream) (fields : Fields) (limit at : ℕ) (new : Unread)
    → EndsAt after size (length rs) → RecordsGoOn after rs u v → v ≡ option_map (records_after new.file limit at) new.upcoming
    → (rs ≡ take size u.records) × (records_left_at fields limit after new at ≡ Some (without_records size u))
cut stage.Header size rs u v fields limit at new n g e = absurd n
cut stage.Rows size rs u v fields limit at new n g e =
    let rest = g.0 in
    let same : u ≡ then_records rs rest = g.2 in (
      sym (ap (λ (w : RecordStream). take size w.records) same ∙ ap (λ k. take k (rs ++ rest.records)) (sym n) ∙ take-append_seam rs rest.records),
      sym e ∙ g.1 ∙ ap Some (sym (ap (without_records size) same ∙ ap (λ k. without_records k (then_records rs rest)) (sym n) ∙ ap (λ xs. let w : RecordStream = record { records = xs; fault = rest.fault } in w) (drop-append_seam rs rest.records))),
    )
cut (stage.Closed fault) size rs u v fields limit at new n g e =
    let few : length rs ≤ size = omega (arith, n.0) in (
      sym (ap (λ (w : RecordStream). take size w.records) g ∙ take_all size rs few),
      ap Some (sym (ap (without_records size) g ∙ ap (λ xs. let w : RecordStream = record { records = xs; fault = fault } in w) (drop_all size rs few))),
    )
cut (stage.Failed fault) size rs u v fields limit at new n g e = absurd n

module _ (span : Span) (layout : Layout) (old new : Unread) (after : Stage) (text : List ℕ) (count : ℕ) where
  abbrev rs : List Record
  rs = records default_config text

  pub gives-run : new.file ≡ old.file → new.stopped ≡ old.stopped → ReadsRecords span old new after text count → 0 < count
      → GivesRun span layout old new stage.Rows after (record { file = old.file; layout = layout; before = span.from; records = records default_config text })
  gives-run file stopped r some =
      let many : length rs ≡ count = r.number in
      let ends : EndsAt after span.size (length rs) = subst (λ n. EndsAt after span.size n) (sym many) r.ends in
      record {
        file = refl;
        same_layout = refl;
        place = refl;
        some = omega (arith, many, some);
        in_limit = omega (arith, many, r.in_limit);
        count = ends;
        stopped = stopped;
        stream = λ u e.
            let m = mapped (records_after old.file span.limit span.from) old.upcoming u e in
            let g = subst (λ (w : RecordStream). RecordsGoOn after rs w (option_map (records_after old.file span.limit (span.from + count)) new.upcoming)) (sym m.2) (r.goes_on m.0 m.1) in
            cut after span.size rs u _ layout.schema span.limit (span.from + length rs) new ends g
            (ap (λ f. option_map (records_after f span.limit (span.from + count)) new.upcoming) (sym file) ∙ ap (λ n. option_map (records_after new.file span.limit (span.from + n)) new.upcoming) (sym many));
      }

  -- there are no records
  pub gives-no-run : ReadsRecords span old new after text count → count ≡ 0 → GivesNoRun span layout.schema old new stage.Rows after
  gives-no-run r none = go after r.ends r.goes_on
    where
      go : (s : Stage) → EndsAt s span.size count → ((before : List Record) → old.upcoming ≡ Some before → RecordsGoOn s rs (records_after old.file span.limit span.from before) (option_map (records_after old.file span.limit (span.from + count)) new.upcoming))
          → GivesNoRun span layout.schema old new stage.Rows s
      go stage.Header ends goes = absurd ends
      go stage.Rows ends goes = absurd (omega (arith, ends, none, span.some))
      go (stage.Failed fault) ends goes = absurd ends
      go (stage.Closed fault) ends goes = (
        λ _. ends.1,
        λ u e.
            let m = mapped (records_after old.file span.limit span.from) old.upcoming u e in
            m.2 ∙ goes m.0 m.1 ∙ ap (λ xs. let w : RecordStream = record { records = xs; fault = fault } in w) (nil_from_length rs (r.number ∙ none)),
      )
