-- What the tail of a run stands for, after one more item of the main source and at the end.
use Rattle.std.proofs.Common.{◌≡◌, ℕ, List, [], ◌++◌, is_some, map, Option, Some, None, IsSome, Ok, Err, ap, sym, ◌∙◌, subst, cond}
use Rattle.fq_column.specs.Frame.{Fields, Frame, Row}
use Rattle.fq_column.specs.Stream.{Stream, done, then_stream}
use Rattle.fq_column.proofs.StreamLemmas.{then_stream-assoc}
use Rattle.fq_run.specs.Gathering.{added_stream, gathered, gathered_stream, taken_in, with_stream}
use Rattle.fq_run.specs.Later.{later_steps}
use Rattle.fq_run.specs.Outcome.{frame_or_fault, outcome_of_stages}
use Rattle.fq_run.specs.Pipelines.{EndsIn, HasRun, Transforming}
use Rattle.fq_run.specs.RunningOperators.{IsUnder, passed_stream, rows_in}
use Rattle.fq_run.specs.Stages.{Fit}
use Rattle.fq_run.specs.Standing.{FitOver, IsSettled, IsStreaming, Stands}
use Rattle.fq_run.specs.Transforms.{whole_all}
use Rattle.fq_run.specs.declared.faults.Fault.{Fault}
use Rattle.fq_run.specs.declared.gathering.SideSource.{SideSource}
use Rattle.fq_run.specs.declared.passed.Passed.{Passed}
use Rattle.fq_run.specs.declared.operators.RunningOperator.{RunningOperator}
use Rattle.fq_run.specs.TailState.{IsReady, TailState}
use Rattle.fq_run.specs.declared.stages.Stage.{Stage}
use Rattle.fq_run.specs.declared.leading_steps.Worked.{Worked}
use Rattle.fq_run.proofs.SourceFaultLemmas.{none-before}
use Rattle.fq_run.proofs.GatheringLemmas.{then-nothing}
use Rattle.fq_run.proofs.KeptSourceLemmas.{columns-taken}
use Rattle.fq_run.proofs.OutcomeOfPipeline.{fault-is}

then-faultless : (u v : Stream Fault) → u.fault ≡ None → then_stream u v ≡ record { rows = u.rows ++ v.rows; fault = v.fault }
then-faultless u v e = ap (λ (o : Option Fault). cond (is_some o) u (record { rows = u.rows ++ v.rows; fault = v.fault })) e

module _ (stages : List Stage) (after : Fields) (sides : List SideSource) (main : SideSource) where
  abbrev later : Transforming
  later = later_steps stages sides main.batch.fields after

  pub settled-outcome : (f : Fault) → IsSettled stages sides main f → outcome_of_stages stages sides main ≡ Err f
  settled-outcome f settled = ap (λ (u : Stream Fault). outcome_of_stages stages sides (with_stream main u)) (sym (then-nothing (gathered_stream main))) ∙ settled (done [])

  pub settled-on : (out : Worked) (f : Fault) → IsSettled stages sides main f → IsSettled stages sides (gathered main out) f
  settled-on out f settled rest =
      ap (λ (u : Stream Fault). outcome_of_stages stages sides (with_stream main u)) (then_stream-assoc (gathered_stream main) (added_stream main.batch.fields out) rest)
      ∙ settled (then_stream (added_stream main.batch.fields out) rest)

  module _ {S : Type 0} (has : S → Fields → List Row → Type 0) (running : List RunningOperator) (t : TailState S) (i : IsStreaming has stages after sides main running t) where
    -- the outcome of what streams
    pub streaming-outcome : FitOver stages after sides main → outcome_of_stages stages sides main ≡ frame_or_fault after (whole_all later.transforms (done main.batch.rows))
    streaming-outcome leads =
        none-before sides main stages after i.none leads
        ∙ ap (λ (o : Option Fault). frame_or_fault after (whole_all later.transforms (let u : Stream Fault = record { rows = main.batch.rows; fault = o } in u))) i.faultless

    -- ---- one more item of the main source
    module _ (out : Worked) (input : Passed) (is : passed_stream input ≡ added_stream t.before out) where
      added-is : passed_stream input ≡ added_stream main.batch.fields out
      added-is = is ∙ ap (λ (f : Fields). added_stream f out) i.before

      -- a piece was taken
      streams-on : (next : List RunningOperator) (u : TailState S) → u.before ≡ t.before →
          (more : List Row) × ((input.fault ≡ None) × (HasRun next later (main.batch.rows ++ rows_in input.batch) (i.out ++ more) × (has t.sink after i.out → has u.sink after (i.out ++ more)))) →
          IsStreaming has stages after sides (gathered main out) next u
      streams-on next u same on = record {
        none = i.none;
        faultless = ap (λ (v : Stream Fault). v.fault) joined ∙ on.1.0;
        before = same ∙ i.before;
        out = i.out ++ on.0;
        run = subst (λ (rows : List Row). HasRun next later rows (i.out ++ on.0)) (sym (ap (λ (v : Stream Fault). v.rows) joined)) on.1.1.0;
        taken = on.1.1.1 i.taken;
      }
        where
          joined : then_stream (gathered_stream main) (added_stream main.batch.fields out) ≡ record { rows = main.batch.rows ++ rows_in input.batch; fault = input.fault }
          joined = ap (then_stream (gathered_stream main)) (sym added-is) ∙ then-faultless (gathered_stream main) (passed_stream input) i.faultless

      -- a fault of the operators ends all
      settled-by : FitOver stages after sides main → (f : Fault) →
          ((rest : Stream Fault) → (whole_all later.transforms (then_stream (then_stream (done main.batch.rows) (passed_stream input)) rest)).fault ≡ Some f) → IsSettled stages sides (gathered main out) f
      settled-by leads f ends rest =
          let v : Stream Fault = then_stream (gathered_stream (gathered main out)) rest in
          none-before sides (with_stream (gathered main out) v) stages after i.none leads
          ∙ fault-is after (whole_all later.transforms v) f
          (ap (λ (o : Option Fault). (whole_all later.transforms (then_stream (then_stream (let u : Stream Fault = record { rows = main.batch.rows; fault = o } in u) (added_stream main.batch.fields out)) rest)).fault) i.faultless
          ∙ ap (λ (w : Stream Fault). (whole_all later.transforms (then_stream (then_stream (done main.batch.rows) w) rest)).fault) (sym added-is)
          ∙ ends rest)

  -- ---- the tail, after one more item of the main source and at the end
  module _ {S : Type 0} (has : S → Fields → List Row → Type 0) (t : TailState S) (fits : FitOver stages after sides main) (stands : Stands has stages after sides main t) where
    -- the run has failed
    pub stands-ended : (out : Worked) → t.operators ≡ None → IsSome t.fault → Stands has stages after sides (gathered main out) t
    stands-ended out none some = record {
      settled = λ f e. settled-on out f (stands.settled f e);
      waiting = λ e. absurd (let z : IsSome {T = Fault} None = subst (λ (o : Option Fault). IsSome o) e some in cc);
      streaming = λ running e. absurd (let z : None ≡ Some running = sym none ∙ e in cc);
    }

    module _ (running : List RunningOperator) (runs : t.operators ≡ Some running) where
      streaming-is : IsStreaming has stages after sides main running t
      streaming-is = stands.streaming running runs

      module _ (out : Worked) (input : Passed) (is : passed_stream input ≡ added_stream t.before out) (under : IsUnder t.before input.batch) (u : TailState S) where
        under-is : IsUnder main.batch.fields input.batch
        under-is = subst (λ (f : Fields). IsUnder f input.batch) streaming-is.before under

        -- a piece was taken
        pub stands-on : (next : List RunningOperator) → u.operators ≡ Some next → u.fault ≡ None → u.before ≡ t.before →
            ((w : Transforming) (rows out : List Row) → HasRun running w rows out → IsUnder w.before input.batch →
            (more : List Row) × ((input.fault ≡ None) × (HasRun next w (rows ++ rows_in input.batch) (out ++ more) × (has t.sink w.after out → has u.sink w.after (out ++ more))))) →
            Stands has stages after sides (gathered main out) u
        stands-on next runs-on none same on =
            let s = streams-on has running t streaming-is out input is next u same (on later main.batch.rows streaming-is.out streaming-is.run under-is) in
            record {
              settled = λ f e. absurd (let z : None ≡ Some f = sym none ∙ e in cc);
              waiting = λ e closed. absurd (let z : None ≡ Some next = sym closed ∙ runs-on in cc);
              streaming = λ others e. subst (λ (rs : List RunningOperator). IsStreaming has stages after sides (gathered main out) rs u) (let z : Some next ≡ Some others = sym runs-on ∙ e in cc) s;
            }

        -- a fault of the operators ends all
        pub stands-settled : (f : Fault) → u.operators ≡ None → u.fault ≡ Some f → ((w : Transforming) (rows out : List Row) → HasRun running w rows out → IsUnder w.before input.batch → EndsIn w.transforms rows (passed_stream input) f) →
            Stands has stages after sides (gathered main out) u
        stands-settled f closed some ends =
            let settled = settled-by has running t streaming-is out input is fits f (ends later main.batch.rows streaming-is.out streaming-is.run under-is) in
            record {
              settled = λ f' e. subst (λ (g : Fault). IsSettled stages sides (gathered main out) g) (let z : Some f ≡ Some f' = sym some ∙ e in cc) settled;
              waiting = λ e. absurd (let z : None ≡ Some f = sym e ∙ some in cc);
              streaming = λ others e. absurd (let z : None ≡ Some others = sym closed ∙ e in cc);
            }

      -- no more came
      pub ends-frame : (sink : S) →
          ((w : Transforming) (rows out : List Row) → HasRun running w rows out → has t.sink w.after out → (more : List Row) × ((whole_all w.transforms (done rows) ≡ done (out ++ more)) × has sink w.after (out ++ more))) →
          (frame : Frame) × ((outcome_of_stages stages sides main ≡ Ok frame) × has sink frame.fields frame.rows)
      ends-frame sink all =
          let a = all later main.batch.rows streaming-is.out streaming-is.run streaming-is.taken in (
            (let frame : Frame = record { fields = after; rows = streaming-is.out ++ a.0 } in frame),
            (streaming-outcome has running t streaming-is fits ∙ ap (frame_or_fault after) a.1.0, a.1.1),
          )

      pub ends-fault : (f : Fault) → ((w : Transforming) (rows out : List Row) → HasRun running w rows out → (whole_all w.transforms (done rows)).fault ≡ Some f) → outcome_of_stages stages sides main ≡ Err f
      ends-fault f ends =
          streaming-outcome has running t streaming-is fits
          ∙ fault-is after (whole_all later.transforms (done main.batch.rows)) f (ends later main.batch.rows streaming-is.out streaming-is.run)

-- what runs has taken one more piece
pub ready-on : {S : Type 0} (has : S → Fields → List Row → Type 0) (t u : TailState S) (running next : List RunningOperator) (input : Passed) → IsReady t → t.operators ≡ Some running → u.operators ≡ Some next → u.fault ≡ t.fault → u.before ≡ t.before → IsUnder t.before input.batch →
    ((w : Transforming) (rows out : List Row) → HasRun running w rows out → IsUnder w.before input.batch →
    (more : List Row) × ((input.fault ≡ None) × (HasRun next w (rows ++ rows_in input.batch) (out ++ more) × (has t.sink w.after out → has u.sink w.after (out ++ more))))) → IsReady u
ready-on has t u running next input ready runs runs-on same same-before under on =
    let r = ready.runs running runs in
    let more = on r.1.0 r.1.1.0 r.1.1.1.0 r.1.1.1.1.0 (subst (λ (f : Fields). IsUnder f input.batch) (sym r.1.1.1.1.1) under) in
    record {
      fits = λ closed. absurd (let z : None ≡ Some next = sym closed ∙ runs-on in cc);
      runs = λ others e. (
        same ∙ r.0,
        (
          r.1.0,
          (
            r.1.1.0 ++ rows_in input.batch,
            (
              r.1.1.1.0 ++ more.0,
              (
                subst (λ (rs : List RunningOperator). HasRun rs r.1.0 (r.1.1.0 ++ rows_in input.batch) (r.1.1.1.0 ++ more.0)) (let z : Some next ≡ Some others = sym runs-on ∙ e in cc) more.1.1.0,
                r.1.1.1.1.1 ∙ sym same-before,
              ),
            ),
          ),
        ),
      );
    }

-- an item of a source before the main one was taken
pub ready-taken : {S : Type 0} (t u : TailState S) (file : ℕ) (item : Worked) → IsReady t → u.operators ≡ t.operators → u.fault ≡ t.fault → u.before ≡ t.before → u.stages ≡ t.stages → u.sides ≡ taken_in file item t.sides → IsReady u
ready-taken t u file item ready operators fault before stages sides = record {
  fits = λ closed none.
      let r = ready.fits (sym operators ∙ closed) (sym fault ∙ none) in
      let columns = ap (map (λ (g : SideSource). g.batch.fields)) sides ∙ columns-taken file item t.sides in (
        r.0,
        subst (λ (ss : List Stage). Fit (map (λ (g : SideSource). g.batch.fields) u.sides) u.before ss r.0) (sym stages)
            (subst (λ (f : Fields). Fit (map (λ (g : SideSource). g.batch.fields) u.sides) f t.stages r.0) (sym before)
            (subst (λ (fs : List Fields). Fit fs t.before t.stages r.0) (sym columns) r.1)),
      );
  runs = λ running e. let r = ready.runs running (sym operators ∙ e) in (fault ∙ r.0, (r.1.0, (r.1.1.0, (r.1.1.1.0, (r.1.1.1.1.0, r.1.1.1.1.1 ∙ sym before)))));
}
