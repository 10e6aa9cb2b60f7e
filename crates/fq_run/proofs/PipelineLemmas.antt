-- Operators that run one after the other, and hand on what they make of a batch part by part.
use Rattle.std.proofs.Common.{◌≡◌, ◌<◌, ◌+◌, ℕ, List, [], ◌∷◌, ◌++◌, length, take, drop, get_or, set, Option, Some, None, refl, ap, sym, ◌∙◌, append-nil, append_assoc, arith, subst}
use Rattle.std.proofs.lemmas.List.{drop_more, drop-set, drop-set-lt, drop-take, length-set, take-set, take-take}
use Rattle.fq_column.specs.Frame.{Fields, Frame, Row}
use Rattle.fq_column.specs.Stream.{Stream, done, then_stream}
use Rattle.fq_column.proofs.StreamLemmas.{then_stream-assoc}
use Rattle.fq_ops.specs.declared.probes.Probe.{Probe}
use Rattle.fq_run.specs.Pipelines.{EndsIn, HandsOn, HasRun, Transforming}
use Rattle.fq_run.specs.Transforms.{Chain, IsCausal, Transform, given, given_all, whole_all}
use Rattle.fq_run.specs.RunningOperators.{HasEnded, HasTaken, HaveTaken, IsGiving, IsUnder, Makes, passed_stream, rows_in}
use Rattle.fq_run.specs.declared.faults.Fault.{Fault}
use Rattle.fq_run.specs.declared.operators.Made.{Made}
use Rattle.fq_run.specs.declared.operators.RunningOperator.{RunningOperator}
use Rattle.fq_run.specs.declared.passed.Passed.{Passed}
use Rattle.fq_run.proofs.GatheringLemmas.{then-nothing}
use Rattle.fq_run.proofs.OperatorLemmas.{join-begins}

abbrev pub stream : List Row → Option Fault → Stream Fault
stream rows fault = record { rows = rows; fault = fault }

-- ---- streams

open-is : (a : Stream Fault) → a.fault ≡ None → a ≡ done a.rows
open-is a e = λ i. stream a.rows (e i)

-- a fault is the end
past-fault : (g v : Stream Fault) (f : Fault) → g.fault ≡ Some f → then_stream g v ≡ g
past-fault g v f e = ap (λ (o : Option Fault). then_stream (stream g.rows o) v) e ∙ (λ i. stream g.rows (sym e i))

given-is : (m : Transform) (rows : List Row) → given m (done rows) ≡ m.at_once rows
given-is m rows = then-nothing (m.at_once rows)

given-open : (m : Transform) (rows : List Row) → (m.at_once rows).fault ≡ None → given m (done rows) ≡ done (m.at_once rows).rows
given-open m rows e = given-is m rows ∙ open-is (m.at_once rows) e

-- a fault goes through operators that have taken the rows before it
fault-through : (rs : List RunningOperator) (ms : List Transform) (rows : List Row) (f : Fault) → HaveTaken rs ms rows → (whole_all ms (stream rows (Some f))).fault ≡ Some f
fault-through [] [] rows f t = refl
fault-through [] (m ∷ ms) rows f t = absurd t
fault-through (r ∷ rs) [] rows f t = absurd t
fault-through (r ∷ rs) (m ∷ ms) rows f t =
    ap (λ (a : Stream Fault). (whole_all ms (then_stream a (stream [] (Some f)))).fault) (open-is (m.at_once rows) t.0.faultless)
    ∙ ap (λ (xs : List Row). (whole_all ms (stream xs (Some f))).fault) (append-nil (m.at_once rows).rows)
    ∙ fault-through rs ms (m.at_once rows).rows f t.1

-- ---- what is handed on

module _ {S : Type 0} (has : S → Fields → List Row → Type 0) where
  pub hands-nothing : (rs : List RunningOperator) (ms : List Transform) (rows : List Row) (after : Fields) (s : S) → HaveTaken rs ms rows → HandsOn has rs ms rows after [] s s
  hands-nothing rs ms rows after s t = record {
    more = [];
    have = subst (λ (xs : List Row). HaveTaken rs ms xs) (sym (append-nil rows)) t;
    given = ap (λ (xs : List Row). given_all ms (done xs)) (append-nil rows) ∙ sym (then-nothing (given_all ms (done rows)));
    sink = λ out h. subst (λ (xs : List Row). has s after xs) (sym (append-nil out)) h;
  }

  pub hands-more : (rs qs : List RunningOperator) (ms : List Transform) (rows : List Row) (after : Fields) (xs ys : List Row) (s t u : S) → HandsOn has rs ms rows after xs s t → HandsOn has qs ms (rows ++ xs) after ys t u →
      HandsOn has qs ms rows after (xs ++ ys) s u
  hands-more rs qs ms rows after xs ys s t u a b = record {
    more = a.more ++ b.more;
    have = subst (λ (zs : List Row). HaveTaken qs ms zs) (append_assoc rows xs ys) b.have;
    given =
        ap (λ (zs : List Row). given_all ms (done zs)) (sym (append_assoc rows xs ys))
        ∙ b.given
        ∙ ap (λ (v : Stream Fault). then_stream v (done b.more)) a.given
        ∙ then_stream-assoc (given_all ms (done rows)) (done a.more) (done b.more);
    sink = λ out h. subst (λ (zs : List Row). has u after zs) (append_assoc out a.more b.more) (b.sink (out ++ a.more) (a.sink out h));
  }

  -- no operator: the sink takes the rows
  hands-last : (ms : List Transform) (rows : List Row) (before after : Fields) (xs : List Row) (s t : S) → HaveTaken [] ms rows → Chain before ms after →
      ((out : List Row) → has s before out → has t before (out ++ xs)) → HandsOn has [] ms rows after xs s t
  hands-last [] rows before after xs s t taken chain takes = record {
    more = xs;
    have = tt;
    given = refl;
    sink = subst (λ (f : Fields). (out : List Row) → has s f out → has t f (out ++ xs)) chain takes;
  }
  hands-last (m ∷ ms) rows before after xs s t taken chain takes = absurd taken

  pub hands-sink : (ops : List RunningOperator) (ms : List Transform) (rows : List Row) (before after : Fields) (batch : Frame) (input : Passed) (s t : S) → length ops ≡ 0 → HaveTaken ops ms rows → Chain before ms after → IsUnder before input.batch →
      input.batch ≡ Some batch → ((out : List Row) → has s batch.fields out → has t batch.fields (out ++ batch.rows)) → HandsOn has ops ms rows after (rows_in input.batch) s t
  hands-sink [] ms rows before after batch input s t none taken chain under comes takes =
      subst (λ (o : Option Frame). HandsOn has [] ms rows after (rows_in o) s t) (sym comes)
      (hands-last ms rows before after batch.rows s t taken chain
      (subst (λ (f : Fields). (out : List Row) → has s f out → has t f (out ++ batch.rows)) (subst (λ (o : Option Frame). IsUnder before o) comes under) takes))
  hands-sink (r ∷ ops) ms rows before after batch input s t none taken chain under comes takes = absurd (omega (arith, none))

-- ---- one operator, and those after it

-- what an operator makes of a batch begins with what it has given of it so far, and this part
begins : (r : RunningOperator) (m : Transform) (rows : List Row) (batch : Frame) (given : List Row) (p : Made) → (m.at_once rows).fault ≡ None → Makes r m rows batch given p →
    (w : Stream Fault) × (m.at_once (rows ++ batch.rows) ≡ then_stream (then_stream (done ((m.at_once rows).rows ++ given)) (passed_stream p.passed)) w)
begins r m rows batch given p faultless makes = go p.rest refl
  where
    between : List Row
    between = (m.at_once rows).rows

    begun : (x : Stream Fault) → then_stream (m.at_once rows) (then_stream (done given) x) ≡ then_stream (done (between ++ given)) x
    begun x = ap (λ (a : Stream Fault). then_stream a (then_stream (done given) x)) (open-is (m.at_once rows) faultless) ∙ sym (then_stream-assoc (done between) (done given) x)

    go : (o : Option Probe) → p.rest ≡ o → (w : Stream Fault) × (m.at_once (rows ++ batch.rows) ≡ then_stream (then_stream (done (between ++ given)) (passed_stream p.passed)) w)
    go None e = (done [], sym (makes.last e).0 ∙ begun (passed_stream p.passed) ∙ sym (then-nothing (then_stream (done (between ++ given)) (passed_stream p.passed))))
    go (Some probe) e =
        let part = rows_in p.passed.batch in
        let on = makes.goes_on probe e in
        let w = join-begins r m rows batch (given ++ part) probe on.1 in (
          w.0,
          w.1
              ∙ ap (then_stream (m.at_once rows)) (then_stream-assoc (done given) (done part) w.0)
              ∙ begun (then_stream (done part) w.0)
              ∙ sym (then_stream-assoc (done (between ++ given)) (done part) w.0)
              ∙ ap (λ (o : Option Fault). then_stream (then_stream (done (between ++ given)) (stream part o)) w.0) (sym on.0),
        )

module _ (r : RunningOperator) (later : List RunningOperator) (m : Transform) (ms : List Transform) (rows : List Row) (batch : Frame) (given_so_far : List Row) (p : Made) (faultless : (m.at_once rows).fault ≡ None) (makes : Makes r m rows batch given_so_far p) where
  abbrev between : List Row
  between = (m.at_once rows).rows

  abbrev now : List Row
  now = given_so_far ++ rows_in p.passed.batch

  -- all that it makes at once
  at-last : p.rest ≡ None → m.at_once (rows ++ batch.rows) ≡ stream (between ++ now) p.passed.fault
  at-last e = sym (makes.last e).0 ∙ ap (λ (a : Stream Fault). then_stream a (then_stream (done given_so_far) (passed_stream p.passed))) (open-is (m.at_once rows) faultless)

  -- it has taken the batch
  pub hands-through : {S : Type 0} (has : S → Fields → List Row → Type 0) (after : Fields) (s t : S) → p.rest ≡ None → p.passed.fault ≡ None → HandsOn has later ms between after now s t → HandsOn has (r ∷ later) (m ∷ ms) rows after batch.rows s t
  hands-through has after s t e none on =
      let taken = (makes.last e).1 none in
      let all = at-last e in record {
        more = on.more;
        have = (taken, subst (λ (xs : List Row). HaveTaken later ms xs) (sym (ap (λ (a : Stream Fault). a.rows) all)) on.have);
        given =
            ap (given_all ms) (given-open m (rows ++ batch.rows) taken.faultless)
            ∙ ap (λ (a : Stream Fault). given_all ms (done a.rows)) all
            ∙ on.given
            ∙ ap (λ (a : Stream Fault). then_stream (given_all ms a) (done on.more)) (sym (given-open m rows faultless));
        sink = on.sink;
      }

  -- a fault of this part, or of those after it, ends all
  pub ends-through : (f : Fault) → IsCausal m → EndsIn ms (between ++ given_so_far) (passed_stream p.passed) f → (end : Option Fault) → EndsIn (m ∷ ms) rows (stream batch.rows end) f
  ends-through f causal ends end rest =
      let more : Stream Fault = then_stream (stream [] end) rest in
      let one = causal (done (rows ++ batch.rows)) more in
      let begun = begins r m rows batch given_so_far p faultless makes in
      ap (λ (u : Stream Fault). (whole_all (m ∷ ms) (then_stream u rest)).fault) (λ i. stream (sym (append-nil (rows ++ batch.rows)) i) end)
      ∙ ap (λ (u : Stream Fault). (whole_all (m ∷ ms) u).fault) (then_stream-assoc (done (rows ++ batch.rows)) (stream [] end) rest)
      ∙ ap (λ (u : Stream Fault). (whole_all ms u).fault)
      (one.1
      ∙ ap (λ (a : Stream Fault). then_stream a one.0) (given-is m (rows ++ batch.rows) ∙ begun.1)
      ∙ then_stream-assoc (then_stream (done (between ++ given_so_far)) (passed_stream p.passed)) begun.0 one.0)
      ∙ ends (then_stream begun.0 one.0)

-- ---- a piece that a fault ends

pub ends-piece : (rs : List RunningOperator) (ms : List Transform) (rows : List Row) (input : Passed) (f : Fault) → HaveTaken rs ms (rows ++ rows_in input.batch) → input.fault ≡ Some f → EndsIn ms rows (passed_stream input) f
ends-piece rs ms rows input f t e rest =
    let u = stream (rows ++ rows_in input.batch) input.fault in
    ap (λ (v : Stream Fault). (whole_all ms v).fault) (past-fault u rest f e ∙ (λ i. stream (rows ++ rows_in input.batch) (e i)))
    ∙ fault-through rs ms (rows ++ rows_in input.batch) f t

-- ---- a batch on its way through the first of several operators, and those after it

-- what comes to operators finds the first of them, and the others
first-of : (ops : List RunningOperator) (r : RunningOperator) (later : List RunningOperator) (ms : List Transform) (rows : List Row) → ops ≡ r ∷ later → HaveTaken ops ms rows →
    (m : Transform) × ((rest : List Transform) × ((ms ≡ m ∷ rest) × (HasTaken r m rows × HaveTaken later rest (m.at_once rows).rows)))
first-of ops r later ms rows e t = go ms (subst (λ (rs : List RunningOperator). HaveTaken rs ms rows) e t)
  where
    go : (ms : List Transform) → HaveTaken (r ∷ later) ms rows → (m : Transform) × ((rest : List Transform) × ((ms ≡ m ∷ rest) × (HasTaken r m rows × HaveTaken later rest (m.at_once rows).rows)))
    go [] t = absurd t
    go (m ∷ rest) t = (m, (rest, (refl, (t.0, t.1))))

-- the first has made a part of what it makes of the batch, and the others have taken the parts before
abbrev pub IsOnItsWay : {S : Type 0} → (S → Fields → List Row → Type 0) → List RunningOperator → Passed → S → RunningOperator → List RunningOperator → Made → S → Type 0
IsOnItsWay has ops input s r later made t = (batch : Frame) (m : Transform) (ms : List Transform) (rows : List Row) (after : Fields) → input.batch ≡ Some batch → HaveTaken ops (m ∷ ms) rows → m.takes ≡ batch.fields → Chain m.gives ms after →
    (given : List Row) × (Makes r m rows batch given made × HandsOn has later ms (m.at_once rows).rows after given s t)

-- the others take a part
abbrev pub TakesPart : {S : Type 0} → (S → Fields → List Row → Type 0) → List RunningOperator → List RunningOperator → Passed → S → S → Type 0
TakesPart has later later' part t u = (ms : List Transform) (rows : List Row) (before after : Fields) → HaveTaken later ms rows → Chain before ms after → IsUnder before part.batch →
    (part.fault ≡ None) × HandsOn has later' ms rows after (rows_in part.batch) t u

module _ {S : Type 0} (has : S → Fields → List Row → Type 0) (ops : List RunningOperator) (first : RunningOperator) (others : List RunningOperator) (split : ops ≡ first ∷ others) (input : Passed) (batch : Frame) (comes : input.batch ≡ Some batch) (s : S) where
  pub way-begins : (r : RunningOperator) (made : Made) → ((m : Transform) (rows : List Row) → HasTaken first m rows → m.takes ≡ batch.fields → Makes r m rows batch [] made) → IsOnItsWay has ops input s r others made s
  way-begins r made makes batch' m ms rows after e taken same chain =
      let is : batch ≡ batch' = (let z : Some batch ≡ Some batch' = sym comes ∙ e in cc) in
      let t = subst (λ (rs : List RunningOperator). HaveTaken rs (m ∷ ms) rows) split taken in (
        [],
        (
          subst (λ (b : Frame). Makes r m rows b [] made) is (makes m rows t.0 (same ∙ ap (λ (b : Frame). b.fields) (sym is))),
          hands-nothing has others ms (m.at_once rows).rows after s t.1,
        ),
      )

  module _ (r : RunningOperator) (later : List RunningOperator) (made : Made) (t : S) (way : IsOnItsWay has ops input s r later made t) where
    open-at : (m : Transform) (ms : List Transform) (rows : List Row) → HaveTaken ops (m ∷ ms) rows → (m.at_once rows).fault ≡ None
    open-at m ms rows taken = (subst (λ (rs : List RunningOperator). HaveTaken rs (m ∷ ms) rows) split taken).0.faultless

    -- what the others are asked
    pub part-can : (ms : List Transform) (rows : List Row) (before after : Fields) → HaveTaken ops ms rows → Chain before ms after → IsUnder before input.batch →
        (ms : List Transform) × ((rows : List Row) × ((before : Fields) × ((after : Fields) × (HaveTaken later ms rows × (Chain before ms after × IsUnder before made.passed.batch)))))
    part-can ms rows before after taken chain under =
        let f = first-of ops first others ms rows split taken in
        go f.0 f.1.0 (subst (λ (ns : List Transform). HaveTaken ops ns rows) f.1.1.0 taken) (subst (λ (ns : List Transform). Chain before ns after) f.1.1.0 chain)
      where
        go : (m : Transform) (rest : List Transform) → HaveTaken ops (m ∷ rest) rows → Chain before (m ∷ rest) after →
            (ms : List Transform) × ((rows : List Row) × ((before : Fields) × ((after : Fields) × (HaveTaken later ms rows × (Chain before ms after × IsUnder before made.passed.batch)))))
        go m rest taken chain =
            let i = way batch m rest rows after comes taken (chain.0 ∙ sym (subst (λ o. IsUnder before o) comes under)) chain.1 in
            (rest, ((m.at_once rows).rows ++ i.0, (m.gives, (after, (i.1.1.have, (chain.1, i.1.0.columns))))))

    -- what the first is asked for the next part
    pub next-can : (probe : Probe) → made.rest ≡ Some probe → (ms : List Transform) (rows : List Row) (before after : Fields) → HaveTaken ops ms rows → Chain before ms after → IsUnder before input.batch →
        (m : Transform) × ((rows : List Row) × ((batch : Frame) × ((given : List Row) × IsGiving r m rows batch given probe)))
    next-can probe e ms rows before after taken chain under =
        let f = first-of ops first others ms rows split taken in
        go f.0 f.1.0 (subst (λ (ns : List Transform). HaveTaken ops ns rows) f.1.1.0 taken) (subst (λ (ns : List Transform). Chain before ns after) f.1.1.0 chain)
      where
        go : (m : Transform) (rest : List Transform) → HaveTaken ops (m ∷ rest) rows → Chain before (m ∷ rest) after → (m : Transform) × ((rows : List Row) × ((batch : Frame) × ((given : List Row) × IsGiving r m rows batch given probe)))
        go m rest taken chain =
            let i = way batch m rest rows after comes taken (chain.0 ∙ sym (subst (λ o. IsUnder before o) comes under)) chain.1 in
            (m, (rows, (batch, (i.0 ++ rows_in made.passed.batch, (i.1.0.goes_on probe e).1))))

    -- a fault of this part, or of what the others make of it
    pub way-ends : (f : Fault) → ((ms : List Transform) (rows : List Row) (before after : Fields) → HaveTaken later ms rows → Chain before ms after → IsUnder before made.passed.batch → EndsIn ms rows (passed_stream made.passed) f) →
        (ms : List Transform) (rows : List Row) (before after : Fields) → HaveTaken ops ms rows → Chain before ms after → IsUnder before input.batch → EndsIn ms rows (passed_stream input) f
    way-ends f ends ms rows before after taken chain under =
        let x = first-of ops first others ms rows split taken in
        subst (λ (ns : List Transform). EndsIn ns rows (passed_stream input) f) (sym x.1.1.0)
        (go x.0 x.1.0 (subst (λ (ns : List Transform). HaveTaken ops ns rows) x.1.1.0 taken) (subst (λ (ns : List Transform). Chain before ns after) x.1.1.0 chain))
      where
        go : (m : Transform) (rest : List Transform) → HaveTaken ops (m ∷ rest) rows → Chain before (m ∷ rest) after → EndsIn (m ∷ rest) rows (passed_stream input) f
        go m rest taken chain =
            let i = way batch m rest rows after comes taken (chain.0 ∙ sym (subst (λ o. IsUnder before o) comes under)) chain.1 in
            subst (λ (o : Option Frame). EndsIn (m ∷ rest) rows (stream (rows_in o) input.fault) f) (sym comes)
            (ends-through r later m rest rows batch i.0 made (open-at m rest rows taken) i.1.0 f (subst (λ (rs : List RunningOperator). HaveTaken rs (m ∷ rest) rows) split taken).0.causal
            (ends rest ((m.at_once rows).rows ++ i.0) m.gives after i.1.1.have chain.1 i.1.0.columns) input.fault)

    module _ (later' : List RunningOperator) (u : S) (takes : TakesPart has later later' made.passed t u) where
      -- the next part
      pub way-on : (r' : RunningOperator) (made' : Made) (probe : Probe) → made.rest ≡ Some probe →
          ((m : Transform) (rows : List Row) (batch : Frame) (given : List Row) → IsGiving r m rows batch given probe → Makes r' m rows batch given made') → IsOnItsWay has ops input s r' later' made' u
      way-on r' made' probe e makes b m ms rows after comes' taken same chain =
          let i = way b m ms rows after comes' taken same chain in
          let on = takes ms ((m.at_once rows).rows ++ i.0) m.gives after i.1.1.have chain i.1.0.columns in (
            i.0 ++ rows_in made.passed.batch,
            (
              makes m rows b (i.0 ++ rows_in made.passed.batch) (i.1.0.goes_on probe e).1,
              hands-more has later later' ms (m.at_once rows).rows after i.0 (rows_in made.passed.batch) s t u i.1.1 on.1,
            ),
          )

      -- the last part
      pub way-over : made.rest ≡ None → (ms : List Transform) (rows : List Row) (before after : Fields) → HaveTaken ops ms rows → Chain before ms after → IsUnder before input.batch →
          HandsOn has (r ∷ later') ms rows after (rows_in input.batch) s u
      way-over e ms rows before after taken chain under =
          let x = first-of ops first others ms rows split taken in
          subst (λ (ns : List Transform). HandsOn has (r ∷ later') ns rows after (rows_in input.batch) s u) (sym x.1.1.0)
          (go x.0 x.1.0 (subst (λ (ns : List Transform). HaveTaken ops ns rows) x.1.1.0 taken) (subst (λ (ns : List Transform). Chain before ns after) x.1.1.0 chain))
        where
          go : (m : Transform) (rest : List Transform) → HaveTaken ops (m ∷ rest) rows → Chain before (m ∷ rest) after → HandsOn has (r ∷ later') (m ∷ rest) rows after (rows_in input.batch) s u
          go m rest taken chain =
              let i = way batch m rest rows after comes taken (chain.0 ∙ sym (subst (λ o. IsUnder before o) comes under)) chain.1 in
              let on = takes rest ((m.at_once rows).rows ++ i.0) m.gives after i.1.1.have chain.1 i.1.0.columns in
              subst (λ (o : Option Frame). HandsOn has (r ∷ later') (m ∷ rest) rows after (rows_in o) s u) (sym comes)
              (hands-through r later' m rest rows batch i.0 made (open-at m rest rows taken) i.1.0 has after s u e on.0
              (hands-more has later later' rest (m.at_once rows).rows after i.0 (rows_in made.passed.batch) s t u i.1.1 on.1))

-- ---- operators from a place on

-- those before the place are as they were, and at the place is this one
pub record IsAt (old : List RunningOperator) (place : ℕ) (now : List RunningOperator) (r : RunningOperator) : Type 0 where
  pub long : length now ≡ length old
  pub before : take place now ≡ take place old
  pub within : place < length now
  pub from : drop place now ≡ r ∷ drop (place + 1) now

pub read-at : (rs : List RunningOperator) (place : ℕ) (r : RunningOperator) → place < length rs → r ≡ get_or rs place r → drop place rs ≡ r ∷ drop (place + 1) rs
read-at rs place r within is = drop_more rs place r within ∙ (λ i. sym is i ∷ drop (place + 1) rs)

after-set : (rs : List RunningOperator) (place : ℕ) (r : RunningOperator) → drop (place + 1) (set rs place r) ≡ drop (place + 1) rs
after-set rs place r = drop-set-lt (place + 1) rs place r (omega arith)

pub set-at : (old : List RunningOperator) (place : ℕ) (now : List RunningOperator) (r : RunningOperator) → length now ≡ length old → take place now ≡ take place old → place < length now → IsAt old place (set now place r) r
set-at old place now r long before within = record {
  long = length-set now place r ∙ long;
  before = take-set now place r ∙ before;
  within = (let e = length-set now place r in omega arith);
  from = drop-set now place r within ∙ (λ i. r ∷ sym (after-set now place r) i);
}

-- those after it have changed
pub passed-at : (old : List RunningOperator) (place : ℕ) (now later : List RunningOperator) (r : RunningOperator) → IsAt old place now r → length later ≡ length now → take (place + 1) later ≡ take (place + 1) now → IsAt old place later r
passed-at old place now later r at long same = record {
  long = long ∙ at.long;
  before = sym (shorter later) ∙ ap (take place) same ∙ shorter now ∙ at.before;
  within = within;
  from = drop_more later place r within ∙ (λ i. head i ∷ drop (place + 1) later);
}
  where
    within : place < length later
    within = (let w = at.within in omega arith)

    shorter : (rs : List RunningOperator) → take place (take (place + 1) rs) ≡ take place rs
    shorter rs = take-take place (place + 1) rs (omega arith)

    one : (rs : List RunningOperator) → take 1 (drop place rs) ≡ drop place (take (place + 1) rs)
    one rs = sym (drop-take place 1 rs)

    head : get_or later place r ≡ r
    head =
        let e : get_or later place r ∷ [] ≡ r ∷ [] =
        ap (take 1) (sym (drop_more later place r within)) ∙ one later ∙ ap (drop place) same ∙ sym (one now) ∙ ap (take 1) at.from in
        ap (λ (xs : List RunningOperator). get_or xs 0 r) e

module _ {S : Type 0} (has : S → Fields → List Row → Type 0) (old : List RunningOperator) (place : ℕ) (first : RunningOperator) (within : place < length old) (is : first ≡ get_or old place first) (input : Passed) (batch : Frame) (comes : input.batch ≡ Some batch) (s : S) where
  abbrev pub IsOnItsWayAt : List RunningOperator → Made → S → Type 0
  IsOnItsWayAt now made t = (r : RunningOperator) × (IsAt old place now r × IsOnItsWay has (drop place old) input s r (drop (place + 1) now) made t)

  pub begins-at : (r : RunningOperator) (made : Made) → ((m : Transform) (rows : List Row) → HasTaken first m rows → m.takes ≡ batch.fields → Makes r m rows batch [] made) → IsOnItsWayAt (set old place r) made s
  begins-at r made makes = (
    r,
    (
      set-at old place old r refl refl within,
      subst (λ (later : List RunningOperator). IsOnItsWay has (drop place old) input s r later made s) (sym (after-set old place r))
          (way-begins has (drop place old) first (drop (place + 1) old) (read-at old place first within is) input batch comes s r made makes),
    ),
  )

  module _ (now : List RunningOperator) (made : Made) (t : S) (way : IsOnItsWayAt now made t) where
    pub part-can-at : (ms : List Transform) (rows : List Row) (before after : Fields) → HaveTaken (drop place old) ms rows → Chain before ms after → IsUnder before input.batch →
        (ms : List Transform) × ((rows : List Row) × ((before : Fields) × ((after : Fields) × (HaveTaken (drop (place + 1) now) ms rows × (Chain before ms after × IsUnder before made.passed.batch)))))
    part-can-at = part-can has (drop place old) first (drop (place + 1) old) (read-at old place first within is) input batch comes s way.0 (drop (place + 1) now) made t way.1.1

    pub ends-at : (f : Fault) → ((ms : List Transform) (rows : List Row) (before after : Fields) → HaveTaken (drop (place + 1) now) ms rows → Chain before ms after → IsUnder before made.passed.batch → EndsIn ms rows (passed_stream made.passed) f) →
        (ms : List Transform) (rows : List Row) (before after : Fields) → HaveTaken (drop place old) ms rows → Chain before ms after → IsUnder before input.batch → EndsIn ms rows (passed_stream input) f
    ends-at = way-ends has (drop place old) first (drop (place + 1) old) (read-at old place first within is) input batch comes s way.0 (drop (place + 1) now) made t way.1.1

    module _ (later : List RunningOperator) (u : S) (long : length later ≡ length now) (same : take (place + 1) later ≡ take (place + 1) now) (takes : TakesPart has (drop (place + 1) now) (drop (place + 1) later) made.passed t u) where
      pub kept-at : (length later ≡ length old) × (take place later ≡ take place old)
      kept-at = let at = passed-at old place now later way.0 way.1.0 long same in (at.long, at.before)

      pub within-at : place < length later
      within-at = (passed-at old place now later way.0 way.1.0 long same).within

      pub over-at : made.rest ≡ None → (ms : List Transform) (rows : List Row) (before after : Fields) → HaveTaken (drop place old) ms rows → Chain before ms after → IsUnder before input.batch →
          HandsOn has (drop place later) ms rows after (rows_in input.batch) s u
      over-at none ms rows before after taken chain under =
          subst (λ (rs : List RunningOperator). HandsOn has rs ms rows after (rows_in input.batch) s u) (sym (passed-at old place now later way.0 way.1.0 long same).from)
          (way-over has (drop place old) first (drop (place + 1) old) (read-at old place first within is) input batch comes s way.0 (drop (place + 1) now) made t way.1.1 (drop (place + 1) later) u takes none ms rows before after taken chain under)

      module _ (r : RunningOperator) (r-is : r ≡ get_or later place r) (probe : Probe) (rest : made.rest ≡ Some probe) where
        same-at : r ≡ way.0
        same-at =
            let e : r ∷ drop (place + 1) later ≡ way.0 ∷ drop (place + 1) later = sym (read-at later place r within-at r-is) ∙ (passed-at old place now later way.0 way.1.0 long same).from in
            ap (λ (xs : List RunningOperator). get_or xs 0 r) e

        pub next-can-at : (ms : List Transform) (rows : List Row) (before after : Fields) → HaveTaken (drop place old) ms rows → Chain before ms after → IsUnder before input.batch →
            (m : Transform) × ((rows : List Row) × ((batch : Frame) × ((given : List Row) × IsGiving r m rows batch given probe)))
        next-can-at ms rows before after taken chain under =
            subst (λ (q : RunningOperator). (m : Transform) × ((rows : List Row) × ((batch : Frame) × ((given : List Row) × IsGiving q m rows batch given probe)))) (sym same-at)
            (next-can has (drop place old) first (drop (place + 1) old) (read-at old place first within is) input batch comes s way.0 (drop (place + 1) now) made t way.1.1 probe rest ms rows before after taken chain under)

        pub goes-on-at : (r' : RunningOperator) (made' : Made) → ((m : Transform) (rows : List Row) (batch : Frame) (given : List Row) → IsGiving r m rows batch given probe → Makes r' m rows batch given made') → IsOnItsWayAt (set later place r') made' u
        goes-on-at r' made' makes = (
          r',
          (
            set-at old place later r' kept-at.0 kept-at.1 within-at,
            subst (λ (rs : List RunningOperator). IsOnItsWay has (drop place old) input s r' rs made' u) (sym (after-set later place r'))
                (way-on has (drop place old) first (drop (place + 1) old) (read-at old place first within is) input batch comes s way.0 (drop (place + 1) now) made t way.1.1 (drop (place + 1) later) u takes r' made' probe rest
                (λ m rows b given giving. makes m rows b given (subst (λ (q : RunningOperator). IsGiving q m rows b given probe) (sym same-at) giving))),
          ),
        )

-- ---- no more comes

-- what operators before a place had left was handed on: to those from there on, these rows have come
pub record IsEnding {S : Type 0} (has : S → Fields → List Row → Type 0) (w : Transforming) (rows out : List Row) (s t : S) (operators : List RunningOperator) : Type 0 where
  pub transforms : List Transform
  pub before : Fields
  pub come : List Row
  pub more : List Row
  pub taken : HaveTaken operators transforms come
  pub chain : Chain before transforms w.after
  pub given : given_all transforms (done come) ≡ done (out ++ more)
  pub whole : whole_all w.transforms (done rows) ≡ whole_all transforms (done come)
  pub sink : has s w.after out → has t w.after (out ++ more)

module _ {S : Type 0} (has : S → Fields → List Row → Type 0) (w : Transforming) (rows out : List Row) (s : S) where
  pub ending-begins : (rs : List RunningOperator) → HasRun rs w rows out → IsEnding has w rows out s s rs
  ending-begins rs run = record {
    transforms = w.transforms;
    before = w.before;
    come = rows;
    more = [];
    taken = run.taken;
    chain = run.chain;
    given = run.given ∙ ap (λ (xs : List Row). done xs) (sym (append-nil out));
    whole = refl;
    sink = subst (λ (xs : List Row). has s w.after xs) (sym (append-nil out));
  }

  pub ending-ends : (t : S) → IsEnding has w rows out s t [] → has s w.after out → (more : List Row) × ((whole_all w.transforms (done rows) ≡ done (out ++ more)) × has t w.after (out ++ more))
  ending-ends t e h = (e.more, (e.whole ∙ none e.transforms e.taken ∙ e.given, e.sink h))
    where
      none : (ms : List Transform) → HaveTaken [] ms e.come → whole_all ms (done e.come) ≡ given_all ms (done e.come)
      none [] taken = refl
      none (m ∷ ms) taken = absurd taken

  module _ (now : List RunningOperator) (place : ℕ) (r r' : RunningOperator) (p : Passed) (ended : (m : Transform) (rows : List Row) → HasTaken r m rows → HasEnded m rows p) (t : S) (e : IsEnding has w rows out s t (drop place now)) where
    module _ (m : Transform) (rest : List Transform) (split : e.transforms ≡ m ∷ rest) (taken : HasTaken r m e.come) (others : HaveTaken (drop (place + 1) now) rest (m.at_once e.come).rows) where
      ended-chain : Chain m.gives rest w.after
      ended-chain = (subst (λ (ns : List Transform). Chain e.before ns w.after) split e.chain).1

      ended-taken : HaveTaken (drop (place + 1) (set now place r')) rest (m.at_once e.come).rows
      ended-taken = subst (λ (rs : List RunningOperator). HaveTaken rs rest (m.at_once e.come).rows) (sym (after-set now place r')) others

      ended-whole : whole_all w.transforms (done rows) ≡ whole_all rest (then_stream (done (m.at_once e.come).rows) (passed_stream p))
      ended-whole =
          e.whole
          ∙ ap (λ (ns : List Transform). whole_all ns (done e.come)) split
          ∙ ap (whole_all rest) (sym (ended m e.come taken).last ∙ ap (λ (a : Stream Fault). then_stream a (passed_stream p)) (open-is (m.at_once e.come) taken.faultless))

      part-left : (ms : List Transform) × ((rows : List Row) × ((before : Fields) × ((after : Fields) × (HaveTaken (drop (place + 1) (set now place r')) ms rows × (Chain before ms after × IsUnder before p.batch)))))
      part-left = (rest, ((m.at_once e.come).rows, (m.gives, (w.after, (ended-taken, (ended-chain, (ended m e.come taken).columns))))))

      faults-left : (f : Fault) → ((ms : List Transform) (rows : List Row) (before after : Fields) → HaveTaken (drop (place + 1) (set now place r')) ms rows → Chain before ms after → IsUnder before p.batch → EndsIn ms rows (passed_stream p) f) →
          (whole_all w.transforms (done rows)).fault ≡ Some f
      faults-left f ends =
          ap (λ (u : Stream Fault). u.fault) ended-whole
          ∙ ap (λ (u : Stream Fault). (whole_all rest u).fault) (sym (then-nothing (then_stream (done (m.at_once e.come).rows) (passed_stream p))))
          ∙ ends rest (m.at_once e.come).rows m.gives w.after ended-taken ended-chain (ended m e.come taken).columns (done [])

      on-left : (later : List RunningOperator) (u : S) → TakesPart has (drop (place + 1) (set now place r')) (drop (place + 1) later) p t u → IsEnding has w rows out s u (drop (place + 1) later)
      on-left later u takes =
          let on = takes rest (m.at_once e.come).rows m.gives w.after ended-taken ended-chain (ended m e.come taken).columns in
          record {
            transforms = rest;
            before = m.gives;
            come = (m.at_once e.come).rows ++ rows_in p.batch;
            more = e.more ++ on.1.more;
            taken = on.1.have;
            chain = ended-chain;
            given =
                on.1.given
                ∙ ap (λ (v : Stream Fault). then_stream v (done on.1.more))
                (ap (given_all rest) (sym (given-open m e.come taken.faultless))
                ∙ ap (λ (ns : List Transform). given_all ns (done e.come)) (sym split)
                ∙ e.given)
                ∙ ap (λ (xs : List Row). done xs) (append_assoc out e.more on.1.more);
            whole = ended-whole ∙ ap (whole_all rest) (λ i. stream ((m.at_once e.come).rows ++ rows_in p.batch) (on.0 i));
            sink = λ h. subst (λ (xs : List Row). has u w.after xs) (append_assoc out e.more on.1.more) (on.1.sink (out ++ e.more) (e.sink h));
          }

    module _ (within : place < length now) (is : r ≡ get_or now place r) where
      abbrev first-left : (m : Transform) × ((rest : List Transform) × ((e.transforms ≡ m ∷ rest) × (HasTaken r m e.come × HaveTaken (drop (place + 1) now) rest (m.at_once e.come).rows)))
      first-left = first-of (drop place now) r (drop (place + 1) now) e.transforms e.come (read-at now place r within is) e.taken

      pub ending-part : (ms : List Transform) × ((rows : List Row) × ((before : Fields) × ((after : Fields) × (HaveTaken (drop (place + 1) (set now place r')) ms rows × (Chain before ms after × IsUnder before p.batch)))))
      ending-part = let x = first-left in part-left x.0 x.1.0 x.1.1.0 x.1.1.1.0 x.1.1.1.1

      pub ending-faults : (f : Fault) → ((ms : List Transform) (rows : List Row) (before after : Fields) → HaveTaken (drop (place + 1) (set now place r')) ms rows → Chain before ms after → IsUnder before p.batch → EndsIn ms rows (passed_stream p) f) →
          (whole_all w.transforms (done rows)).fault ≡ Some f
      ending-faults = let x = first-left in faults-left x.0 x.1.0 x.1.1.0 x.1.1.1.0 x.1.1.1.1

      pub ending-on : (later : List RunningOperator) (u : S) → TakesPart has (drop (place + 1) (set now place r')) (drop (place + 1) later) p t u → IsEnding has w rows out s u (drop (place + 1) later)
      ending-on = let x = first-left in on-left x.0 x.1.0 x.1.1.0 x.1.1.1.0 x.1.1.1.1

  pub ending-can : (now : List RunningOperator) (place : ℕ) (r : RunningOperator) (t : S) → IsEnding has w rows out s t (drop place now) → place < length now → r ≡ get_or now place r → (m : Transform) × ((rows : List Row) × HasTaken r m rows)
  ending-can now place r t e within is =
      let x = first-of (drop place now) r (drop (place + 1) now) e.transforms e.come (read-at now place r within is) e.taken in
      (x.0, (e.come, x.1.1.1.0))

-- ---- operators that have run

pub run-on : {S : Type 0} (has : S → Fields → List Row → Type 0) (rs qs : List RunningOperator) (w : Transforming) (rows out taken : List Row) (s t : S) → HasRun rs w rows out → HandsOn has qs w.transforms rows w.after taken s t →
    (more : List Row) × (HasRun qs w (rows ++ taken) (out ++ more) × (has s w.after out → has t w.after (out ++ more)))
run-on has rs qs w rows out taken s t run on = (
  on.more,
  (record { taken = on.have; chain = run.chain; given = on.given ∙ ap (λ (v : Stream Fault). then_stream v (done on.more)) run.given }, on.sink out),
)
