-- A plan's meaning over files that differ only in columns that it does not need.
use Rattle.std.proofs.Common.{◌≡◌, ℕ, zero, suc, ◌+◌, Bool, true, false, not, List, [], ◌∷◌, ◌++◌, ◌-◌, length, map, take, drop, nat_lt, nat_abs, pos, negsuc, ℤ, sum_by, Option, Some, None, Result, Ok, Err, refl, ap, sym, ◌∙◌, subst, arith}
use Rattle.std.specs.Prelude.{All, IsOk, option_map, slice_get, slice_index_or}
use Rattle.std.specs.Bool.{◌==◌}
use Rattle.std.specs.Result.{result_map_both, result_unwrap_or}
use Rattle.std.proofs.lemmas.List.{drop-map, drop-take, length-map, take-map, take-take}
use Rattle.std.proofs.lemmas.List.Elements.{All-append, All-head, All-nil, All-tail}
use Rattle.std.proofs.lemmas.List.Sums.{sum_by-cons}
use Rattle.std.proofs.lemmas.Option.{slice_get-map}
use Rattle.fq_column.specs.declared.cells.Kind.TheVariants.{Whole}
use Rattle.fq_column.specs.declared.faults.StepFault.{StepFault}
use Rattle.fq_column.specs.declared.faults.StepFault.TheVariants.{TooMany, DoubleName, NoColumn, NoSuchSource}
use Rattle.fq_column.specs.declared.schemas.TheConstants.{MAX_COLUMNS}
use Rattle.fq_column.specs.Agreement.{marked, AllAgreeOn, StreamsAgreeOn}
use Rattle.fq_column.specs.Frame.{Fields, Frame, Name, Row, names_of, same_name}
use Rattle.fq_column.specs.Lists.{is_distinct}
use Rattle.fq_column.specs.Masked.{masked_stream}
use Rattle.fq_column.specs.Refusal.{first_refusal, refuse_if}
use Rattle.fq_column.specs.Schema.{schema_checks}
use Rattle.fq_column.specs.Stream.{Stream, rename_fault, then_stream}
use Rattle.fq_column.proofs.AgreementLemmas.{agree-all, all-agree-append, streams-equal}
use Rattle.fq_column.proofs.MaskedLemmas.{all-agree-masked}
use Rattle.fq_column.proofs.PutLemmas.{is_distinct-put_named}
use Rattle.fq_csv.specs.declared.faults.ScanFault.{ScanFault}
use Rattle.fq_csv.specs.Sources.{Source, but_last, last_or}
use Rattle.fq_expr.proofs.NeededLemmas.{apply_step-agree, step-distinct}
use Rattle.fq_language.specs.declared.faults.CheckFault.{CheckFault}
use Rattle.fq_language.specs.declared.faults.Place.TheVariants as place
use Rattle.fq_language.specs.Judged.{judged, judged_step, judged_steps, refused_at, source_refusal}
use Rattle.fq_language.specs.Plan.{PlanStep, row_wise, join, group_by, rolling_sum, PlanData, main_fields, side_fields, side_files}
use Rattle.fq_ops.specs.declared.joins.How.{How}
use Rattle.fq_ops.specs.Join.{join_schema, join_stream}
use Rattle.fq_ops.specs.Roll.{roll_schema}
use Rattle.fq_ops.proofs.NeededLemmas.{group_stream-same, join_stream-agree, roll_stream-agree, joined-distinct, roll-after}
use Rattle.fq_plan.specs.Meaning.{apply_plan_step, apply_plan_steps, meaning, meaning_of_sources}
use Rattle.fq_plan.proofs.StageMeaning.{columns-of-frames, length-sources}
use Rattle.fq_plan.specs.Needed.{AllStreamsAgreeOn, AreWide, DifferInUnneeded, needed_alone, needed_before_step, needed_before_steps, needed_columns}
use Rattle.fq_run.specs.declared.faults.Fault.{Fault}
use Rattle.fq_run.specs.declared.faults.Fault.TheVariants.{Overflow, JoinRows, RollRange, SumRange}
use Rattle.fq_run.specs.declared.operators.joining.TheConstants.{MAX_JOINED_ROWS}
use Rattle.fq_run.specs.Outcome.{frame_or_fault}
use Rattle.fq_run.specs.Sources.{concat_streams, first_fault, frames_of, scan_fault, source_streams}

-- ---- steps

abbrev columns_in : List Frame → List Fields
columns_in sides = map (λ (f : Frame). f.fields) sides

-- the rows of frames are as wide as their columns
abbrev HaveWidth : List Frame → Type 0
HaveWidth [] = Unit {0}
HaveWidth (f ∷ sides) = All (λ row. length row ≡ length f.fields) f.rows × HaveWidth sides

width-at : (sides : List Frame) → HaveWidth sides → (i : ℕ) (right : Frame) → slice_get sides i ≡ Some right → All (λ row. length row ≡ length right.fields) right.rows
width-at [] w i right e = absurd (cc)
width-at (f ∷ sides) w zero right e = subst (λ (g : Frame). All (λ row. length row ≡ length g.fields) g.rows) (let s : f ≡ right = cc in s) w.0
width-at (f ∷ sides) w (suc i) right e = width-at sides w.1 i right e

-- a step that is not refused, and the steps after it
judged-first : (sides : List Fields) (n : ℕ) (fields : Fields) (s : PlanStep) (steps : List PlanStep) (schemas : List Fields) → judged_steps sides n fields (s ∷ steps) ≡ Ok schemas →
    (judged_step sides fields s ≡ Ok (result_unwrap_or (judged_step sides fields s) fields))
    × ((rest : List Fields) × (judged_steps sides (n + 1) (result_unwrap_or (judged_step sides fields s) fields) steps ≡ Ok rest))
judged-first sides n fields s steps schemas e = go (judged_step sides fields s) e
  where
    later : (r : Result (List Fields) CheckFault) → result_map_both (λ rest. fields ∷ rest) (λ f. f) r ≡ Ok schemas → (rest : List Fields) × (r ≡ Ok rest)
    later (Ok rest) f = (rest, refl)
    later (Err x) f = absurd (cc)

    go : (r : Result Fields StepFault) →
        (elim r as (λ _. Result (List Fields) CheckFault) [ Err code ↦ Err (refused_at (place.Step n) code) | Ok after ↦ result_map_both (λ rest. fields ∷ rest) (λ e. e) (judged_steps sides (n + 1) after steps) ]) ≡ Ok schemas →
        (r ≡ Ok (result_unwrap_or r fields)) × ((rest : List Fields) × (judged_steps sides (n + 1) (result_unwrap_or r fields) steps ≡ Ok rest))
    go (Ok after) f = (refl, later (judged_steps sides (n + 1) after steps) f)
    go (Err code) f = absurd (cc)

module _ (sides : List Frame) (wide : HaveWidth sides) where
  abbrev needed : Fields → List PlanStep → List Name
  needed fields steps = needed_before_steps (columns_in sides) fields steps

  abbrev after : Fields → PlanStep → Fields
  after fields s = result_unwrap_or (judged_step (columns_in sides) fields s) fields

  -- the columns and the stream that one step leaves, if the next ones take it
  module _ (n : ℕ) (fields : Fields) (distinct : is_distinct same_name (names_of fields) ≡ true) (wanted : List Name) (u v : Stream Fault) where
    abbrev Leaves : PlanStep → Fields → Type 0
    Leaves s left = StreamsAgreeOn (marked wanted left) (apply_plan_step sides n fields s u) (apply_plan_step sides n fields s v) × (is_distinct same_name (names_of left) ≡ true)

    join-leaves : (source : ℤ) (on : List Name) (how : How) (nulls_equal : Bool) (left : Fields) → judged_step (columns_in sides) fields (join source on how nulls_equal) ≡ Ok left →
        StreamsAgreeOn (marked (needed_before_step (join source on how nulls_equal) wanted) fields) u v → Leaves (join source on how nulls_equal) left
    join-leaves (negsuc i) on how nulls_equal left judged h = absurd (cc)
    join-leaves (pos i) on how nulls_equal left judged h =
        go (slice_get sides i) refl (ap (λ o. elim o as (λ _. Result Fields StepFault) [ None ↦ Err NoSuchSource | Some right ↦ join_schema how fields right on ]) (sym (slice_get-map (λ (f : Frame). f.fields) sides i)) ∙ judged)
      where
        go : (o : Option Frame) → slice_get sides i ≡ o → (elim (option_map (λ (f : Frame). f.fields) o) as (λ _. Result Fields StepFault) [ None ↦ Err NoSuchSource | Some right ↦ join_schema how fields right on ]) ≡ Ok left →
            StreamsAgreeOn (marked wanted left)
            (elim o as (λ _. Stream Fault) [ None ↦ u | Some right ↦ join_stream how nulls_equal fields right.fields on right.rows MAX_JOINED_ROWS (JoinRows n) u ])
            (elim o as (λ _. Stream Fault) [ None ↦ v | Some right ↦ join_stream how nulls_equal fields right.fields on right.rows MAX_JOINED_ROWS (JoinRows n) v ])
            × (is_distinct same_name (names_of left) ≡ true)
        go None at e = absurd (cc)
        go (Some right) at e =
            let d = joined-distinct how fields right.fields on left e in (
              subst (λ (fs : Fields). StreamsAgreeOn (marked wanted fs) (join_stream how nulls_equal fields right.fields on right.rows MAX_JOINED_ROWS (JoinRows n) u) (join_stream how nulls_equal fields right.fields on right.rows MAX_JOINED_ROWS (JoinRows n) v)) d.0
                  (join_stream-agree how nulls_equal fields right.fields on right.rows MAX_JOINED_ROWS (JoinRows n) wanted (width-at sides wide i right at) u v h),
              d.1,
            )

    roll-leaves : (column : Name) (window min_samples : ℤ) (name : Name) (left : Fields) → roll_schema fields column window min_samples name ≡ Ok left →
        StreamsAgreeOn (marked (needed_before_step (rolling_sum column window min_samples name) wanted) fields) u v → Leaves (rolling_sum column window min_samples name) left
    roll-leaves column window min_samples name left judged h =
        let is = roll-after fields column window min_samples name left judged in (
          subst (λ (fs : Fields). StreamsAgreeOn (marked wanted fs) (apply_plan_step sides n fields (rolling_sum column window min_samples name) u) (apply_plan_step sides n fields (rolling_sum column window min_samples name) v)) is
              (roll_stream-agree fields column (nat_abs window) (nat_abs min_samples) name wanted (RollRange n) distinct u v h),
          ap (λ (fs : Fields). is_distinct same_name (names_of fs)) (sym is) ∙ is_distinct-put_named fields (name, Whole) distinct,
        )

  -- steps make the same of streams that agree in the columns that they need
  pub steps-same : (steps : List PlanStep) (n : ℕ) (fields : Fields) (schemas : List Fields) → is_distinct same_name (names_of fields) ≡ true → judged_steps (columns_in sides) n fields steps ≡ Ok schemas →
      (u v : Stream Fault) → StreamsAgreeOn (marked (needed fields steps) fields) u v → apply_plan_steps sides n fields steps u ≡ apply_plan_steps sides n fields steps v
  steps-same [] n fields schemas d judged u v h =
      ap (λ (w : Stream Fault). (fields, w)) (streams-equal (marked (names_of fields) fields) (agree-all _ (names_of fields) (λ m e. e)) u v h)
  steps-same (row_wise s ∷ steps) n fields schemas d judged u v h =
      let first = judged-first (columns_in sides) n fields (row_wise s) steps schemas judged in
      let left = after fields (row_wise s) in
      steps-same steps (n + 1) left first.1.0 (step-distinct fields left s d first.0) first.1.1 _ _
      (apply_step-agree Overflow n fields left s (needed left steps) d first.0 u v h)
  steps-same (join source on how nulls_equal ∷ steps) n fields schemas d judged u v h =
      let first = judged-first (columns_in sides) n fields (join source on how nulls_equal) steps schemas judged in
      let left = after fields (join source on how nulls_equal) in
      let leaves = join-leaves n fields d (needed left steps) u v source on how nulls_equal left first.0 h in
      steps-same steps (n + 1) left first.1.0 leaves.1 first.1.1 _ _ leaves.0
  steps-same (group_by keys aggs ∷ steps) n fields schemas d judged u v h =
      ap (λ (w : Stream Fault). apply_plan_steps sides (n + 1) (after fields (group_by keys aggs)) steps w) (group_stream-same fields keys aggs (SumRange n) u v h)
  steps-same (rolling_sum column window min_samples name ∷ steps) n fields schemas d judged u v h =
      let first = judged-first (columns_in sides) n fields (rolling_sum column window min_samples name) steps schemas judged in
      let left = after fields (rolling_sum column window min_samples name) in
      let leaves = roll-leaves n fields d (needed left steps) u v column window min_samples name left first.0 h in
      steps-same steps (n + 1) left first.1.0 leaves.1 first.1.1 _ _ leaves.0

-- ---- the streams of sources

module _ {F : Type 0} (marks : List Bool) where
  then-agree : (rs ss : List Row) (e f : Option F) → AllAgreeOn marks rs ss → e ≡ f → (u v : Stream F) → StreamsAgreeOn marks u v →
      StreamsAgreeOn marks (then_stream (record { rows = rs; fault = e }) u) (then_stream (record { rows = ss; fault = f }) v)
  then-agree rs ss None None h p u v k = record { rows = all-agree-append marks rs ss u.rows v.rows h k.rows; fault = k.fault }
  then-agree rs ss None (Some f) h p u v k = absurd (cc)
  then-agree rs ss (Some e) None h p u v k = absurd (cc)
  then-agree rs ss (Some e) (Some f) h p u v k = record { rows = h; fault = p }

  concat-agree : (us vs : List (Stream F)) → AllStreamsAgreeOn marks us vs → StreamsAgreeOn marks (concat_streams us) (concat_streams vs)
  concat-agree [] [] h = record { rows = tt; fault = refl }
  concat-agree [] (v ∷ vs) h = absurd h
  concat-agree (u ∷ us) [] h = absurd h
  concat-agree (u ∷ us) (v ∷ vs) h = then-agree u.rows v.rows u.fault v.fault h.0.rows h.0.fault (concat_streams us) (concat_streams vs) (concat-agree us vs h.1)

  renamed-agree : {G : Type 0} (name : F → G) (us vs : List (Stream F)) → AllStreamsAgreeOn marks us vs → AllStreamsAgreeOn marks (map (rename_fault name) us) (map (rename_fault name) vs)
  renamed-agree name [] [] h = tt
  renamed-agree name [] (v ∷ vs) h = absurd h
  renamed-agree name (u ∷ us) [] h = absurd h
  renamed-agree name (u ∷ us) (v ∷ vs) h = (record { rows = h.0.rows; fault = ap (option_map name) h.0.fault }, renamed-agree name us vs h.1)

-- the streams of sources are those of their own files
streams-taken : {F : Type 0} (sources : List Source) (us : List (Stream F)) → source_streams sources us ≡ source_streams sources (take (sum_by (λ (s : Source). s.files) sources) us)
streams-taken [] us = refl
streams-taken (s ∷ sources) us =
    let rest = sum_by (λ (t : Source). t.files) sources in
    let all : sum_by (λ (t : Source). t.files) (s ∷ sources) ≡ s.files + rest = sum_by-cons (λ (t : Source). t.files) s sources in
    (λ i. concat_streams (sym (take-take s.files (s.files + rest) us (omega arith)) i) ∷ (streams-taken sources (drop s.files us) ∙ ap (source_streams sources) (sym (drop-take s.files rest us))) i)
    ∙ ap (λ n. source_streams (s ∷ sources) (take n us)) (sym all)

module _ {F G : Type 0} (name : F → G) where
  -- rows as wide as columns, joined
  concat-wide : (width : ℕ) (us : List (Stream F)) → All (λ u. All (λ row. length row ≡ width) u.rows) us → All (λ row. length row ≡ width) (concat_streams (map (rename_fault name) us)).rows
  concat-wide width [] w = All-nil (λ row. length row ≡ width)
  concat-wide width (u ∷ us) w = go u.rows u.fault (All-head (λ (u : Stream F). All (λ row. length row ≡ width) u.rows) u us w) (concat-wide width us (All-tail (λ (u : Stream F). All (λ row. length row ≡ width) u.rows) u us w))
    where
      go : (rows : List Row) (end : Option F) → All (λ row. length row ≡ width) rows → All (λ row. length row ≡ width) (concat_streams (map (rename_fault name) us)).rows →
          All (λ row. length row ≡ width) (then_stream (rename_fault name (record { rows = rows; fault = end })) (concat_streams (map (rename_fault name) us))).rows
      go rows None a b = All-append (λ row. length row ≡ width) rows (concat_streams (map (rename_fault name) us)).rows a b
      go rows (Some f) a b = a

  frames-wide : (sources : List Source) (us : List (Stream F)) → AreWide sources us → HaveWidth (frames_of sources (source_streams sources (map (rename_fault name) us)))
  frames-wide [] us w = tt
  frames-wide (s ∷ sources) us w = (
    subst (λ (vs : List (Stream G)). All (λ row. length row ≡ length s.fields) (concat_streams vs).rows) (sym (take-map (rename_fault name) s.files us)) (concat-wide (length s.fields) (take s.files us) w.0),
    subst (λ (vs : List (Stream G)). HaveWidth (frames_of sources (source_streams sources vs))) (sym (drop-map (rename_fault name) s.files us)) (frames-wide sources (drop s.files us) w.1),
  )

-- ---- plans

none-distinct : (a b d : Bool) → first_refusal (refuse_if a NoColumn ∷ refuse_if b TooMany ∷ refuse_if (not d) DoubleName ∷ []) ≡ None → d ≡ true
none-distinct true b d e = absurd (cc)
none-distinct false true d e = absurd (cc)
none-distinct false false true e = refl
none-distinct false false false e = absurd (cc)

first-passes : (n : ℕ) (s : Source) (sources : List Source) → source_refusal n (s ∷ sources) ≡ None → (first_refusal (schema_checks (names_of s.fields)) ≡ None) × (source_refusal (n + 1) sources ≡ None)
first-passes n s sources e = go (first_refusal (schema_checks (names_of s.fields))) e
  where
    go : (o : Option StepFault) → (elim o as (λ _. Option CheckFault) [ Some code ↦ Some (refused_at (place.Source n) code) | None ↦ source_refusal (n + 1) sources ]) ≡ None → (o ≡ None) × (source_refusal (n + 1) sources ≡ None)
    go None f = (refl, f)
    go (Some code) f = absurd (cc)

-- the names of the main source's columns differ, if no source is refused
distinct-main : (sources : List Source) (n : ℕ) → source_refusal n sources ≡ None → is_distinct same_name (names_of (last_or [] (map (λ (s : Source). s.fields) sources))) ≡ true
distinct-main [] n e = refl
distinct-main (s ∷ []) n e = let names = names_of s.fields in
    none-distinct (length names == 0) (nat_lt MAX_COLUMNS (length names)) (is_distinct same_name names) (first-passes n s [] e).0
distinct-main (s ∷ t ∷ sources) n e =
    let columns : List Fields = map (λ (s : Source). s.fields) (t ∷ sources) in
    ap (λ i. is_distinct same_name (names_of (slice_index_or (s.fields ∷ columns) i []))) (let i : length (s.fields ∷ columns) - 1 ≡ suc (length columns - 1) = omega arith in i)
    ∙ distinct-main (t ∷ sources) (n + 1) (first-passes n s (t ∷ sources) e).1

module _ (p : PlanData) (accepted : IsOk (judged p)) where
  abbrev Unrefused : Type 0
  Unrefused = (source_refusal 0 p.sources ≡ None) × ((schemas : List Fields) × (judged_steps (side_fields p) 0 (main_fields p) p.steps ≡ Ok schemas))

  unrefused : Unrefused
  unrefused = go (source_refusal 0 p.sources) accepted
    where
      by : (r : Result (List Fields) CheckFault) → IsOk r → (schemas : List Fields) × (r ≡ Ok schemas)
      by (Ok schemas) e = (schemas, refl)
      by (Err refusal) e = absurd (cc)

      go : (o : Option CheckFault) → IsOk (elim o as (λ _. Result (List Fields) CheckFault) [ Some refusal ↦ Err refusal | None ↦ judged_steps (side_fields p) 0 (main_fields p) p.steps ]) →
          (o ≡ None) × ((schemas : List Fields) × (judged_steps (side_fields p) 0 (main_fields p) p.steps ≡ Ok schemas))
      go None e = (refl, by (judged_steps (side_fields p) 0 (main_fields p) p.steps) e)
      go (Some refusal) e = absurd (cc)

  -- over the streams of sources
  sources-same : (sides : List (Stream Fault)) → length sides ≡ length (but_last p.sources) → HaveWidth (frames_of (but_last p.sources) sides) →
      (main other : Stream Fault) → StreamsAgreeOn (needed_columns p) main other → meaning_of_sources p sides main ≡ meaning_of_sources p sides other
  sources-same sides count wide main other h =
      let frames : List Frame = frames_of (but_last p.sources) sides in
      let columns : columns_in frames ≡ side_fields p = columns-of-frames (but_last p.sources) sides count in
      let steps = steps-same frames wide p.steps 0 (main_fields p) unrefused.1.0 (distinct-main p.sources 0 unrefused.0)
      (ap (λ (fs : List Fields). judged_steps fs 0 (main_fields p) p.steps) columns ∙ unrefused.1.1) main other
      (subst (λ (fs : List Fields). StreamsAgreeOn (marked (needed_before_steps fs (main_fields p) p.steps) (main_fields p)) main other) (sym columns) h) in
      ap (λ (r : Fields × Stream Fault). elim (first_fault sides) as (λ _. Result Frame Fault) [ Some f ↦ Err f | None ↦ frame_or_fault r.0 r.1 ]) steps

  -- over the streams of files
  pub needed-same : (us vs : List (Stream ScanFault)) → DifferInUnneeded p us vs → meaning p us ≡ meaning p vs
  needed-same us vs h =
      let sides : List Source = but_last p.sources in
      let n = side_files p in
      let renamed : List (Stream ScanFault) → List (Stream Fault) = λ ws. map (rename_fault scan_fault) ws in
      let streams : List (Stream ScanFault) → List (Stream Fault) = λ ws. source_streams sides (renamed ws) in
      let own : (ws : List (Stream ScanFault)) → streams ws ≡ source_streams sides (renamed (take n ws)) =
      λ ws. streams-taken sides (renamed ws) ∙ ap (source_streams sides) (take-map (rename_fault scan_fault) n ws) in
      let same : streams us ≡ streams vs = own us ∙ ap (λ ws. source_streams sides (renamed ws)) h.sides ∙ sym (own vs) in
      let main : StreamsAgreeOn (needed_columns p) (concat_streams (renamed (drop n us))) (concat_streams (renamed (drop n vs))) =
      concat-agree (needed_columns p) (renamed (drop n us)) (renamed (drop n vs)) (renamed-agree (needed_columns p) scan_fault (drop n us) (drop n vs) h.main) in
      ap (λ ws. meaning_of_sources p (streams us) (concat_streams ws)) (drop-map (rename_fault scan_fault) n us)
      ∙ sources-same (streams us) (length-sources sides (renamed us)) (frames-wide scan_fault sides us h.wide) (concat_streams (renamed (drop n us))) (concat_streams (renamed (drop n vs))) main
      ∙ ap (λ ws. meaning_of_sources p (streams us) (concat_streams ws)) (sym (drop-map (rename_fault scan_fault) n vs))
      ∙ ap (λ ss. meaning_of_sources p ss (concat_streams (drop n (renamed vs)))) same

-- ---- files with null in the place of each cell that is not needed

module _ {X : Type 0} (f : X → X) where
  taken-before : (n : ℕ) (xs : List X) → take n (take n xs ++ map f (drop n xs)) ≡ take n xs
  taken-before zero xs = refl
  taken-before (suc n) [] = refl
  taken-before (suc n) (x ∷ xs) = ap (λ ys. x ∷ ys) (taken-before n xs)

  dropped-before : (n : ℕ) (xs : List X) → drop n (take n xs ++ map f (drop n xs)) ≡ map f (drop n xs)
  dropped-before zero xs = refl
  dropped-before (suc n) [] = refl
  dropped-before (suc n) (x ∷ xs) = dropped-before n xs

all-masked : {F : Type 0} (marks : List Bool) (us : List (Stream F)) → All (λ u. All (λ row. length row ≡ length marks) u.rows) us →
    AllStreamsAgreeOn marks us (map (masked_stream marks) us)
all-masked marks [] w = tt
all-masked {F} marks (u ∷ us) w = (
  record { rows = all-agree-masked marks u.rows (All-head (λ (u : Stream F). All (λ row. length row ≡ length marks) u.rows) u us w); fault = refl },
  all-masked marks us (All-tail (λ (u : Stream F). All (λ row. length row ≡ length marks) u.rows) u us w),
)

pub alone-same : (p : PlanData) → IsOk (judged p) → (us : List (Stream ScanFault)) → AreWide (but_last p.sources) us →
    All (λ u. All (λ row. length row ≡ length (main_fields p)) u.rows) (drop (side_files p) us) → meaning p us ≡ meaning p (needed_alone p us)
alone-same p accepted us sides main =
    let marks = needed_columns p in
    let n = side_files p in
    let f : Stream ScanFault → Stream ScanFault = masked_stream marks in
    let count : length marks ≡ length (main_fields p) = length-map (names_of (main_fields p)) _ ∙ length-map (main_fields p) (λ f. f.0) in
    let wide = subst (λ (k : ℕ). All (λ (u : Stream ScanFault). All (λ row. length row ≡ k) u.rows) (drop n us)) (sym count) main in
    needed-same p accepted us (needed_alone p us) (record {
      sides = sym (taken-before f n us);
      wide = sides;
      main = subst (λ (vs : List (Stream ScanFault)). AllStreamsAgreeOn marks (drop n us) vs) (sym (dropped-before f n us)) (all-masked marks (drop n us) wide);
    })
