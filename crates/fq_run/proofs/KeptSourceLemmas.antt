-- What a run keeps of its sources: their files and columns, and that each fault of theirs is one of a file's text or of a step.
use Rattle.std.proofs.Common.{◌≡◌, ℕ, ◌+◌, ◌-◌, Bool, true, false, nat_lt, cond, List, [], ◌∷◌, ◌++◌, map, length, is_some, Option, Some, None, Result, Ok, Err, refl, ap, sym, ◌∙◌, subst}
use Rattle.std.specs.Prelude.{option_map, slice_index_or, string_bytes}
use Rattle.std.proofs.lemmas.List.{length-map}
use Rattle.fq_column.specs.Frame.{Fields, Frame, Name, Row}
use Rattle.fq_column.specs.Schema.{same_fields}
use Rattle.fq_column.specs.Stream.{Stream, done, faulted, one_by_one, then_stream, rename_fault, step_on, whole_on}
use Rattle.fq_csv.specs.Records.{IsOfText}
use Rattle.fq_csv.specs.declared.faults.ScanFault.{ScanFault}
use Rattle.fq_csv.specs.declared.faults.ScanFault.TheVariants as scan
use Rattle.fq_expr.specs.Expression.{Step}
use Rattle.fq_expr.specs.Steps.{apply_step, apply_steps, fields_after, rows_after}
use Rattle.fq_expr.specs.declared.fronts.RowFault.{RowFault}
use Rattle.fq_column.specs.declared.pieces.Piece.{Piece}
use Rattle.fq_lanes.specs.Numbering.{AllNumbered}
use Rattle.fq_lanes.specs.TailTaking.{Took}
use Rattle.fq_ops.specs.AggregateData.{outputs_of}
use Rattle.fq_ops.specs.Group.{group_stream, grouped}
use Rattle.fq_ops.specs.Join.{join_rows, join_stream}
use Rattle.fq_ops.specs.Roll.{roll_rows, roll_stream}
use Rattle.fq_ops.specs.Table.{Table}
use Rattle.fq_run.specs.Gathering.{added_piece, added_stream, gathered, gathered_stream, taken_in}
use Rattle.fq_run.specs.Kept.{shape, Takes, IsSound, AreSound}
use Rattle.fq_run.specs.Run.{IsOfMeaning}
use Rattle.fq_run.specs.Sources.{first_fault, row_fault, scan_fault}
use Rattle.fq_run.specs.Starting.{nothing, transform_of, transforms_of}
use Rattle.fq_run.specs.declared.operators.joining.TheConstants.{MAX_JOINED_ROWS}
use Rattle.fq_run.specs.Transforms.{Transform, whole, whole_all}
use Rattle.fq_run.specs.Working.{piece_stream}
use Rattle.fq_run.specs.declared.faults.Fault.{Fault}
use Rattle.fq_run.specs.declared.faults.Fault.TheVariants as fault
use Rattle.fq_run.specs.declared.gathering.SideSource.{SideSource}
use Rattle.fq_run.specs.declared.leading_steps.Worked.{Worked}
use Rattle.fq_run.specs.declared.leading_steps.Worked.TheVariants as worked
use Rattle.fq_run.specs.declared.operators.Operator.{Operator}
use Rattle.fq_run.specs.declared.operators.Operator.TheVariants.{Rows, Join, GroupBy, RollingSum}
use Rattle.fq_run.specs.declared.stages.Stage.{Stage}
use Rattle.fq_run.proofs.TextItemLemmas.{IsTextWork}
use Rattle.fq_run.proofs.TransformLemmas.{group-whole, join-whole, roll-whole, steps-whole}

-- ---- files and columns

shape-taken : (file : ℕ) (out : Worked) (gs : List SideSource) → map shape (taken_in file out gs) ≡ map shape gs
shape-taken file out [] = refl
shape-taken file out (g ∷ gs) = go (nat_lt file g.files) (shape-taken (file - g.files) out gs)
  where
    go : (b : Bool) → map shape (taken_in (file - g.files) out gs) ≡ map shape gs → map shape (cond b (gathered g out ∷ gs) (g ∷ taken_in (file - g.files) out gs)) ≡ map shape (g ∷ gs)
    go true rest = refl
    go false rest = ap (λ ss. shape g ∷ ss) rest

pub columns-of-shapes : (gs : List SideSource) → map (λ (g : SideSource). g.batch.fields) gs ≡ map (λ (s : ℕ × Fields). s.1) (map shape gs)
columns-of-shapes [] = refl
columns-of-shapes (g ∷ gs) = ap (λ fss. g.batch.fields ∷ fss) (columns-of-shapes gs)

pub length-taken : (file : ℕ) (out : Worked) (gs : List SideSource) → length (taken_in file out gs) ≡ length gs
length-taken file out gs = sym (length-map (taken_in file out gs) shape) ∙ ap length (shape-taken file out gs) ∙ length-map gs shape

pub columns-taken : (file : ℕ) (out : Worked) (gs : List SideSource) → map (λ (g : SideSource). g.batch.fields) (taken_in file out gs) ≡ map (λ (g : SideSource). g.batch.fields) gs
columns-taken file out gs = columns-of-shapes (taken_in file out gs) ∙ ap (map (λ (s : ℕ × Fields). s.1)) (shape-taken file out gs) ∙ sym (columns-of-shapes gs)

-- ---- faults

sound-then : (u v : Stream Fault) → IsSound u.fault → IsSound v.fault → IsSound (then_stream u v).fault
sound-then u v = go u.fault refl
  where
    go : (o : Option Fault) → u.fault ≡ o → IsSound u.fault → IsSound v.fault → IsSound (then_stream u v).fault
    go None e s t = subst (λ (b : Bool). IsSound (cond b u (record { rows = u.rows ++ v.rows; fault = v.fault })).fault) (sym (ap is_some e)) t
    go (Some f) e s t = subst (λ (b : Bool). IsSound (cond b u (record { rows = u.rows ++ v.rows; fault = v.fault })).fault) (sym (ap is_some e)) s

sound-scan : (f : ScanFault) → IsOfText (Some f) → IsOfMeaning (scan_fault f)
sound-scan (scan.Header file) t = tt
sound-scan (scan.Width file row) t = tt
sound-scan (scan.BadCell file row column) t = tt
sound-scan (scan.TooLong file) t = tt
sound-scan (scan.Read file) t = t
sound-scan scan.Memory t = t

sound-named : {G : Type 0} (name : G → Fault) → ((g : G) → IsOfMeaning (name g)) → (o : Option G) → IsSound (option_map name o)
sound-named name h None = tt
sound-named name h (Some g) = h g

sound-piece : (fields : Fields) (p : Piece RowFault) → IsSound (added_piece fields p).fault
sound-piece fields p = go (same_fields p.batch.fields fields)
  where
    go : (b : Bool) → IsSound (cond b (piece_stream p) (done [])).fault
    go true = sound-named row_fault (λ f. tt) p.fault
    go false = tt

sound-added : (fields : Fields) (out : Worked) → IsTextWork out → IsSound (added_stream fields out).fault
sound-added fields (worked.Piece p) t = sound-piece fields p
sound-added fields (worked.Cut p f) t = sound-then (added_piece fields p) (faulted (scan_fault f)) (sound-piece fields p) (sound-scan f t)
sound-added fields (worked.Ended f) t = sound-scan f t

sound-gathered : (g : SideSource) (out : Worked) → IsTextWork out → IsSound g.fault → IsSound (gathered g out).fault
sound-gathered g out t s = sound-then (gathered_stream g) (added_stream g.batch.fields out) s (sound-added g.batch.fields out t)

sound-taken : (file : ℕ) (out : Worked) (gs : List SideSource) → IsTextWork out → AreSound gs → AreSound (taken_in file out gs)
sound-taken file out [] t s = tt
sound-taken file out (g ∷ gs) t s = go (nat_lt file g.files) (sound-taken (file - g.files) out gs t s.1)
  where
    go : (b : Bool) → AreSound (taken_in (file - g.files) out gs) → AreSound (cond b (gathered g out ∷ gs) (g ∷ taken_in (file - g.files) out gs))
    go true rest = (sound-gathered g out t s.0, s.1)
    go false rest = (s.0, rest)

pub sound-kept : (first : List SideSource) (log : List (ℕ × ℕ × Worked)) (last : List SideSource) → Took Takes first log last → AllNumbered (λ _ _ out. IsTextWork out) log → AreSound first → AreSound last
sound-kept first [] last t texts s = subst AreSound (sym t) s
sound-kept first (e ∷ log) last t texts s =
    sound-kept t.0 log last t.2 texts.1 (subst AreSound (sym t.1) (sound-taken e.0 e.2 first texts.0 s))

pub sound-first : (gs : List SideSource) → AreSound gs → IsSound (first_fault (map gathered_stream gs))
sound-first [] s = tt
sound-first (g ∷ gs) s = go g.fault s.0 (sound-first gs s.1)
  where
    go : (o : Option Fault) → IsSound o → IsSound (first_fault (map gathered_stream gs)) → IsSound (elim o as (λ _. Option Fault) [ Some f ↦ Some f | None ↦ first_fault (map gathered_stream gs) ])
    go None s rest = rest
    go (Some f) s rest = s

sound-step_on : {G : Type 0} (rows_step : List Row → Stream G) (name : G → Fault) → ((g : G) → IsOfMeaning (name g)) → (u : Stream Fault) → IsSound u.fault → IsSound (step_on rows_step name u).fault
sound-step_on rows_step name h u s = sound-then (rename_fault name (rows_step u.rows)) (record { rows = []; fault = u.fault }) (sound-named name h (rows_step u.rows).fault) s

sound-whole_on : {G : Type 0} (rows_step : List Row → Result (List Row) G) (name : G → Fault) → ((g : G) → IsOfMeaning (name g)) → (u : Stream Fault) → IsSound u.fault → IsSound (whole_on rows_step name u).fault
sound-whole_on {G} rows_step name h u s = go u.fault s
  where
    inner : (r : Result (List Row) G) → IsSound (elim r as (λ _. Stream Fault) [ Ok rows ↦ done rows | Err g ↦ faulted (name g) ]).fault
    inner (Ok rows) = tt
    inner (Err g) = h g

    go : (o : Option Fault) → IsSound o → IsSound (elim o as (λ _. Stream Fault) [ Some f ↦ faulted f | None ↦ elim (rows_step u.rows) [ Ok rows ↦ done rows | Err g ↦ faulted (name g) ] ]).fault
    go None t = inner (rows_step u.rows)
    go (Some f) t = t

sound-rows : (n : ℕ) (fields : Fields) (steps : List Step) (u : Stream Fault) → IsSound u.fault → IsSound (apply_steps fault.Overflow n fields steps u).fault
sound-rows n fields [] u h = h
sound-rows n fields (s ∷ steps) u h =
    sound-rows (n + 1) (fields_after fields s) steps (apply_step fault.Overflow n fields s u) (sound-step_on (one_by_one (rows_after fields s)) (fault.Overflow n) (λ g. tt) u h)

module _ (sides : List Frame) where
  abbrev sound : (u v : Stream Fault) → v ≡ u → IsSound u.fault → IsSound v.fault
  sound u v e s = subst (λ (w : Stream Fault). IsSound w.fault) (sym e) s

  sound-stage : (n : ℕ) (fields : Fields) (o : Operator) (u : Stream Fault) → IsSound u.fault → IsSound (whole (transform_of sides n fields o) u).fault
  sound-stage n fields (Rows front) u h =
      sound (apply_steps fault.Overflow front.first front.fields front.steps u) (whole (transform_of sides n fields (Rows front)) u) (steps-whole front u) (sound-rows front.first front.fields front.steps u h)
  sound-stage n fields (Join j) u h =
      let right : Frame = slice_index_or sides j.source nothing in
      let names : List Name = map string_bytes j.on.items in
      let t : Table = record { fields = right.fields; rows = right.rows; on = names; nulls_equal = j.nulls_equal } in
      sound (join_stream j.how j.nulls_equal fields right.fields names right.rows MAX_JOINED_ROWS (fault.JoinRows n) u) (whole (transform_of sides n fields (Join j)) u) (join-whole n j.how t fields u)
      (sound-step_on (join_rows j.how j.nulls_equal fields right.fields names right.rows MAX_JOINED_ROWS) (λ place. fault.JoinRows n) (λ g. tt) u h)
  sound-stage n fields (GroupBy g) u h =
      let names : List Name = map string_bytes g.keys.items in
      sound (group_stream fields names (outputs_of g.aggs.items) (fault.SumRange n) u) (whole (transform_of sides n fields (GroupBy g)) u) (group-whole n fields names (outputs_of g.aggs.items) u)
      (sound-whole_on (grouped fields names (outputs_of g.aggs.items)) (fault.SumRange n) (λ i. tt) u h)
  sound-stage n fields (RollingSum r) u h =
      sound (roll_stream fields (string_bytes r.column) r.window r.min_samples (string_bytes r.name) (fault.RollRange n) u) (whole (transform_of sides n fields (RollingSum r)) u)
      (roll-whole n fields (string_bytes r.column) r.window r.min_samples (string_bytes r.name) u)
      (sound-step_on (roll_rows fields (string_bytes r.column) r.window r.min_samples (string_bytes r.name)) (λ _. fault.RollRange n) (λ g. tt) u h)

  pub sound-stages : (fields : Fields) (stages : List Stage) (u : Stream Fault) → IsSound u.fault → IsSound (whole_all (transforms_of sides fields stages) u).fault
  sound-stages fields [] u h = h
  sound-stages fields (s ∷ stages) u h =
      let m : Transform = transform_of sides s.number fields s.operator in
      sound-stages m.gives stages (whole m u) (sound-stage s.number fields s.operator u h)
