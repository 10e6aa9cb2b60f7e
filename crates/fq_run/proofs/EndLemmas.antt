-- A plan comes to a frame only if no file ends in a fault.
use Rattle.std.proofs.Common.{◌≡◌, ℕ, ◌+◌, true, is_some, List, [], ◌∷◌, ◌++◌, map, take, drop, sum_by, Option, Some, None, option_map, Result, Ok, Err, IsOk, refl, ap, sym, subst, ◌∙◌, cond}
use Rattle.std.proofs.lemmas.List.{take-append-drop}
use Rattle.std.proofs.Math.Seq.{drop-drop}
use Rattle.std.proofs.lemmas.List.Sums.{sum_by-cons}
use Rattle.fq_column.specs.Frame.{Fields, Frame}
use Rattle.fq_column.specs.Stream.{Stream, rename_fault, then_stream}
use Rattle.fq_csv.specs.declared.faults.ScanFault.{ScanFault}
use Rattle.fq_expr.specs.Expression.{Step}
use Rattle.fq_expr.specs.Steps.{apply_step, apply_steps, fields_after}
use Rattle.fq_run.specs.Outcome.{columns_after, frame_or_fault, outcome}
use Rattle.fq_run.specs.Physical.{Physical, after_leading, front_fields, side_files, main_fields, outcome_of_files, outcome_of_run}
use Rattle.fq_csv.specs.Sources.{Source, but_last}
use Rattle.fq_run.specs.Sources.{concat_streams, first_fault, frames_of, scan_fault, source_streams}
use Rattle.fq_run.specs.Starting.{transforms_of}
use Rattle.fq_run.specs.Transforms.{Transform, given, whole, whole_all}
use Rattle.fq_run.specs.declared.faults.Fault.{Fault}
use Rattle.fq_run.specs.declared.faults.Fault.TheVariants.{Overflow}

module _ {F : Type 0} where
  -- no stream ends in a fault
  abbrev pub AllDone : List (Stream F) → Type 0
  AllDone [] = Unit {0}
  AllDone (u ∷ us) = (u.fault ≡ None) × AllDone us

  pub concat-done : (us : List (Stream F)) → (concat_streams us).fault ≡ None → AllDone us
  concat-done [] h = tt
  concat-done (u ∷ us) h = go (concat-done us) u.fault refl h
    where
      v : Stream F
      v = concat_streams us

      go : (v.fault ≡ None → AllDone us) → (o : Option F) → u.fault ≡ o → (let w : Stream F = cond (is_some o) u (record { rows = u.rows ++ v.rows; fault = v.fault }) in w.fault) ≡ None → AllDone (u ∷ us)
      go more None e h = (e, more h)
      go more (Some f) e h = absurd (cc (sym e ∙ h))

  first-done : (u : Stream F) (us : List (Stream F)) → first_fault (u ∷ us) ≡ None → (u.fault ≡ None) × (first_fault us ≡ None)
  first-done u us h = go u.fault refl h
    where
      go : (o : Option F) → u.fault ≡ o → (let p : Option F = elim o [ Some f ↦ Some f | None ↦ first_fault us ] in p) ≡ None → (u.fault ≡ None) × (first_fault us ≡ None)
      go None e h = (e, h)
      go (Some f) e h = absurd (cc h)

  done-append : (us vs : List (Stream F)) → AllDone us → AllDone vs → AllDone (us ++ vs)
  done-append [] vs h k = k
  done-append (u ∷ us) vs h k = (h.0, done-append us vs h.1 k)

  pub sources-done : (sources : List Source) (us : List (Stream F)) → first_fault (source_streams sources us) ≡ None → AllDone (drop (sum_by (λ s. s.files) sources) us) → AllDone us
  sources-done [] us h k = k
  sources-done (s ∷ sources) us h k =
      let both = first-done (concat_streams (take s.files us)) (source_streams sources (drop s.files us)) h in
      subst (λ (vs : List (Stream F)). AllDone vs) (take-append-drop s.files us)
      (done-append (take s.files us) (drop s.files us) (concat-done (take s.files us) both.0) (sources-done sources (drop s.files us) both.1 (subst (λ (vs : List (Stream F)). AllDone vs) rest k)))
    where
      rest : drop (sum_by (λ (t : Source). t.files) (s ∷ sources)) us ≡ drop (sum_by (λ (t : Source). t.files) sources) (drop s.files us)
      rest = ap (λ n. drop n us) (sum_by-cons (λ (t : Source). t.files) s sources) ∙ sym (drop-drop (sum_by (λ (t : Source). t.files) sources) s.files us)

  -- a fault is kept
  keeps-then : (u v : Stream F) → is_some v.fault ≡ true → is_some (then_stream u v).fault ≡ true
  keeps-then u v h = go u.fault refl
    where
      go : (o : Option F) → u.fault ≡ o → is_some (let w : Stream F = cond (is_some o) u (record { rows = u.rows ++ v.rows; fault = v.fault }) in w.fault) ≡ true
      go None e = h
      go (Some f) e = ap is_some e

keeps-rows : (n : ℕ) (fields : Fields) (steps : List Step) (u : Stream Fault) → is_some u.fault ≡ true → is_some (apply_steps Overflow n fields steps u).fault ≡ true
keeps-rows n fields [] u h = h
keeps-rows n fields (s ∷ steps) u h = keeps-rows (n + 1) (fields_after fields s) steps (apply_step Overflow n fields s u) (keeps-then _ (record { rows = []; fault = u.fault }) h)

keeps-whole : (m : Transform) (u : Stream Fault) → is_some u.fault ≡ true → is_some (whole m u).fault ≡ true
keeps-whole m u h = go u.fault h
  where
    go : (o : Option Fault) → is_some o ≡ true → is_some (elim o as (λ _. Stream Fault) [ Some f ↦ given m u | None ↦ m.in_all u.rows ]).fault ≡ true
    go None e = absurd (cc e)
    go (Some f) e = keeps-then (m.at_once u.rows) (record { rows = []; fault = u.fault }) h

keeps-all : (ms : List Transform) (u : Stream Fault) → is_some u.fault ≡ true → is_some (whole_all ms u).fault ≡ true
keeps-all [] u h = h
keeps-all (m ∷ ms) u h = keeps-all ms (whole m u) (keeps-whole m u h)

-- a fault of a stream is kept by what keeps faults, so an end without one had none
none-kept : (u v : Stream Fault) → (is_some u.fault ≡ true → is_some v.fault ≡ true) → v.fault ≡ None → u.fault ≡ None
none-kept u v keeps e = go u.fault refl
  where
    go : (o : Option Fault) → u.fault ≡ o → u.fault ≡ None
    go None g = g
    go (Some f) g = absurd (cc (sym (keeps (ap is_some g)) ∙ ap is_some e))

framed-done : (fields : Fields) (u : Stream Fault) → IsOk (frame_or_fault fields u) → u.fault ≡ None
framed-done fields u h = go u.fault refl h
  where
    go : (o : Option Fault) → u.fault ≡ o → IsOk (let r : Result Frame Fault = elim o [ None ↦ Ok (record { fields = fields; rows = u.rows }) | Some f ↦ Err f ] in r) → u.fault ≡ None
    go None e k = e
    go (Some f) e k = absurd (cc k)

outcome-done : (sides : List Frame) (p : Physical) (u : Stream Fault) → IsOk (outcome sides (front_fields p) p.stages (after_leading p u)) → u.fault ≡ None
outcome-done sides p u h =
    let ms : List Transform = transforms_of sides (front_fields p) p.stages in
    none-kept u (after_leading p u) (keeps-rows 0 (main_fields p) p.front u)
    (none-kept (after_leading p u) (whole_all ms (after_leading p u)) (keeps-all ms (after_leading p u))
    (framed-done (columns_after (front_fields p) ms) (whole_all ms (after_leading p u)) h))

all-done : (p : Physical) (us : List (Stream Fault)) → IsOk (outcome_of_files p us) → AllDone us
all-done p us h = go (first_fault (source_streams (but_last p.sources) us)) refl h
  where
    sides : List (Stream Fault)
    sides = source_streams (but_last p.sources) us

    main : Stream Fault
    main = concat_streams (drop (side_files p) us)

    go : (o : Option Fault) → first_fault sides ≡ o → IsOk (let r : Result Frame Fault = elim o [ Some f ↦ Err f | None ↦ outcome (frames_of (but_last p.sources) sides) (front_fields p) p.stages (after_leading p main) ] in r) → AllDone us
    go None e k = sources-done (but_last p.sources) us e (concat-done (drop (side_files p) us) (outcome-done (frames_of (but_last p.sources) sides) p main k))
    go (Some f) e k = absurd (cc k)

renamed-done : (us : List (Stream ScanFault)) → AllDone (map (rename_fault scan_fault) us) → AllDone us
renamed-done [] h = tt
renamed-done (u ∷ us) h = (go u.fault refl h.0, renamed-done us h.1)
  where
    go : (o : Option ScanFault) → u.fault ≡ o → option_map scan_fault o ≡ None → u.fault ≡ None
    go None e k = e
    go (Some f) e k = absurd (cc k)

pub files-done : (p : Physical) (us : List (Stream ScanFault)) → IsOk (outcome_of_run p us) → AllDone us
files-done p us h = renamed-done us (all-done p (map (rename_fault scan_fault) us) h)
