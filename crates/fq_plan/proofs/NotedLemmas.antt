-- A checked plan with notations, and the columns of its frame.
use Rattle.std.proofs.Common.{◌≡◌, ℕ, flat_map, replicate, zero, suc, ◌+◌, ◌-◌, ◌<◌, ◌≤◌, Bool, true, false, Global, String, string_bytes, get_or, take, List, [], ◌∷◌, ◌++◌, map, drop, length, Option, Some, None, Result, Ok, Err, refl, ap, sym, subst, ◌∙◌, arith, append-nil}
use Rattle.std.specs.List.{list_any}
use Rattle.std.specs.Prelude.{◌||◌}
use Rattle.std.proofs.Math.Seq.{drop-cons, take-suc}
use Rattle.std.specs.Result.{result_map_both}
use Rattle.std.proofs.lemmas.List.{drop-map, length-map, length-take-le, map-append}
use Rattle.std.proofs.lemmas.List.Elements.{All-map}
use Rattle.fq_column.specs.Agreement.{marked}
use Rattle.fq_column.specs.Frame.{Fields, Name, has_name, same_name}
use Rattle.fq_column.specs.declared.faults.StepFault.{StepFault}
use Rattle.fq_csv.specs.Sources.{Source, but_last, last_or, layout_of}
use Rattle.fq_csv.specs.declared.sources.TheConstants.{MAX_FILES}
use Rattle.fq_expr.specs.Kinds.{steps_schema}
use Rattle.fq_language.specs.Judged.{judged, judged_step, judged_steps}
use Rattle.fq_language.specs.Plan.{PlanStep, PlanData, IsWithinLimits, file_layouts, main_fields, side_fields}
use Rattle.fq_language.specs.declared.faults.CheckFault.{CheckFault}
use Rattle.fq_notation.specs.Notation.{Named, notation_in}
use Rattle.fq_notation.specs.declared.notations.Notation.{Notation}
use Rattle.fq_plan.specs.Needed.{needed_before_steps, needed_columns}
use Rattle.fq_plan.specs.Noted.{frame_fields, has_ints, last_judged, noted, noted_layout, noted_layouts, refused_after}
use Rattle.fq_plan.specs.declared.noted.NotationFault.{NotationFault}
use Rattle.fq_plan.specs.declared.noted.NotationFault.TheVariants.{NoColumn, Twice}
use Rattle.fq_plan.specs.Stages.{keeping, narrowed, plan_of, query_of, stage_steps, whole_source, IsChecked, Leads}
use Rattle.fq_language.proofs.RefusalLemmas.{step_then}
use Rattle.fq_plan.proofs.CheckLemmas.{rows-passed, stages-passed}
use Rattle.fq_plan.proofs.StageMeaning.{fits}
use Rattle.fq_plan.proofs.WholeSourceLemmas.{judged-whole, refusal-same}
use Rattle.fq_run.specs.Noted as run
use Rattle.fq_run.specs.Noted.{noted_source, reads_ints}
use Rattle.fq_run.specs.Physical.{Physical, last_columns}
use Rattle.fq_run.specs.declared.stages.Stage.{Stage}
use Rattle.fq_csv.proofs.LastLemmas.{but_last-map}
use Rattle.fq_run.proofs.SameSourceLemmas.{same-fields, same-files, same-side-fields}
use Rattle.fq_run.proofs.StageLemmas.{fields-after-all}
use Rattle.fq_run.proofs.StageOutcomeLemmas.{fit-last}

-- ---- the columns after the last step

last-more : (x y : Fields) (zs : List Fields) → last_or [] (x ∷ y ∷ zs) ≡ last_or [] (y ∷ zs)
last-more x y zs =
    let longer : length (x ∷ y ∷ zs) - 1 ≡ suc (length zs) = omega arith in
    let shorter : length zs ≡ length (y ∷ zs) - 1 = omega arith in
    ap (λ n. get_or (x ∷ y ∷ zs) n []) longer ∙ ap (λ n. get_or (y ∷ zs) n []) shorter

module _ (sides : List Fields) where
  -- columns before others are not the last
  longer : (n : ℕ) (first fields : Fields) (steps : List PlanStep) →
      last_judged (result_map_both (λ rest. first ∷ rest) (λ e. e) (judged_steps sides n fields steps)) ≡ last_judged (judged_steps sides n fields steps)
  longer n first fields [] = refl
  longer n first fields (s ∷ steps) = after-step (judged_step sides fields s)
    where
      after-steps : (r : Result (List Fields) CheckFault) →
          last_judged (result_map_both (λ rest. first ∷ rest) (λ e. e) (result_map_both (λ rest. fields ∷ rest) (λ e. e) r)) ≡ last_judged (result_map_both (λ rest. fields ∷ rest) (λ e. e) r)
      after-steps (Err e) = refl
      after-steps (Ok rest) = last-more first fields rest

      after-step : (r : Result Fields StepFault) →
          last_judged (result_map_both (λ rest. first ∷ rest) (λ e. e) (step_then n fields r (λ mid. judged_steps sides (n + 1) mid steps)))
          ≡ last_judged (step_then n fields r (λ mid. judged_steps sides (n + 1) mid steps))
      after-step (Err code) = refl
      after-step (Ok mid) = after-steps (judged_steps sides (n + 1) mid steps)

  last-further : (n : ℕ) (fields : Fields) (s : PlanStep) (rest : List PlanStep) (after : Fields) → judged_step sides fields s ≡ Ok after →
      last_judged (judged_steps sides n fields (s ∷ rest)) ≡ last_judged (judged_steps sides (n + 1) after rest)
  last-further n fields s rest after e =
      ap (λ r. last_judged (step_then n fields r (λ mid. judged_steps sides (n + 1) mid rest))) e ∙ longer (n + 1) fields after rest

module _ (p : Physical) (c : IsChecked p) where
  -- the columns of the plan's frame are those of the run's
  pub frame-fields : frame_fields (query_of p) ≡ last_columns p
  frame-fields =
      let q : PlanData = plan_of p in
      let js : List Fields = side_fields q in
      let mid : Fields = c.leads.0 in
      let after : Fields = c.leads.1 in
      let judges : judged q ≡ judged_steps js 0 (main_fields q) q.steps =
      ap (λ (o : Option CheckFault). let all : Result (List Fields) CheckFault = elim o [ Some refusal ↦ Err refusal | None ↦ judged_steps js 0 (main_fields q) q.steps ] in all) c.schemas in
      let rows : last_judged (judged_steps js 0 (main_fields q) q.steps) ≡ last_judged (judged_steps js (0 + length p.front) mid (stage_steps p.stages)) =
      rows-passed js last_judged (last-further js) 0 (main_fields q) p.front (stage_steps p.stages) mid c.leads.2 in
      let stages : last_judged (judged_steps js (length p.front) mid (stage_steps p.stages)) ≡ after =
      ap (λ ss. last_judged (judged_steps js (length p.front) mid ss)) (sym (append-nil (stage_steps p.stages)))
      ∙ stages-passed js last_judged (last-further js) (length p.front) mid p.stages [] after c.leads.3 in
      let ends : last_columns p ≡ after =
      ap (λ fs. last_or fs (map (λ (s : Stage). s.after) p.stages)) (fields-after-all (main_fields q) mid p.front c.leads.2)
      ∙ fit-last js mid p.stages after (fits js (length p.front) mid p.stages after c.leads.3) in
      ap last_judged (judged-whole q ∙ judges) ∙ rows
      ∙ ap (λ n. last_judged (judged_steps js n mid (stage_steps p.stages))) (let e : 0 + length p.front ≡ length p.front = omega arith in e)
      ∙ stages ∙ sym ends

-- ---- plans with notations

-- below, the notations in which the sources are read, and those in which the frame is printed
module _ (named last : List Named) where
  abbrev pub noted_as : PlanData → PlanData
  noted_as q = record { sources = map (noted_source named) q.sources; steps = q.steps; notations = map (notation_in last) (frame_fields q) }

  whole-noted : (sources : List Source) → map whole_source (map (noted_source named) sources) ≡ map (noted_source named) (map whole_source sources)
  whole-noted [] = refl
  whole-noted (s ∷ sources) = ap (λ ss. noted_source named (whole_source s) ∷ ss) (whole-noted sources)

  keeping-noted : (marks : List Bool) (sources : List Source) → map (keeping marks) (map (noted_source named) sources) ≡ map (noted_source named) (map (keeping marks) sources)
  keeping-noted marks [] = refl
  keeping-noted marks (s ∷ sources) = ap (λ ss. noted_source named (keeping marks s) ∷ ss) (keeping-noted marks sources)

  narrowed-noted : (marks : List Bool) (sources : List Source) → narrowed marks (map (noted_source named) sources) ≡ map (noted_source named) (narrowed marks sources)
  narrowed-noted marks sources =
      let note = noted_source named in
      let last = length sources - 1 in
      (λ i. but_last-map note sources i ++ map (keeping marks) (drop (length-map sources note i - 1) (map note sources)))
      ∙ ap (λ ss. map note (but_last sources) ++ map (keeping marks) ss) (drop-map note last sources)
      ∙ ap (λ ss. map note (but_last sources) ++ ss) (keeping-noted marks (drop last sources))
      ∙ sym (map-append note (but_last sources) (map (keeping marks) (drop last sources)))

  module _ (q : PlanData) where
    fields-noted : map (λ (s : Source). s.fields) (noted_as q).sources ≡ map (λ (s : Source). s.fields) q.sources
    fields-noted = same-fields (noted_source named) (λ s. refl) (λ s. refl) q.sources

    sides-noted : side_fields (noted_as q) ≡ side_fields q
    sides-noted = same-side-fields (noted_source named) (λ s. refl) (λ s. refl) q.sources

    main-noted : main_fields (noted_as q) ≡ main_fields q
    main-noted = ap (last_or []) fields-noted

    needed-noted : needed_columns (noted_as q) ≡ needed_columns q
    needed-noted = λ i. marked (needed_before_steps (sides-noted i) (main-noted i) q.steps) (main-noted i)

    within-limits : IsWithinLimits q → IsWithinLimits (noted_as q)
    within-limits l = record {
      some_source = omega (arith, l.some_source, length-map q.sources (noted_source named));
      few_sources = omega (arith, l.few_sources, length-map q.sources (noted_source named));
      some_files = All-map (λ (s : Source). 1 ≤ s.files) (noted_source named) q.sources l.some_files;
      few_files = subst (λ n. n ≤ MAX_FILES) (sym (same-files (noted_source named) (λ s. refl) (λ s. refl) q.sources)) l.few_files;
      few_steps = l.few_steps;
    }

  module _ (p : Physical) (c : IsChecked p) where
    pub query-noted : query_of (run.noted named last p) ≡ noted_as (query_of p)
    query-noted = λ i. (let q : PlanData = record {
      sources = whole-noted p.sources i;
      steps = (query_of p).steps;
      notations = map (notation_in last) (sym (frame-fields p c) i);
    } in q)

    pub checked-noted : IsChecked (run.noted named last p)
    checked-noted =
        let note = noted_source named in
        let q = query_of p in
        let sides : side_fields (plan_of (run.noted named last p)) ≡ side_fields (plan_of p) = sides-noted (plan_of p) in
        record {
          limits = subst IsWithinLimits (sym query-noted) (within-limits q c.limits);
          sources = ap (map note) c.sources
              ∙ sym (narrowed-noted (needed_columns q) q.sources)
              ∙ ap (λ marks. narrowed marks (noted_as q).sources) (sym (needed-noted q))
              ∙ ap (λ (q : PlanData). narrowed (needed_columns q) q.sources) (sym query-noted);
          schemas = refusal-same note (λ s. refl) 0 p.sources ∙ c.schemas;
          leads = (
            c.leads.0,
            c.leads.1,
            ap (λ fs. steps_schema fs p.front) (main-noted (plan_of p)) ∙ c.leads.2,
            subst (λ js. Leads js (length p.front) c.leads.0 p.stages c.leads.1) (sym sides) c.leads.3,
          );
        }

-- ---- the entries that are refused

-- the columns of ints of a plan's sources are those of its run's
pub reads-whole : (name : Name) (sources : List Source) → reads_ints (map whole_source sources) name ≡ reads_ints sources name
reads-whole name [] = refl
reads-whole name (s ∷ sources) = ap (λ b. run.has_ints s.fields name || b) (reads-whole name sources)

abbrev pub Entry : Type 0
Entry = String Global × Notation

abbrev pub name_in : Entry → Name
name_in entry = string_bytes entry.0

abbrev pub named_in : Entry → Named
named_in entry = (string_bytes entry.0, entry.1)

any-name : (name : Name) (entries : List Entry) → has_name (map name_in entries) name ≡ list_any (λ entry. same_name name (name_in entry)) entries
any-name name [] = refl
any-name name (x ∷ entries) = ap (λ b. same_name name (name_in x) || b) (any-name name entries)

module _ (q : PlanData) (entries : List Entry) (i : ℕ) (d : Entry) (below : i < length entries) where
  abbrev here : Entry
  here = get_or entries i d

  abbrev before : List Name
  before = map name_in (take i entries)

  abbrev from : ℕ → Option NotationFault
  from n = refused_after q (map name_in (take n entries)) (map named_in (drop n entries))

  stands : has_name before (name_in here) ≡ list_any (λ entry. same_name (name_in here) (name_in entry)) (take i entries)
  stands = any-name (name_in here) (take i entries)

  count : length before ≡ i
  count = length-map (take i entries) name_in ∙ length-take-le i entries (omega (arith, below))

  opened : from i ≡ refused_after q before (named_in here ∷ map named_in (drop (suc i) entries))
  opened = ap (λ rest. refused_after q before (map named_in rest)) (drop-cons entries i d below)

  pub refused-twice : list_any (λ entry. same_name (name_in here) (name_in entry)) (take i entries) ≡ true → from i ≡ Some (Twice i)
  refused-twice e = opened ∙ rw (stands ∙ e) (ap (λ n. Some (Twice n)) count)

  pub refused-column : list_any (λ entry. same_name (name_in here) (name_in entry)) (take i entries) ≡ false → has_ints q (name_in here) ≡ false → from i ≡ Some (NoColumn i)
  refused-column e h = opened ∙ rw (stands ∙ e, h) (ap (λ n. Some (NoColumn n)) count)

  pub refused-further : list_any (λ entry. same_name (name_in here) (name_in entry)) (take i entries) ≡ false → has_ints q (name_in here) ≡ true → from i ≡ from (i + 1)
  refused-further e h =
      opened ∙ rw (stands ∙ e, h) (
      ap (λ names. refused_after q names (map named_in (drop (suc i) entries))) (sym (map-append name_in (take i entries) (here ∷ [])) ∙ ap (map name_in) (sym (take-suc entries i d below)))
      ∙ ap from (let up : suc i ≡ i + 1 = omega arith in up))

-- ---- the files

-- how the files of a plan in notations are read
layouts-of : (named : List Named) (sources : List Source) →
    flat_map (λ (s : Source). replicate s.files (layout_of s)) (map (noted_source named) sources) ≡ map (noted_layout named) (flat_map (λ (s : Source). replicate s.files (layout_of s)) sources)
layouts-of named [] = refl
layouts-of named (s ∷ sources) =
    (λ i. copies s.files i ++ layouts-of named sources i)
    ∙ sym (map-append (noted_layout named) (replicate s.files (layout_of s)) (flat_map (λ (s : Source). replicate s.files (layout_of s)) sources))
  where
    copies : (n : ℕ) → replicate n (layout_of (noted_source named s)) ≡ map (noted_layout named) (replicate n (layout_of s))
    copies zero = refl
    copies (suc n) = ap (λ rest. layout_of (noted_source named s) ∷ rest) (copies n)

pub layouts-noted : (named : List Named) (plan : PlanData) → file_layouts (noted named plan) ≡ noted_layouts named plan
layouts-noted named plan = layouts-of named plan.sources
