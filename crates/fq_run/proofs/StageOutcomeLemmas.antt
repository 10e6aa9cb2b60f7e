-- What the stages make of what a run gathered is a frame or a fault of the meaning, and the stages fit what it starts from.
use Rattle.std.proofs.Common.{◌≡◌, ◌∙◌, ◌-◌, ℕ, suc, List, [], ◌∷◌, ◌++◌, ap, arith, get_or, length, map, Option, Some, None, Result, Ok, Err, sym, subst}
use Rattle.std.proofs.lemmas.List.{get_or_default}
use Rattle.std.specs.Prelude.{IfErr}
use Rattle.fq_column.specs.Frame.{Fields, Frame}
use Rattle.fq_column.specs.Stream.{Stream}
use Rattle.fq_expr.specs.Front.{NumberedSteps}
use Rattle.fq_expr.specs.Steps.{fields_after_all}
use Rattle.fq_run.specs.EngineRun.{main_files, no_rows, nothing_taken}
use Rattle.fq_run.specs.Gathering.{gathered_stream}
use Rattle.fq_run.specs.Kept.{IsSound, AreSound}
use Rattle.fq_run.specs.Outcome.{columns_after, frame_or_fault, outcome, outcome_of_stages}
use Rattle.fq_run.specs.Physical.{Physical, front_fields, side_fields}
use Rattle.fq_run.specs.Run.{IsOfMeaning}
use Rattle.fq_csv.specs.Sources.{Source, but_last, last_or}
use Rattle.fq_run.specs.Sources.{first_fault}
use Rattle.fq_run.specs.Stages.{Fit, IsRunnable}
use Rattle.fq_run.specs.Standing.{FitOver}
use Rattle.fq_run.specs.Starting.{transforms_of}
use Rattle.fq_run.specs.Transforms.{whole_all}
use Rattle.fq_run.specs.declared.faults.Fault.{Fault}
use Rattle.fq_run.specs.declared.gathering.SideSource.{SideSource}
use Rattle.fq_csv.specs.declared.sources.SourceFiles.{SourceFiles}
use Rattle.fq_run.specs.declared.stages.Stage.{Stage}
use Rattle.fq_run.proofs.KeptSourceLemmas.{sound-first, sound-stages}
use Rattle.fq_run.proofs.RunStartLemmas.{plan, side-columns}

-- ---- faults

sound-ends : (sides : List SideSource) (main : SideSource) → AreSound (sides ++ main ∷ []) → AreSound sides × IsSound main.fault
sound-ends [] main s = (tt, s.0)
sound-ends (j ∷ sides) main s = let more = sound-ends sides main s.1 in ((s.0, more.0), more.1)

sound-rows : (ss : List Source) (files : ℕ) (fields : Fields) → AreSound (map (λ (s : Source). no_rows s.files s.fields) ss ++ no_rows files fields ∷ [])
sound-rows [] files fields = (tt, tt)
sound-rows (s ∷ ss) files fields = (tt, sound-rows ss files fields)

pub sound-nothing : (p : Physical) → AreSound (nothing_taken p)
sound-nothing p = sound-rows (but_last p.sources) (main_files p) (front_fields p)

sound-frame : (fields : Fields) (u : Stream Fault) → IsSound u.fault → IfErr (frame_or_fault fields u) IsOfMeaning
sound-frame fields u s = go u.fault s
  where
    go : (o : Option Fault) → IsSound o → IfErr (elim o as (λ _. Result Frame Fault) [ None ↦ Ok (record { fields = fields; rows = u.rows }) | Some f ↦ Err f ]) IsOfMeaning
    go None s = tt
    go (Some f) s = s

pub sound-outcome : (stages : List Stage) (sides : List SideSource) (main : SideSource) → AreSound (sides ++ main ∷ []) → IfErr (outcome_of_stages stages sides main) IsOfMeaning
sound-outcome stages sides main s = go (first_fault (map gathered_stream sides)) (sound-first sides both.0)
  where
    both : AreSound sides × IsSound main.fault
    both = sound-ends sides main s

    batches : List Frame
    batches = map (λ (g : SideSource). g.batch) sides

    go : (o : Option Fault) → IsSound o →
        IfErr (elim o as (λ _. Result Frame Fault) [ Some f ↦ Err f | None ↦ outcome (map (λ (g : SideSource). g.batch) sides) main.batch.fields stages (gathered_stream main) ]) IsOfMeaning
    go None t =
        sound-frame (columns_after main.batch.fields (transforms_of batches main.batch.fields stages)) (whole_all (transforms_of batches main.batch.fields stages) (gathered_stream main))
        (sound-stages batches main.batch.fields stages (gathered_stream main) both.1)
    go (Some f) t = t

-- ---- the stages over nothing taken

-- the sources before the last, of which nothing was taken, and the last one's columns after the leading steps
module _ (sources : List SourceFiles) (front : NumberedSteps) (stages : List Stage) (inputs : ℕ) (c : IsRunnable sources front stages inputs) (sides : List SourceFiles) (main : SourceFiles) (parts : sources ≡ sides ++ main ∷ []) where
  abbrev pub before_main : List SideSource
  before_main = map (λ (s : SourceFiles). no_rows s.files s.layout.schema) sides

  abbrev pub main_one : SideSource
  main_one = no_rows main.files (fields_after_all front.fields front.steps)

  pub fit-over : FitOver stages c.fits.0 before_main main_one
  fit-over =
      subst (λ (fs : List Fields). Fit fs main_one.batch.fields stages c.fits.0) (sym (side-columns sources front stages inputs c sides main parts))
      (subst (λ (f : Fields). Fit (side_fields (plan sources front stages inputs c)) (fields_after_all f front.steps) stages c.fits.0) (sym c.on_main) c.fits.1)

last-more : (x y z : Fields) (zs : List Fields) → last_or x (y ∷ z ∷ zs) ≡ last_or y (z ∷ zs)
last-more x y z zs =
    let longer : length (y ∷ z ∷ zs) - 1 ≡ suc (length zs) = omega arith in
    let shorter : length zs ≡ length (z ∷ zs) - 1 = omega arith in
    ap (λ n. get_or (y ∷ z ∷ zs) n x) longer ∙ get_or_default (z ∷ zs) (length zs) x y (omega arith) ∙ ap (λ n. get_or (z ∷ zs) n y) shorter

-- stages take a frame to the columns of the last of them
pub fit-last : (sides : List Fields) (fields : Fields) (stages : List Stage) (after : Fields) → Fit sides fields stages after → last_or fields (map (λ (s : Stage). s.after) stages) ≡ after
fit-last sides fields [] after fits = fits
fit-last sides fields (s ∷ []) after fits = fits.1
fit-last sides fields (s ∷ t ∷ stages) after fits = last-more fields s.after t.after (map (λ (s : Stage). s.after) stages) ∙ fit-last sides s.after (t ∷ stages) after fits.1
