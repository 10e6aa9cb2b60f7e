-- The faults of sources, one after the other.
use Rattle.std.proofs.Common.{◌≡◌, List, [], ◌∷◌, ◌++◌, map, Option, Some, None, Result, Err, refl, ap, sym, ◌∙◌, subst}
use Rattle.std.proofs.lemmas.List.{map-append}
use Rattle.fq_column.specs.Frame.{Fields, Frame}
use Rattle.fq_column.specs.Stream.{Stream}
use Rattle.fq_run.specs.Gathering.{gathered_stream}
use Rattle.fq_run.specs.Later.{later_steps}
use Rattle.fq_run.specs.Outcome.{frame_or_fault, outcome, outcome_of_stages}
use Rattle.fq_run.specs.Sources.{first_fault}
use Rattle.fq_run.specs.Stages.{Fit}
use Rattle.fq_run.specs.Transforms.{whole_all}
use Rattle.fq_run.specs.declared.faults.Fault.{Fault}
use Rattle.fq_run.specs.declared.gathering.SideSource.{SideSource}
use Rattle.fq_run.specs.declared.stages.Stage.{Stage}
use Rattle.fq_ops.proofs.RefusalLemmas.{map-map}
use Rattle.fq_run.proofs.StageTransforms.{columns-of}

abbrev or_later : Option Fault → Option Fault → Option Fault
or_later o rest = elim o as (λ _. Option Fault) [ Some f ↦ Some f | None ↦ rest ]

first_fault-past : (us vs : List (Stream Fault)) → first_fault us ≡ None → first_fault (us ++ vs) ≡ first_fault vs
first_fault-past [] vs e = refl
first_fault-past (u ∷ us) vs e = go u.fault e (λ h. first_fault-past us vs h)
  where
    go : (o : Option Fault) → or_later o (first_fault us) ≡ None → (first_fault us ≡ None → first_fault (us ++ vs) ≡ first_fault vs) → or_later o (first_fault (us ++ vs)) ≡ first_fault vs
    go None h rest = rest h
    go (Some f) h rest = absurd (cc)

past : (gs rest : List SideSource) → first_fault (map gathered_stream gs) ≡ None → first_fault (map gathered_stream (gs ++ rest)) ≡ first_fault (map gathered_stream rest)
past gs rest none = ap first_fault (map-append gathered_stream gs rest) ∙ first_fault-past (map gathered_stream gs) (map gathered_stream rest) none

-- the first that has a fault
pub fault-found : (gs rest : List SideSource) (g : SideSource) (f : Fault) → first_fault (map gathered_stream gs) ≡ None → g.fault ≡ Some f →
    first_fault (map gathered_stream (gs ++ g ∷ rest)) ≡ Some f
fault-found gs rest g f none e = past gs (g ∷ rest) none ∙ ap (λ o. or_later o (first_fault (map gathered_stream rest))) e

-- one more that has none
pub still-none : (gs : List SideSource) (g : SideSource) → first_fault (map gathered_stream gs) ≡ None → g.fault ≡ None → first_fault (map gathered_stream (gs ++ g ∷ [])) ≡ None
still-none gs g none e = past gs (g ∷ []) none ∙ ap (λ o. or_later o None) e

-- ---- what is made of whole sources

-- the sources' batches have their columns
pub over-batches : (sides : List SideSource) (batches : List Frame) (before after : Fields) (stages : List Stage) → batches ≡ map (λ (g : SideSource). g.batch) sides →
    Fit (map (λ (g : SideSource). g.batch.fields) sides) before stages after → Fit (map (λ (f : Frame). f.fields) batches) before stages after
over-batches sides batches before after stages e fits =
    subst (λ fs. Fit fs before stages after) (sym (ap (map (λ (f : Frame). f.fields)) e ∙ map-map (λ (f : Frame). f.fields) (λ (g : SideSource). g.batch) sides)) fits

module _ (sides : List SideSource) (main : SideSource) (stages : List Stage) (after : Fields) where
  -- what the stages make of the last, if no source before it ends in a fault
  pub none-before : first_fault (map gathered_stream sides) ≡ None → Fit (map (λ g. g.batch.fields) sides) main.batch.fields stages after →
      outcome_of_stages stages sides main ≡ frame_or_fault after (whole_all (later_steps stages sides main.batch.fields after).transforms (gathered_stream main))
  none-before none fits =
      let batches : List Frame = map (λ (g : SideSource). g.batch) sides in
      let over = over-batches sides batches main.batch.fields after stages refl fits in
      ap (λ (o : Option Fault). elim o as (λ _. Result Frame Fault) [ Some f ↦ Err f | None ↦ outcome batches main.batch.fields stages (gathered_stream main) ]) none
      ∙ ap (λ (f : Fields). frame_or_fault f (whole_all (later_steps stages sides main.batch.fields after).transforms (gathered_stream main))) (columns-of batches main.batch.fields after stages over)
