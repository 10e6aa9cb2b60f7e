-- What the engine of a physical plan leaves its tail with.
use Rattle.std.proofs.Common.{◌≡◌, ℕ, suc, ◌+◌, ◌-◌, ◌<◌, List, [], ◌∷◌, ◌++◌, length, flat_map, replicate, Option, refl, ap, sym, ◌∙◌, subst, arith}
use Rattle.fq_column.specs.Frame.{Fields, Row}
use Rattle.fq_column.specs.Stream.{Stream}
use Rattle.fq_csv.specs.declared.faults.ScanFault.{ScanFault}
use Rattle.fq_expr.specs.Front.{NumberedSteps}
use Rattle.fq_lanes.specs.Engine.{Finishes}
use Rattle.fq_lanes.specs.Beside.{Each}
use Rattle.fq_lanes.specs.Numbering.{numbered}
use Rattle.fq_notation.specs.declared.notations.Notation.{Notation}
use Rattle.fq_run.specs.EngineRun.{Gives, opened, records_of_files}
use Rattle.fq_run.specs.Feeding.{Feeding, MayCome}
use Rattle.fq_run.specs.GatheredRun.{HasGathered}
use Rattle.fq_run.specs.Kept.{AreSound, Takes}
use Rattle.fq_run.specs.Physical.{file_layouts, file_streams, files_wanted, side_files}
use Rattle.fq_run.specs.Run.{Tell}
use Rattle.fq_run.specs.Stages.{IsRunnable, physical_of}
use Rattle.fq_run.specs.Standing.{Waits}
use Rattle.fq_run.specs.Working.{work_on}
use Rattle.fq_run.specs.declared.file_feeds.FileItem.{FileItem}
use Rattle.fq_run.specs.declared.gathering.SideSource.{SideSource}
use Rattle.fq_run.specs.TailState.{TailState}
use Rattle.fq_csv.specs.declared.sources.SourceFiles.{SourceFiles}
use Rattle.fq_run.specs.declared.stages.Stage.{Stage}
use Rattle.fq_run.specs.declared.leading_steps.Worked.{Worked}
use Rattle.fq_run.proofs.EngineLemmas.{answers_in, rows-of-bytes}
use Rattle.fq_run.proofs.GatheringLemmas.{all_taken}
use Rattle.fq_run.proofs.LogLemmas.{InOrder, StandsFor, Takes-one, in-order, took-sources, whole-log, worked-order}
use Rattle.fq_run.proofs.RunOutcomeLemmas.{ran-gives}
use Rattle.fq_run.proofs.StageOutcomeLemmas.{before_main, fit-over, main_one, sound-nothing}
use Rattle.fq_run.proofs.KeptSourceLemmas.{sound-kept}
use Rattle.fq_run.proofs.TextItemLemmas.{each-text, log-text, numbered-text}
use Rattle.fq_run.proofs.RunStartLemmas.{side-file-count, length-opened, nothing-is, plan, ran-over, wanted-is}

each-length : {A B : Type 0} (R : A → B → Type 0) (xs : List A) (ys : List B) → Each R xs ys → length ys ≡ length xs
each-length R [] [] h = refl
each-length R [] (y ∷ ys) h = absurd h
each-length R (x ∷ xs) [] h = absurd h
each-length R (x ∷ xs) (y ∷ ys) h = ap suc (each-length R xs ys h.1)

module _ (sources : List SourceFiles) (front : NumberedSteps) (stages : List Stage) (inputs : ℕ) (c : IsRunnable sources front stages inputs) (sides : List SourceFiles) (main : SourceFiles) (parts : sources ≡ sides ++ main ∷ []) where
  abbrev at_first : List SideSource
  at_first = before_main sources front stages inputs c sides main parts ++ main_one sources front stages inputs c sides main parts ∷ []

  pub has-gathered : {R S : Type 0} (has : S → Fields → List Row → Type 0) (remaining : R → Option (List ℕ)) (readers : List R) (notations : List Notation) (b : ℕ) (feeds : List Feeding) (first last : TailState S) (trace : List (ℕ × ℕ)) →
      0 < b → length readers ≡ files_wanted (plan sources front stages inputs c) →
      feeds ≡ opened remaining b 0 (flat_map (λ (s : SourceFiles). replicate s.files s.layout) sources) readers →
      first.side_files ≡ side_files (plan sources front stages inputs c) →
      Waits has stages c.fits.0 (before_main sources front stages inputs c sides main parts) (main_one sources front stages inputs c sides main parts) first →
      Finishes MayCome (λ file item out. out ≡ work_on front (inputs - main.files) file item) (Takes-one has stages c.fits.0) feeds first trace last →
      HasGathered has remaining readers (physical_of sources front stages notations) b last trace
  has-gathered has remaining readers notations b feeds first last trace some count feeds-are files waits finished =
      let items : List (List FileItem) = finished.0 in
      let log : List (ℕ × ℕ × Worked) = finished.2.0 in
      let works : ℕ → FileItem → Worked → Type 0 = λ file item out. out ≡ work_on front (inputs - main.files) file item in
      let high : ℕ = side_files (plan sources front stages inputs c) + main.files in
      let file-count = files ∙ side-file-count sources front stages inputs c sides main parts in
      let order : InOrder first.side_files high log =
      worked-order first.side_files high works (numbered 0 items) log finished.2.1
      (in-order first.side_files high 0 items (omega (
        arith,
        each-length MayCome feeds items finished.1,
        ap length feeds-are,
        count,
        wanted-is sources front stages inputs c sides main parts,
        length-opened remaining b 0 (flat_map (λ (s : SourceFiles). replicate s.files s.layout) sources) readers,
      ))) in
      let taken : List SideSource = all_taken (answers_in log) at_first in
      let stood : StandsFor has stages c.fits.0 last taken =
      whole-log has stages c.fits.0 high log first last (before_main sources front stages inputs c sides main parts) (main_one sources front stages inputs c sides main parts)
      finished.2.2 order file-count (ap (λ n. n + main.files) (side-file-count sources front stages inputs c sides main parts)) (fit-over sources front stages inputs c sides main parts) waits in
      let took : Finishes MayCome works Takes feeds at_first trace taken = (items, finished.1, (log, finished.2.1, took-sources log at_first, finished.2.3)) in
      let gives : (files : List (List ℕ)) → Tell remaining readers files → Gives (plan sources front stages inputs c) b (file_streams (plan sources front stages inputs c) files) taken trace =
      λ files tell. subst (λ (us : List (Stream ScanFault)). Gives (plan sources front stages inputs c) b us taken trace) (rows-of-bytes 0 (file_layouts (plan sources front stages inputs c)) files)
      (ran-gives (plan sources front stages inputs c) b (records_of_files 0 (file_layouts (plan sources front stages inputs c)) files) front (inputs - main.files) feeds at_first taken trace
      (ran-over sources front stages inputs c sides main parts remaining b readers files feeds at_first taken trace some count tell feeds-are refl took)) in
      record {
        stages = stages;
        after = c.fits.0;
        sides = stood.sides;
        main = stood.main;
        fits = stood.fits;
        stands = stood.stands;
        sound = subst AreSound stood.sources (sound-kept at_first log taken (took-sources log at_first)
            (log-text front (inputs - main.files) (numbered 0 items) log finished.2.1 (numbered-text 0 items (each-text feeds items finished.1)))
            (subst AreSound (sym (nothing-is sources front stages inputs c sides main parts)) (sound-nothing (plan sources front stages inputs c))));
        outcome = λ files tell. (gives files tell).outcome stood.sides stood.main stood.sources;
        trace = λ files tell ok. (gives files tell).trace ok;
      }
