-- What a plan means by the items of all files is its meaning over the files' streams.
use Rattle.std.proofs.Common.{◌≡◌, ℕ, ◌+◌, ◌<◌, ◌≤◌, List, [], ◌∷◌, map, length, drop, refl, ap, ◌∙◌}
use Rattle.fq_column.specs.Stream.{Stream}
use Rattle.fq_plan.specs.Meaning.{meaning_of_files}
use Rattle.fq_language.specs.Plan.{PlanData, files_wanted, side_files}
use Rattle.fq_plan.specs.Tail.{finished, items_of, outcome_of_taken, reading, worked_items}
use Rattle.fq_plan.proofs.LeadingStepLemmas.{concat_streams-items, finished-worked}
use Rattle.fq_csv.specs.Sources.{but_last}
use Rattle.fq_run.specs.Sources.{concat_streams, source_streams}
use Rattle.fq_run.specs.Tail.{items_from, tagged, worked, worked_files}
use Rattle.fq_run.specs.declared.faults.Fault.{Fault}
use Rattle.fq_run.proofs.LeadingStepLemmas.{worked-joined}
use Rattle.fq_run.proofs.TailLemmas.{main-joined, sides-joined}

-- rows in batches, and then their fault, are such items
pub worked_items-joined : (p : PlanData) (b file : ℕ) (us : List (Stream Fault)) → 0 < b → map concat_streams (worked_items p b file us) ≡ worked_files (reading p) file us
worked_items-joined p b file [] h = refl
worked_items-joined p b file (u ∷ us) h =
    ap (λ v. v ∷ map concat_streams (worked_items p b (file + 1) us)) (worked-joined (reading p) file (items_of b u) ∙ ap (worked (reading p) file) (concat_streams-items b u h))
    ∙ ap (λ vs. worked (reading p) file u ∷ vs) (worked_items-joined p b (file + 1) us h)

pub outcome-all : (p : PlanData) (xss : List (List (Stream Fault))) (us : List (Stream Fault)) → map concat_streams xss ≡ worked_files (reading p) 0 us → length us ≤ files_wanted p →
    outcome_of_taken p (tagged 0 xss) ≡ meaning_of_files p us
outcome-all p xss us joins_to g =
    ap (λ sides. finished p sides (items_from (side_files p) (files_wanted p) (tagged 0 xss))) (sides-joined (reading p) xss us joins_to)
    ∙ finished-worked p (source_streams (but_last p.sources) us) (drop (side_files p) us) (items_from (side_files p) (files_wanted p) (tagged 0 xss)) (main-joined (reading p) xss us joins_to g)
