-- The rows of a plan's files by source, however they are cut into files.
use Rattle.std.specs.Prelude.{◌≡◌, List, [], ◌∷◌, map, flat_map, length, take, drop}
use Rattle.fq_column.specs.Frame.{Row}
use Rattle.fq_language.specs.Plan.{PlanData, files_wanted}
use Rattle.fq_csv.specs.Sources.{Source}

-- files joined, one after the other
abbrev pub joined : List (List Row) → List Row
joined files = flat_map (λ rows. rows) files

-- the rows of each source: its files joined in argument order
abbrev pub source_rows : List Source → List (List Row) → List (List Row)
source_rows [] files = []
source_rows (s ∷ sources) files = joined (take s.files files) ∷ source_rows sources (drop s.files files)

-- two plans with the same steps over the same columns, and files without a fault that give each source the same rows
pub record GiveTheSameRows (p q : PlanData) (files other : List (List Row)) : Type 0 where
  pub steps : p.steps ≡ q.steps
  pub columns : map (λ s. s.fields) p.sources ≡ map (λ s. s.fields) q.sources
  pub count : length files ≡ files_wanted p
  pub other_count : length other ≡ files_wanted q
  pub rows : source_rows p.sources files ≡ source_rows q.sources other
