-- A plan: its sources, of which the last is the main one, and its steps.
use Rattle.std.specs.Prelude.{ℕ, ℤ, Bool, pos, negsuc, ◌≤◌, All, List, [], ◌∷◌, length, map, sum_by, flat_map, replicate, slice_get, Option, None}
use Rattle.fq_column.specs.Frame.{Fields, Name}
use Rattle.fq_column.specs.Stream.{Stream}
use Rattle.fq_notation.specs.declared.notations.Notation.{Notation}
use Rattle.fq_csv.specs.declared.faults.ScanFault.{ScanFault}
use Rattle.fq_csv.specs.declared.cells.layouts.Layout.{Layout}
use Rattle.fq_expr.specs.Expression.{Step}
use Rattle.fq_ops.specs.declared.joins.How.{How}
use Rattle.fq_ops.specs.Aggregate.{Output}
use Rattle.fq_expr.specs.declared.fronts.TheConstants.{MAX_STEPS}
use Rattle.fq_language.specs.declared.plans.TheConstants.{MAX_SOURCES}
use Rattle.fq_csv.specs.Sources.{Source, but_last, last_or, layout_of, streams_of_files}
use Rattle.fq_csv.specs.declared.sources.TheConstants.{MAX_FILES}

pub data PlanStep : Type 0 where
  row_wise : Step → PlanStep
  join : ℤ → List Name → How → Bool → PlanStep
  group_by : List Name → List Output → PlanStep
  rolling_sum : Name → ℤ → ℤ → Name → PlanStep

-- the sources of a plan, of which the last is the main one, its steps, and how the ints of the frame's columns are written, by a notation for
-- each; a column past the notations is plain
pub record PlanData : Type 0 where
  pub sources : List Source
  pub steps : List PlanStep
  pub notations : List Notation

-- the item at a place, which may be no place
abbrev pub item_at : {X : Type 0} → List X → ℤ → Option X
item_at xs (pos n) = slice_get xs n
item_at xs (negsuc n) = None

-- how many files a plan wants
abbrev pub files_wanted : PlanData → ℕ
files_wanted p = sum_by (λ s. s.files) p.sources

-- how many of them are of the sources before the last
abbrev pub side_files : PlanData → ℕ
side_files p = sum_by (λ s. s.files) (but_last p.sources)

-- how each file is read, in argument order
abbrev pub file_layouts : PlanData → List Layout
file_layouts p = flat_map (λ s. replicate s.files (layout_of s)) p.sources

-- the streams of the files' bytes
abbrev pub file_streams : PlanData → List (List ℕ) → List (Stream ScanFault)
file_streams p files = streams_of_files (file_layouts p) files

-- the columns of the sources before the last, and of the last
abbrev pub side_fields : PlanData → List Fields
side_fields p = map (λ s. s.fields) (but_last p.sources)

abbrev pub main_fields : PlanData → Fields
main_fields p = last_or [] (map (λ s. s.fields) p.sources)

-- the leading row-wise steps, and the steps after them
abbrev pub front_of : List PlanStep → List Step
front_of [] = []
front_of (row_wise s ∷ steps) = s ∷ front_of steps
front_of (s ∷ steps) = []

abbrev pub rest_of : List PlanStep → List PlanStep
rest_of [] = []
rest_of (row_wise s ∷ steps) = rest_of steps
rest_of (s ∷ steps) = s ∷ steps

-- the limits of every plan that a text spells
pub record IsWithinLimits (p : PlanData) : Type 0 where
  pub some_source : 1 ≤ length p.sources
  pub few_sources : length p.sources ≤ MAX_SOURCES
  pub some_files : All (λ s. 1 ≤ s.files) p.sources
  pub few_files : files_wanted p ≤ MAX_FILES
  pub few_steps : length p.steps ≤ MAX_STEPS
