-- The columns of its main source that a plan needs, backwards from its last step, after which all columns are needed, as they are printed
-- (Polars, "projection pushdown"; the live variables of a compiler), files that differ in the other columns alone, and files without these.
use Rattle.std.specs.Prelude.{◌≡◌, All, Bool, List, [], ◌∷◌, ◌++◌, fold, length, map, take, drop}
use Rattle.std.specs.Result.{result_unwrap_or}
use Rattle.fq_column.specs.Agreement.{StreamsAgreeOn, marked}
use Rattle.fq_column.specs.Frame.{Fields, Name, names_of}
use Rattle.fq_column.specs.Masked.{masked_stream}
use Rattle.fq_column.specs.Stream.{Stream}
use Rattle.fq_csv.specs.Sources.{Source, but_last}
use Rattle.fq_expr.specs.Needed.{needed_before}
use Rattle.fq_language.specs.Judged.{judged_step}
use Rattle.fq_language.specs.Plan.{PlanStep, row_wise, join, group_by, rolling_sum, PlanData, main_fields, side_fields, side_files}
use Rattle.fq_ops.specs.Needed.{needed_before_groups, needed_before_join, needed_before_roll}

-- the columns that a step needs, by those that are needed after it
abbrev pub needed_before_step : PlanStep → List Name → List Name
needed_before_step (row_wise s) needed = needed_before s needed
needed_before_step (join source on how nulls_equal) needed = needed_before_join on needed
needed_before_step (group_by keys aggs) needed = needed_before_groups keys aggs
needed_before_step (rolling_sum column window min_samples name) needed = needed_before_roll column name needed

-- the columns that steps need, by those that are needed after the last
abbrev pub needed_before_all : List PlanStep → List Name → List Name
needed_before_all [] needed = needed
needed_before_all (s ∷ steps) needed = needed_before_step s (needed_before_all steps needed)

-- the columns after steps that are not refused, of rows with these columns, where `sides` are the columns of the sources before the last
abbrev pub fields_after_steps : List Fields → Fields → List PlanStep → Fields
fields_after_steps sides fields steps = fold (λ before s. result_unwrap_or (judged_step sides before s) before) fields steps

-- the columns that steps need, where all that they leave are needed
abbrev pub needed_before_steps : List Fields → Fields → List PlanStep → List Name
needed_before_steps sides fields steps = needed_before_all steps (names_of (fields_after_steps sides fields steps))

-- a mark for each column of the main source: whether the plan needs it
abbrev pub needed_columns : PlanData → List Bool
needed_columns p = marked (needed_before_steps (side_fields p) (main_fields p) p.steps) (main_fields p)

module _ {F : Type 0} where
  -- as many streams as others, and each agrees with its other
  abbrev pub AllStreamsAgreeOn : List Bool → List (Stream F) → List (Stream F) → Type 0
  AllStreamsAgreeOn marks [] [] = Unit {0}
  AllStreamsAgreeOn marks [] (v ∷ vs) = ⊥
  AllStreamsAgreeOn marks (u ∷ us) [] = ⊥
  AllStreamsAgreeOn marks (u ∷ us) (v ∷ vs) = StreamsAgreeOn marks u v × AllStreamsAgreeOn marks us vs

  -- the rows of each source's files are as wide as its columns
  abbrev pub AreWide : List Source → List (Stream F) → Type 0
  AreWide [] us = Unit {0}
  AreWide (s ∷ sources) us = All (λ u. All (λ row. length row ≡ length s.fields) u.rows) (take s.files us) × AreWide sources (drop s.files us)

  -- the same files of the sources before the last, and files of the main one that agree in the columns that the plan needs
  pub record DifferInUnneeded (p : PlanData) (us vs : List (Stream F)) : Type 0 where
    pub sides : take (side_files p) us ≡ take (side_files p) vs
    pub wide : AreWide (but_last p.sources) us
    pub main : AllStreamsAgreeOn (needed_columns p) (drop (side_files p) us) (drop (side_files p) vs)

  -- the files with null in the place of each cell of the main source that the plan does not need
  abbrev pub needed_alone : PlanData → List (Stream F) → List (Stream F)
  needed_alone p us = take (side_files p) us ++ map (masked_stream (needed_columns p)) (drop (side_files p) us)
