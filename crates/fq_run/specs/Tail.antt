-- What a run's tail makes of the items that it has taken: each file's rows in pieces, which for the main source have gone through the
-- leading row-wise steps.
use Rattle.std.specs.Prelude.{ℕ, ◌+◌, ◌&&◌, nat_le, nat_lt, List, [], ◌∷◌, ◌++◌, map, filter, if◌then◌else◌}
use Rattle.fq_column.specs.Stream.{Stream}
use Rattle.fq_run.specs.Physical.{Physical, after_leading, side_files}
use Rattle.fq_csv.specs.Sources.{Source}
use Rattle.fq_run.specs.Sources.{concat_streams}
use Rattle.fq_run.specs.declared.faults.Fault.{Fault}

-- a file's stream, or a piece of it, as the workers give it: after the leading steps if it is of the main source
abbrev pub worked : Physical → ℕ → Stream Fault → Stream Fault
worked p file u = if nat_lt file (side_files p) then u else after_leading p u

-- so the streams of files, which are numbered from this one on
abbrev pub worked_files : Physical → ℕ → List (Stream Fault) → List (Stream Fault)
worked_files p file [] = []
worked_files p file (u ∷ us) = worked p file u ∷ worked_files p (file + 1) us

-- an item, with the number of its file
abbrev pub Taken : Type 0
Taken = ℕ × Stream Fault

-- the items of files, which are numbered from this one on
abbrev pub tagged : ℕ → List (List (Stream Fault)) → List Taken
tagged file [] = []
tagged file (us ∷ more) = map (λ u. (file, u)) us ++ tagged (file + 1) more

-- the items of the n files from this one on
abbrev pub items_from : ℕ → ℕ → List Taken → List (Stream Fault)
items_from file n taken = map (λ t. t.1) (filter (λ t. nat_le file t.0 && nat_lt t.0 (file + n)) taken)

-- the stream of each source, whose files are numbered from this one on
abbrev pub taken_streams : ℕ → List Source → List Taken → List (Stream Fault)
taken_streams file [] taken = []
taken_streams file (s ∷ sources) taken = concat_streams (items_from file s.files taken) ∷ taken_streams (file + s.files) sources taken
