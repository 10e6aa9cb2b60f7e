-- Worked examples: what inputs come to, from the bytes of standard input to the bytes of standard output, or the failure and its status;
-- and what the files come to that arguments name.
use Rattle.std.specs.Prelude.{◌≡◌, ℕ, ◌==◌, List, [], ◌∷◌, ◌++◌, map, codes, Some, None, Result, Ok, Err, if◌then◌else◌}
use Rattle.std.specs.Result.{result_map_both}
use Rattle.fq_column.specs.declared.faults.StepFault.TheVariants.{NoSuchColumn}
use Rattle.fq_csv.specs.Printed.{printed}
use Rattle.fq_language.specs.Judged.{refused_at}
use Rattle.fq_language.specs.declared.faults.PlanFault.TheVariants.{Json, Shape}
use Rattle.fq_language.specs.declared.faults.Place.TheVariants.{Step}
use Rattle.fq_run.specs.declared.faults.Fault.TheVariants.{Inputs, Header, BadCell}
use Rattle.fq_plan.specs.declared.noted.NotationFault.TheVariants.{NoColumn, Twice}
use Rattle.fq_messages.specs.Ending.{code_of}
use Rattle.fq_shell.specs.Arguments.{names_of}
use Rattle.fq_program.specs.Named.{early_failure, outcome_of}
use Rattle.fq_program.specs.Program.{program}
use Rattle.fq_messages.specs.declared.failures.Failure.{Failure}
use Rattle.fq_messages.specs.declared.failures.Failure.TheVariants.{Decimals, InputTwice, Notation, PlanReplaced, Plan, Check, Run}

-- the output of an input, or its failure
abbrev pub output : List ℕ → Result (List ℕ) Failure
output input = result_map_both printed (λ failure. failure) (program input)

-- a plan that was written with single quotes, of one source of so many files, and of columns id and v, as an input's first line
abbrev pub line : List ℕ → List ℕ → List ℕ
line files steps = map (λ c. if c == 39 then 34 else c)
    (codes "{'version':1,'sources':[{'files':" ++ files ++ codes ",'columns':[['id','int'],['v','int']]}],'steps':[" ++ steps ++ codes "]}\n")

abbrev pub over_ten : List ℕ
over_ten = codes "{'filter':['gt',{'col':'v'},10]}"

abbrev pub Frames : Type 0
Frames = (output (line (codes "1") over_ten ++ codes "id,v\n1,5\n2,\n3,20\n") ≡ Ok (codes "id,v\n3,20\n"))
    × (output (line (codes "1") over_ten ++ codes "id,v\n") ≡ Ok (codes "id,v\n"))

abbrev pub Failures : Type 0
Failures = (output (codes "{\n") ≡ Err (Plan Json))
    × (output (codes "{") ≡ Err (Plan Json))
    × (output (codes "[]\nid,v\n") ≡ Err (Plan Shape))
    × (output (line (codes "1") (codes "{'filter':['gt',{'col':'w'},10]}") ++ codes "id,v\n") ≡ Err (Check (refused_at (Step 0) NoSuchColumn)))
    × (output (line (codes "2") over_ten ++ codes "id,v\n") ≡ Err (Run (Inputs 2 1)))
    × (output (line (codes "1") over_ten) ≡ Err (Run (Header 0)))
    × (output (line (codes "1") over_ten ++ codes "id,v\n1,9223372036854775808\n") ≡ Err (Run (BadCell 0 1 1)))

abbrev pub Statuses : Type 0
Statuses = (code_of (output (line (codes "1") over_ten ++ codes "id,v\n")) ≡ 0)
    × (code_of (output (line (codes "2") over_ten ++ codes "id,v\n")) ≡ 2)
    × (code_of (output (codes "{")) ≡ 3)
    × (code_of (output (line (codes "1") over_ten)) ≡ 4)

-- two files of columns id and v, in the order in which they are named; no plan; the wrong number of files; standard input named twice; a
-- frame that would replace the plan
abbrev pub NamedFiles : Type 0
NamedFiles =
    (outcome_of (names_of (codes "--plan=p" ∷ codes "1" ∷ codes "0" ∷ [])) (line (codes "2") over_ten)
    (codes "id,v\n1,30\n" ∷ codes "id,v\n0,20\n" ∷ []) ≡ Ok (codes "id,v\n1,30\n0,20\n"))
    × (early_failure (names_of (codes "--plan=p" ∷ codes "1" ∷ codes "0" ∷ [])) (line (codes "2") over_ten) ≡ None)
    × (early_failure (names_of (codes "--plan=p" ∷ codes "1" ∷ [])) (codes "{") ≡ Some (Plan Json))
    × (early_failure (names_of (codes "--plan=p" ∷ codes "1" ∷ [])) (line (codes "2") over_ten) ≡ Some (Run (Inputs 2 1)))
    × (early_failure (names_of (codes "--plan=-" ∷ codes "-" ∷ [])) (line (codes "1") over_ten) ≡ Some InputTwice)
    × (early_failure (names_of (codes "--plan=p" ∷ codes "-op" ∷ codes "1" ∷ [])) (codes "{") ≡ Some PlanReplaced)

-- an amount that is read and printed with its point, and a day as a date; a third place is no cell; a name of no column of ints, and one that
-- stands twice; a wrong entry
abbrev pub NamedNotations : Type 0
NamedNotations =
    (outcome_of (names_of (codes "--plan=p" ∷ codes "--decimal=v=2" ∷ codes "--date=id" ∷ codes "1" ∷ [])) (line (codes "1") over_ten)
    (codes "id,v\n2024-03-05,1.5\n20240306,9\n" ∷ []) ≡ Err (Run (BadCell 0 2 0)))
    × (outcome_of (names_of (codes "--plan=p" ∷ codes "--decimal=v=2" ∷ codes "--date=id" ∷ codes "1" ∷ [])) (line (codes "1") over_ten)
    (codes "id,v\n2024-03-05,1.5\n2024-03-06,.05\n" ∷ []) ≡ Ok (codes "id,v\n2024-03-05,1.50\n"))
    × (outcome_of (names_of (codes "--plan=p" ∷ codes "--decimal=v=2" ∷ codes "1" ∷ [])) (line (codes "1") over_ten) (codes "id,v\n1,1.234\n" ∷ []) ≡ Err (Run (BadCell 0 1 1)))
    × (early_failure (names_of (codes "--plan=p" ∷ codes "--decimal=w=2" ∷ codes "1" ∷ [])) (line (codes "1") over_ten) ≡ Some (Notation (NoColumn 0)))
    × (early_failure (names_of (codes "--plan=p" ∷ codes "--decimal=v=2" ∷ codes "--date=v" ∷ codes "1" ∷ [])) (line (codes "1") over_ten) ≡ Some (Notation (Twice 1)))
    × (early_failure (names_of (codes "--plan=p" ∷ codes "--decimal=w=2" ∷ codes "1" ∷ [])) (line (codes "2") over_ten) ≡ Some (Run (Inputs 2 1)))
    × (early_failure (names_of (codes "--plan=p" ∷ codes "--decimal=v" ∷ codes "1" ∷ [])) (codes "{") ≡ Some Decimals)
