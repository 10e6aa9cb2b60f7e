-- Worked examples: the arguments of runs and of checks, and the files that they name.
use Rattle.std.specs.Prelude.{◌≡◌, true, false, List, [], ◌∷◌, codes, Option, Some, None}
use Rattle.clap.specs.Words.{Text}
use Rattle.fq_notation.specs.declared.notations.Notation.TheVariants.{Plain, Decimal, Date}
use Rattle.fq_shell.specs.Arguments.{is_check, is_run, names_of, names_to_check, reads_input_twice}

-- these are the arguments of a run, which name this plan, these files and this output
abbrev pub NamesThese : List Text → Text → List Text → Option Text → Type 0
NamesThese arguments plan files output = (is_run arguments ≡ true) × (names_of arguments ≡ record { plan = Some plan; files = files; output = output; notations = Some [] })

-- the files in the order in which they stand, wherever options stand between them
abbrev pub Orders : Type 0
Orders = NamesThese (codes "--plan=p" ∷ codes "1" ∷ codes "0" ∷ []) (codes "p") (codes "1" ∷ codes "0" ∷ []) None
    × NamesThese (codes "1" ∷ codes "--plan" ∷ codes "p" ∷ codes "0" ∷ []) (codes "p") (codes "1" ∷ codes "0" ∷ []) None
    × NamesThese (codes "1" ∷ codes "1" ∷ codes "--workers=16" ∷ codes "--batch" ∷ codes "65536" ∷ codes "--details" ∷ codes "--plan" ∷ codes "p" ∷ []) (codes "p") (codes "1" ∷ codes "1" ∷ []) None

-- `-` is a file as others are, and behind `--` no name is an option
abbrev pub Hyphens : Type 0
Hyphens = NamesThese (codes "--plan" ∷ codes "-" ∷ codes "a" ∷ []) (codes "-") (codes "a" ∷ []) None
    × NamesThese (codes "--plan" ∷ codes "p" ∷ codes "--" ∷ codes "-x" ∷ codes "--plan" ∷ []) (codes "p") (codes "-x" ∷ codes "--plan" ∷ []) None

-- `-` is standard output, and so are the names of its descriptor, and no others
abbrev pub Outputs : Type 0
Outputs = NamesThese (codes "--plan=p" ∷ codes "-o" ∷ codes "out" ∷ codes "a" ∷ []) (codes "p") (codes "a" ∷ []) (Some (codes "out"))
    × NamesThese (codes "--plan=p" ∷ codes "a" ∷ codes "-oout" ∷ []) (codes "p") (codes "a" ∷ []) (Some (codes "out"))
    × NamesThese (codes "--plan=p" ∷ codes "--output=-" ∷ codes "a" ∷ []) (codes "p") (codes "a" ∷ []) None
    × NamesThese (codes "--plan=p" ∷ codes "--output=/dev/stdout" ∷ codes "a" ∷ []) (codes "p") (codes "a" ∷ []) None
    × NamesThese (codes "--plan=p" ∷ codes "-o/proc/self/fd/1" ∷ codes "a" ∷ []) (codes "p") (codes "a" ∷ []) None
    × NamesThese (codes "--plan=p" ∷ codes "-o" ∷ codes "/dev/fd/10" ∷ codes "a" ∷ []) (codes "p") (codes "a" ∷ []) (Some (codes "/dev/fd/10"))

-- no plan, no file, a number out of range, an option that is repeated, and what asks for something else than a run
abbrev pub Others : Type 0
Others = (is_run (codes "a" ∷ []) ≡ false)
    × (is_run (codes "--plan=p" ∷ []) ≡ false)
    × (is_run (codes "--plan=p" ∷ codes "--batch" ∷ codes "0" ∷ codes "a" ∷ []) ≡ false)
    × (is_run (codes "--plan=p" ∷ codes "--workers=17" ∷ codes "a" ∷ []) ≡ false)
    × (is_run (codes "--plan=p" ∷ codes "--plan=q" ∷ codes "a" ∷ []) ≡ false)
    × (is_run (codes "--plan=p" ∷ codes "--check" ∷ codes "a" ∷ []) ≡ false)
    × (is_run (codes "--help" ∷ []) ≡ false)

-- the notations of `--decimal`, and then those of `--date`, wherever they stand; one wrong entry, and there are none
abbrev pub Notes : Type 0
Notes = ((names_of (codes "--plan=p" ∷ codes "--date=day,due" ∷ codes "--decimal" ∷ codes "amount=2,tax=18" ∷ codes "a" ∷ [])).notations
    ≡ Some ((codes "amount", Decimal 2) ∷ (codes "tax", Decimal 18) ∷ (codes "day", Date) ∷ (codes "due", Date) ∷ []))
    × ((names_of (codes "--plan=p" ∷ codes "--decimal=a=1" ∷ codes "--decimal=b=2" ∷ codes "a" ∷ [])).notations ≡ Some ((codes "a", Decimal 1) ∷ (codes "b", Decimal 2) ∷ []))
    × ((names_to_check (codes "--plan=p" ∷ codes "--check" ∷ codes "--decimal=a=1" ∷ codes "a" ∷ [])).notations ≡ Some ((codes "a", Decimal 1) ∷ []))
    × ((names_of (codes "--plan=p" ∷ codes "--decimal=amount" ∷ codes "a" ∷ [])).notations ≡ None)
    × ((names_of (codes "--plan=p" ∷ codes "--decimal=a=1,amount=19" ∷ codes "a" ∷ [])).notations ≡ None)
    × ((names_of (codes "--plan=p" ∷ codes "--decimal=a=0" ∷ codes "a" ∷ [])).notations ≡ Some ((codes "a", Plain) ∷ []))

-- standard input under two names
abbrev pub Twice : Type 0
Twice = (reads_input_twice (names_of (codes "--plan=-" ∷ codes "a" ∷ codes "-" ∷ [])) ≡ true)
    × (reads_input_twice (names_of (codes "--plan=p" ∷ codes "-" ∷ codes "-" ∷ [])) ≡ true)
    × (reads_input_twice (names_of (codes "--plan=p" ∷ codes "a" ∷ codes "-" ∷ [])) ≡ false)

-- a check names a plan and files, as a run does; what runs is no check, and a check needs both
abbrev pub Checks : Type 0
Checks = (is_check (codes "--plan=p" ∷ codes "--check" ∷ codes "1" ∷ codes "0" ∷ []) ≡ true)
    × (names_to_check (codes "--plan=p" ∷ codes "--check" ∷ codes "1" ∷ codes "0" ∷ []) ≡ record { plan = Some (codes "p"); files = codes "1" ∷ codes "0" ∷ []; output = None; notations = Some [] })
    × (is_check (codes "a" ∷ codes "--limit" ∷ codes "0" ∷ codes "--check" ∷ codes "--details" ∷ codes "--plan" ∷ codes "p" ∷ []) ≡ true)
    × (is_check (codes "--plan=p" ∷ codes "a" ∷ []) ≡ false)
    × (is_check (codes "--plan=p" ∷ codes "--check" ∷ []) ≡ false)
    × (is_check (codes "--check" ∷ codes "a" ∷ []) ≡ false)
    × (is_check (codes "--plan=p" ∷ codes "--check" ∷ codes "--limit=x" ∷ codes "a" ∷ []) ≡ false)
    × (is_check (codes "--plan=p" ∷ codes "--check" ∷ codes "-o" ∷ codes "out" ∷ codes "a" ∷ []) ≡ false)
