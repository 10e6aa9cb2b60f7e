-- The arguments of a run, `--plan PLAN [--batch N] [--workers N] [--decimal LIST].. [--date LIST].. [--output OUT] [--details] [--progress]
-- FILE..`, and of a check of files, `--plan PLAN --check [--limit N] [--decimal LIST].. [--date LIST].. [--details] FILE..`, as the crate clap
-- reads them (https://docs.rs/clap), and the files and notations that they name.
use Rattle.std.specs.Prelude.{true, false, ℕ, ◌+◌, Bool, ◌||◌, List, [], ◌∷◌, codes, count_by, nat_lt, pos, Option, Some, None, option_and_then, unwrap_or, if◌then◌else◌}
use Rattle.std.specs.Option.{option_map_or}
use Rattle.std.specs.Str.{bytes_eq}
use Rattle.clap.specs.Lexer.{usize_max}
use Rattle.clap.specs.Walk.{is_empty}
use Rattle.clap.specs.Simple.{new_shape}
use Rattle.clap.specs.Words.{App, Row, Rule, Text, all_of, fault_of, first_of, found_of, matches_of, new_rule, rows_of}
use Rattle.clap.specs.declared.builder.action.ArgAction.TheVariants.{Set, SetTrue, Append}
use Rattle.clap.specs.declared.builder.value_parser.ValueParser.TheVariants.{Signed, Unsigned}
use Rattle.fq_notation.specs.Notation.{Named}
use Rattle.fq_shell.specs.Notations.{notations_in}
use Rattle.fq_shell.specs.declared.options.Options.{Options}

-- ---- what a run takes, and what a check

-- --NAME VALUE
abbrev pub option_rule : Text → Rule
option_rule name = record (new_rule name) { long = Some name; value_names = 1; action = Some Set }

-- --NAME N, from 1 to `most`; without it, as if it were `default`
abbrev pub number_rule : Text → ℕ → Text → Rule
number_rule name most default = record (new_rule name) { long = Some name; value_names = 1; parser = Some (Signed (pos 1) (pos most)); defaults = default ∷ [] }

-- --limit N, of 64 bits
abbrev pub limit_rule : Rule
limit_rule = record (new_rule (codes "limit")) { long = Some (codes "limit"); value_names = 1; parser = Some (Unsigned 0 18446744073709551615); defaults = codes "100" ∷ [] }

-- --NAME
abbrev pub flag_rule : Text → Rule
flag_rule name = record (new_rule name) { long = Some name; action = Some SetTrue }

-- --output OUT, or -o OUT
abbrev pub output_rule : Rule
output_rule = record (option_rule (codes "output")) { short = Some 111 }

-- --NAME LIST, once or more
abbrev pub lists_rule : Text → Rule
lists_rule name = record (new_rule name) { long = Some name; value_names = 1; action = Some Append }

-- FILE.., in one place or more
abbrev pub file_rule : Rule
file_rule = record (new_rule (codes "file")) { value_names = 1; action = Some Append; range = Some (record { start_inclusive = 1; end_inclusive = usize_max }) }

abbrev pub required : Rule → Rule
required rule = record rule { required = true }

unfoldable pub run_app : App
run_app = record {
  top = record (new_shape (codes "frameq")) {
    rules = required (option_rule (codes "plan")) ∷ number_rule (codes "batch") 65536 (codes "1024") ∷ number_rule (codes "workers") 16 (codes "2") ∷ lists_rule (codes "decimal")
        ∷ lists_rule (codes "date") ∷ output_rule ∷ flag_rule (codes "details") ∷ flag_rule (codes "progress") ∷ required file_rule ∷ [];
    no_binary_name = true;
    disable_help_flag = true;
  };
  subs = [];
}

unfoldable pub check_app : App
check_app = record {
  top = record (new_shape (codes "frameq")) {
    rules = required (option_rule (codes "plan")) ∷ required (flag_rule (codes "check")) ∷ limit_rule ∷ lists_rule (codes "decimal") ∷ lists_rule (codes "date")
        ∷ flag_rule (codes "details") ∷ required file_rule ∷ [];
    no_binary_name = true;
    disable_help_flag = true;
  };
  subs = [];
}

-- whether these are the arguments of a run: clap finds no fault in them
unfoldable pub is_run : List Text → Bool
is_run arguments = is_empty (fault_of run_app arguments)

-- whether they are those of a check
unfoldable pub is_check : List Text → Bool
is_check arguments = is_empty (fault_of check_app arguments)

-- ---- what arguments name

pub record Names : Type 0 where
  -- the file of the plan
  pub plan : Option Text
  -- those of the data, in order
  pub files : List Text
  -- the one that takes the frame, if standard output does not
  pub output : Option Text
  -- the notations of columns by name, unless an entry of --decimal is wrong
  pub notations : Option (List Named)

-- `-` is standard input, or standard output
abbrev pub is_standard : Text → Bool
is_standard name = bytes_eq name (codes "-")

-- so the system names the descriptor of standard output, too
abbrev pub is_standard_output : Text → Bool
is_standard_output name = is_standard name || (bytes_eq name (codes "/dev/stdout") || (bytes_eq name (codes "/dev/fd/1") || bytes_eq name (codes "/proc/self/fd/1")))

-- by what clap has found of each argument
abbrev pub names_in : List Row → Names
names_in rows = record {
  plan = first_of (codes "plan") rows;
  files = unwrap_or (all_of (codes "file") rows) [];
  output = option_and_then (λ name. if is_standard_output name then None else Some name) (first_of (codes "output") rows);
  notations = notations_in (unwrap_or (all_of (codes "decimal") rows) []) (unwrap_or (all_of (codes "date") rows) []);
}

-- what the arguments of a run name
unfoldable pub names_of : List Text → Names
names_of arguments = names_in (matches_of run_app arguments)

-- what those of a check name
unfoldable pub names_to_check : List Text → Names
names_to_check arguments = names_in (matches_of check_app arguments)

-- what options name that were read
unfoldable pub named_by : Options → Names
named_by options = names_in (rows_of (found_of options.0))

-- the text of the plan, if it is known
abbrev pub plan_text : (List ℕ → Option (List ℕ)) → Names → Option (List ℕ)
plan_text bytes_of names = option_and_then bytes_of names.plan

-- whether the plan and the file that takes the frame have one name
unfoldable pub replaces_plan : Names → Bool
replaces_plan names = option_map_or (λ plan. option_map_or (λ output. bytes_eq output plan) names.output false) names.plan false

-- whether more than one of the plan and the files is standard input
unfoldable pub reads_input_twice : Names → Bool
reads_input_twice names = nat_lt 1 ((if option_map_or is_standard names.plan false then 1 else 0) + count_by is_standard names.files)
