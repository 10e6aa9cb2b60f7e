-- What the commands of a run and of a check answer, by the arguments alone.
use Rattle.std.proofs.Common.{◌≡◌, true, List, [], Result, Ok, Err, IfOk, inl, inr, refl, ap, subst}
use Rattle.std.specs.Prelude.{MatchResult}
use Rattle.clap.specs.Walk.{is_empty}
use Rattle.clap.specs.Words.{App, FailsBy, HasKind, HasMatchesOf, IsAmong, Kinds, Text, fault_of, found_of, is_simple, is_simple_and_free, kind_of, matches_of, rows_of}
use Rattle.clap.specs.declared.error.Error.{Error}
use Rattle.clap.specs.declared.error.kind.ErrorKind.TheVariants.{OutOfMemory}
use Rattle.clap.specs.declared.parser.matches.ArgMatches.{ArgMatches}
use Rattle.clap.proofs.SimpleLemmas.{is_nil}
use Rattle.fq_shell.specs.Arguments.{check_app, is_check, is_run, names_in, names_of, names_to_check, run_app}

-- where no kind of error may come, memory ran out
no-kind : (kinds : Kinds) (e : Error) → HasKind kinds e → is_empty kinds ≡ true → kind_of e ≡ OutOfMemory
no-kind kinds e has none = elim has [
  | inl memory ↦ memory
  | inr among ↦
      let nothing : IsAmong (kind_of e) [] = subst (λ (k : Kinds). IsAmong (kind_of e) k) (is_nil kinds none) among in
      absurd nothing
]

-- what the arguments name to a command, or why it does not take them
abbrev pub IsParsedBy : App → List Text → Result ArgMatches Error → Type 0
IsParsedBy app words r = MatchResult r (λ m. (is_empty (fault_of app words) ≡ true) × (names_in (rows_of (found_of m)) ≡ names_in (matches_of app words)))
    (λ e. is_empty (fault_of app words) ≡ true → kind_of e ≡ OutOfMemory)

-- by what clap promises of a command without rules between its arguments
module _ (wanted : App) (free : is_simple_and_free wanted ≡ true) (simple : is_simple wanted ≡ true) where
  parsed : (app : App) (words : List Text) (r : Result ArgMatches Error) → app ≡ wanted →
      IfOk r (HasMatchesOf app words) → (is_simple_and_free app ≡ true → FailsBy (fault_of app words) r) → IsParsedBy wanted words r
  parsed app words r same matches kinds =
      go r (subst (λ (a : App). IfOk r (HasMatchesOf a words)) same matches)
      (subst (λ (a : App). is_simple_and_free a ≡ true → FailsBy (fault_of a words) r) same kinds free)
    where
      go : (s : Result ArgMatches Error) → IfOk s (HasMatchesOf wanted words) → FailsBy (fault_of wanted words) s → IsParsedBy wanted words s
      go (Ok m) has none = (ap is_empty none, ap names_in (has simple).0)
      go (Err e) has of_kind = no-kind (fault_of wanted words) e of_kind

run-is-free : is_simple_and_free run_app ≡ true
unfolding run_app
run-is-free = refl

run-is-simple : is_simple run_app ≡ true
unfolding run_app
run-is-simple = refl

check-is-free : is_simple_and_free check_app ≡ true
unfolding check_app
check-is-free = refl

check-is-simple : is_simple check_app ≡ true
unfolding check_app
check-is-simple = refl

pub run-parsed : (app : App) (words : List Text) (r : Result ArgMatches Error) → app ≡ run_app →
    IfOk r (HasMatchesOf app words) → (is_simple_and_free app ≡ true → FailsBy (fault_of app words) r) →
    MatchResult r (λ m. (is_run words ≡ true) × (names_in (rows_of (found_of m)) ≡ names_of words)) (λ e. is_run words ≡ true → kind_of e ≡ OutOfMemory)
unfolding is_run names_of
run-parsed app words r same matches kinds = parsed run_app run-is-free run-is-simple app words r same matches kinds

pub check-parsed : (app : App) (words : List Text) (r : Result ArgMatches Error) → app ≡ check_app →
    IfOk r (HasMatchesOf app words) → (is_simple_and_free app ≡ true → FailsBy (fault_of app words) r) →
    MatchResult r (λ m. (is_check words ≡ true) × (names_in (rows_of (found_of m)) ≡ names_to_check words)) (λ e. is_check words ≡ true → kind_of e ≡ OutOfMemory)
unfolding is_check names_to_check
check-parsed app words r same matches kinds = parsed check_app check-is-free check-is-simple app words r same matches kinds
