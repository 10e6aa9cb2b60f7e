use Rattle.std.proofs.Common.{◌≡◌, ◌∙◌, ℕ, Bool, true, false, cond, List, Option, Some, None, codes, sym, ap}
use Rattle.std.specs.Prelude.{option_and_then}
use Rattle.clap.specs.Words.{found_of}
use Rattle.clap.proofs.WalkLemmas.{first_value-rows}
use Rattle.fq_shell.specs.Arguments.{is_standard_output, named_by}
use Rattle.fq_shell.proofs.options.Options.output.Goals as goal

abbrev file_of : List ℕ → Option (List ℕ)
file_of name = cond (is_standard_output name) None (Some name)

given : (o : Option (List ℕ)) (name : List ℕ) (b : Bool) → Some name ≡ o → is_standard_output name ≡ b → cond b None (Some name) ≡ option_and_then file_of o
given o name b is standard = ap (λ (s : Bool). cond s None (Some name)) (sym standard) ∙ ap (option_and_then file_of) is

pub returns-then-is_standard_output : goal.returns-then-is_standard_output
unfolding named_by
returns-then-is_standard_output c =
    given _ c.in-Some.name.now true (c.in-Some.ensures ∙ first_value-rows (found_of c.args.self.now.0) (codes "output")) (sym c.is_standard_output.ensures ∙ c.if-is_standard_output.true)

pub returns-else-is_standard_output : goal.returns-else-is_standard_output
unfolding named_by
returns-else-is_standard_output c =
    given _ c.in-Some.name.now false (c.in-Some.ensures ∙ first_value-rows (found_of c.args.self.now.0) (codes "output")) (sym c.is_standard_output.ensures ∙ c.if-is_standard_output.false)

pub returns-in-None : goal.returns-in-None
unfolding named_by
returns-in-None c = ap (option_and_then file_of) (c.in-None.ensures ∙ first_value-rows (found_of c.args.self.now.0) (codes "output"))
