use Rattle.std.proofs.Common.{◌∙◌, List, ℕ, Option, false, ap}
use Rattle.std.specs.Option.{option_map_or}
use Rattle.fq_shell.specs.Arguments.{is_standard}
use Rattle.fq_shell.proofs.options.Options.plan_is_standard.Goals as goal

pub returns-in-Some : goal.returns-in-Some
returns-in-Some c = c.eq.ensures ∙ ap (λ (o : Option (List ℕ)). option_map_or is_standard o false) c.in-Some.ensures

pub returns-in-None : goal.returns-in-None
returns-in-None c = ap (λ (o : Option (List ℕ)). option_map_or is_standard o false) c.in-None.ensures
