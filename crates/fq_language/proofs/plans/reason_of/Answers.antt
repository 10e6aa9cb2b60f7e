use Rattle.std.proofs.Common.{rules, refl}
use Rattle.fq_language.proofs.SpellingLemmas.{spells-if_read, spells_not-if_unread}
use Rattle.fq_language.proofs.plans.reason_of.Goals as goal

pub returns-in-Ok-plan_in : goal.returns-in-Ok-plan_in
returns-in-Ok-plan_in c = (λ _. spells-if_read c.args.text.now _ _ c.in-Ok.ensures.ok.0 c.in-Ok.ensures.ok.1 c.in-Ok-plan_in.ensures, λ _. refl)

pub returns : goal.returns
returns c = (λ none. (cc), λ ok. absurd (spells_not-if_unread c.args.text.now (c.in-Err.ensures.err (search rules)) ok))
