use Rattle.std.proofs.Common.{None, rules, inl, inr}
use Rattle.fq_language.proofs.SpellingLemmas.{read_as_plan-some, read_as_plan-none}
use Rattle.fq_language.proofs.plans.read_plan.Goals as goal

pub returns-in-Ok-plan_in : goal.returns-in-Ok-plan_in
returns-in-Ok-plan_in c = inl (read_as_plan-some c.args.text.now _ _ c.in-Ok.ensures.ok.0 c.in-Ok.ensures.ok.1 c.in-Ok-plan_in.ensures)

pub returns-in-Err-Wrong : goal.returns-in-Err-Wrong
returns-in-Err-Wrong c = elim (rw c.in-Err-Wrong.field-0-is at c.in-Err-Wrong.ensures) [
  | inl none ↦ inl (read_as_plan-some c.args.text.now _ None c.in-Ok.ensures.ok.0 c.in-Ok.ensures.ok.1 none)
  | inr memory ↦ absurd (cc)
]

pub returns : goal.returns
returns c = inl (read_as_plan-none c.args.text.now (c.in-Err.ensures.err (search rules)))
