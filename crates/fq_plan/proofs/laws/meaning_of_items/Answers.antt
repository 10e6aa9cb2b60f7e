use Rattle.fq_plan.specs.Tail.{worked_items}
use Rattle.fq_plan.proofs.TailLemmas.{outcome-all, worked_items-joined}
use Rattle.fq_plan.proofs.laws.meaning_of_items.Goals as goal

pub returns : goal.returns
returns c p batch_size us some few = outcome-all p (worked_items p batch_size 0 us) us (worked_items-joined p batch_size 0 us some) few
