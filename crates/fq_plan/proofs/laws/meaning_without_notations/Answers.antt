use Rattle.fq_plan.specs.Noted.{frame_fields}
use Rattle.fq_plan.proofs.PlainNotationLemmas.{printed-plain, read-plain}
use Rattle.fq_plan.proofs.laws.meaning_without_notations.Goals as goal

pub returns : goal.returns
returns c = record {
  read = read-plain;
  printed = λ p frame. printed-plain (frame_fields p) frame;
}
