use Rattle.fq_plan.proofs.FileCutLemmas.{same-rows}
use Rattle.fq_plan.proofs.laws.meaning_of_cut_files.Goals as goal

pub returns : goal.returns
returns c p q files other some same = same-rows p q files other some same
