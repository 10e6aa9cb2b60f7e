use Rattle.fq_csv.proofs.HandedOutLemmas.{answers-last, answers-next, run-follows}
use Rattle.fq_csv.proofs.KeptColumnLemmas.{file-masked}
use Rattle.fq_csv.proofs.laws.scan_laws.Goals as goal

pub returns-clause-projection : goal.returns-clause-projection
returns-clause-projection c = λ file limit layout bytes. file-masked file layout limit bytes

pub returns-clause-next : goal.returns-clause-next
returns-clause-next c = λ file size serial fields u. answers-next file size fields serial u

pub returns-clause-last : goal.returns-clause-last
returns-clause-last c = λ file size serial fields fault. answers-last file size fields serial fault

pub returns-clause-run : goal.returns-clause-run
returns-clause-run c = λ old new handed_out u. run-follows handed_out old new u
