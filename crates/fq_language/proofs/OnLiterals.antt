-- What an answer unfolds to compute a plan over files on literals.
use Rattle.std.specs.Prelude.{⊤}
use Rattle.fq_csv.proofs.OnLiterals.{files_on_literals}
use Rattle.serde_json.proofs.OnLiterals.{serde_json_on_literals}

unfoldable pub plans_on_literals : ⊤
unfolding files_on_literals serde_json_on_literals
plans_on_literals = tt
