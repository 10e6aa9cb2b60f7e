use Rattle.std.proofs.Common.{◌≡◌, true, arith}
use Rattle.std.specs.Prelude.{codes, is_some}
use Rattle.serde_json.specs.Find.{get}
use Rattle.serde_json.specs.View.{view}
use Rattle.fq_language.proofs.RollLemmas.{roll_of-given}
use Rattle.fq_language.proofs.reading.steps.read_roll.Goals as goal

pub returns-then-is_some : goal.returns-then-is_some
returns-then-is_some c = let d = view c.args.value.now in
    let there : is_some (get (codes "min_samples") d) ≡ true = grind arith in
    rw (roll_of-given d there) c.read_roll_with.ensures
