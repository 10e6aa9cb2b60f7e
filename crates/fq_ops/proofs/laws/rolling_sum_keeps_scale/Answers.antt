use Rattle.fq_ops.proofs.MultipliedLemmas.{roll_noted-follows, roll_noted-refused, rolled_at-times}
use Rattle.fq_ops.proofs.laws.rolling_sum_keeps_scale.Goals as goal

pub returns-clause-multiplied : goal.returns-clause-multiplied
returns-clause-multiplied c = λ m window min_samples i cells cell above value. rolled_at-times m above window min_samples cells i cell value

pub returns-clause-noted : goal.returns-clause-noted
returns-clause-noted c = λ fields named after column name known noted. roll_noted-follows fields named after column name known noted

pub returns-clause-refused : goal.returns-clause-refused
returns-clause-refused c = λ fields named column name. roll_noted-refused fields named column name
