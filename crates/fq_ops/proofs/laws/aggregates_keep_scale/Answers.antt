use Rattle.fq_ops.proofs.MultipliedLemmas.{function_noted-follows, function_noted-refused, value_of-times}
use Rattle.fq_ops.proofs.laws.aggregates_keep_scale.Goals as goal

pub returns-clause-multiplied : goal.returns-clause-multiplied
returns-clause-multiplied c = λ m f cells cell above value. value_of-times m above f cells cell value

pub returns-clause-noted : goal.returns-clause-noted
returns-clause-noted c = λ fields named f name k after n known over noted. function_noted-follows fields named f name k after n known over noted

pub returns-clause-refused : goal.returns-clause-refused
returns-clause-refused c = λ fields named f name. function_noted-refused fields named f name
