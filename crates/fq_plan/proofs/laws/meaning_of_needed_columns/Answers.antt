use Rattle.fq_language.specs.Plan.{file_streams}
use Rattle.fq_plan.proofs.FileWidthLemmas.{files-wide}
use Rattle.fq_plan.proofs.NeededLemmas.{alone-same, needed-same}
use Rattle.fq_plan.proofs.laws.meaning_of_needed_columns.Goals as goal

pub returns-clause-differ : goal.returns-clause-differ
returns-clause-differ c p us vs accepted differ = needed-same p accepted us vs differ

pub returns-clause-alone : goal.returns-clause-alone
returns-clause-alone c p us accepted sides main = alone-same p accepted us sides main

pub returns-clause-files : goal.returns-clause-files
returns-clause-files c p files accepted some = let wide = files-wide p some files in alone-same p accepted (file_streams p files) wide.0 wide.1
