use Rattle.std.proofs.Common.{◌∙◌, ap, length, sym}
use Rattle.fq_column.proofs.ValidityLemmas.{length-marks}
use Rattle.fq_column.proofs.validity.Validity.len.Goals as goal

pub returns : goal.returns
returns c = sym (length-marks c.self.inside.words.items c.self.inside.len) ∙ ap length c.self.view_is
