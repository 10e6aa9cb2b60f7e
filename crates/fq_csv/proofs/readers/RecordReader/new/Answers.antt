use Rattle.std.proofs.Common.{◌∙◌, ap, inr, refl}
use Rattle.csv.specs.Reading.{strip_bom}
use Rattle.std.specs.Prelude.{option_map}
use Rattle.fq_csv.proofs.readers.RecordReader.new.Goals as goal

pub returns-clause-plain : goal.returns-clause-plain
returns-clause-plain g c =
    let fr = c.from_reader-reader.ensures in
    let e = c.has_headers.ensures in
    let f = c.flexible.ensures in
    (rw (f, e) at fr.trim ∙ c.new.ensures.trim, inr (inr (rw (f, e) at fr.has_headers, fr.headers)), rw (f, e) at fr.config ∙ c.new.ensures.config, rw f at fr.flexible)

pub returns-clause-left : goal.returns-clause-left
returns-clause-left g c all known =
    let fr = c.from_reader-reader.ensures in
    (strip_bom all, fr.source ∙ ap (λ o. option_map strip_bom o) known, rw fr.state refl)
