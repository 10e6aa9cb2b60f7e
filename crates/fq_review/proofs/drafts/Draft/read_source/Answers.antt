use Rattle.std.proofs.Common.{◌∙◌, ◌++◌, ◌∷◌, [], List, ap, reverse, subst, sym}
use Rattle.csv.specs.Reading.{default_config, records, strip_bom}
use Rattle.csv.specs.Records.{fields_of}
use Rattle.fq_csv.specs.File.{Record}
use Rattle.fq_review.specs.Drafted.{AreSourcesOf, HasTaken}
use Rattle.fq_review.proofs.DraftLemmas.{with-rows}
use Rattle.fq_review.proofs.drafts.Draft.read_source.Goals as goal

pub returns-clause-sources : goal.returns-clause-sources
returns-clause-sources g c bytes reads marks files are =
    let reading = c.args.self.now.reading in
    let noted = c.note_header.new.self in
    let same-reading = c.in_ok-note_header.ensures.reading in
    let front = c.take_source.new.self.sources.items in
    let source = c.in_ok-source.source in
    let longer = c.take_rows.new.source in
    let header = fields_of c.next_line.new.records.row in
    let next = c.in_ok-line.ensures.reads _ _ (c.in-Ok.ensures.records bytes reads) (c.in-Ok.ensures.marks bytes marks) in
    let here = rw c.in-Some.is at next.2 in
    let same-items = ap (λ (v : _). v.items) c.in_ok-note_header.ensures.sources in
    let sources-before = subst (λ r. AreSourcesOf r noted.sources.items files) (sym same-reading) (subst (λ ss. AreSourcesOf reading ss files) (sym same-items) are) in
    let taken = λ (before : List Record). subst (λ r. HasTaken r source before → HasTaken r longer (reverse here.0 ++ before)) (c.in_ok-source.ensures.reading ∙ same-reading)
    (c.in_ok-take_rows.ensures.taken here.0 next.0 here.2 next.1 before) in
    let began = subst (λ r. AreSourcesOf r (front ++ source ∷ []) (files ++ (header ∷ []) ∷ [])) same-reading (c.in_ok-source.ensures.sources files sources-before) in
    let all = with-rows reading front source longer files header here.0 began c.in_ok-take_rows.ensures.files c.in_ok-take_rows.ensures.names taken in
    subst (λ ss. AreSourcesOf reading (ss ++ longer ∷ []) (files ++ records default_config (strip_bom bytes) ∷ [])) (sym (ap (λ (v : _). v.items) c.in_ok-note_flaws.ensures.sources))
    (subst (λ rs. AreSourcesOf reading (front ++ longer ∷ []) (files ++ rs ∷ [])) (sym here.1) all)
