use Rattle.std.proofs.Common.{◌∙◌, ap, refl, subst, sym}
use Rattle.std.specs.Cmp.Lexicographic.{pointwise}
use Rattle.csv.specs.Records.{fields_of}
use Rattle.fq_column.specs.Frame.{same_name}
use Rattle.fq_review.specs.Drafted.{AreSourcesOf}
use Rattle.fq_review.specs.declared.drafts.Source.{Source}
use Rattle.fq_review.proofs.DraftLemmas.{ok-of-three, one-file-more, one-source-more, same-names}
use Rattle.fq_review.proofs.drafts.Draft.take_source.Goals as goal

pub returns-then-goes_on-clause-sources : goal.returns-then-goes_on-clause-sources
returns-then-goes_on-clause-sources c files are =
    let reading = c.args.self.now.reading in
    let front = c.pop.new.self.items in
    let source = c.in-Some.source in
    let longer : Source = record { first = source.first; files = c.saturating_add.result; columns = source.columns; left_out = source.left_out } in
    one-file-more reading front source longer files (fields_of c.args.header.now) (subst (λ sources. AreSourcesOf reading sources files) c.in-Some.ensures.items are) c.saturating_add.ensures refl
    (sym (c.goes_on.ensures.last front source c.in-Some.ensures.items) ∙ c.if-goes_on.true)

pub returns-clause-sources : goal.returns-clause-sources
returns-clause-sources c =
    let sources = c.args.self.now.sources.items in
    let header = fields_of c.args.header.now in
    ok-of-three c.new_source.result
    (λ source count names taken files are. one-source-more c.args.self.now.reading sources source files header are
    (λ init last k. sym (c.goes_on.ensures.last init last k) ∙ c.if-goes_on.false)
    count
    (ap (λ ns. pointwise same_name ns header) names ∙ same-names header)
    (taken c.args.self.now.reading refl))
    c.new_source.ensures.files c.new_source.ensures.names c.new_source.ensures.taken
