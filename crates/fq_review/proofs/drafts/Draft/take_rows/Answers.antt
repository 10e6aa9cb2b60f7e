use Rattle.std.proofs.Common.{◌≡◌, ◌∙◌, ◌++◌, ◌∷◌, [], ap, refl, reverse, subst, sym}
use Rattle.std.proofs.lemmas.List.{append-nil, reverse-append}
use Rattle.csv.specs.Records.{fields_of}
use Rattle.fq_review.specs.Drafted.{HasTaken}
use Rattle.fq_review.proofs.DraftLemmas.{one-more-done}
use Rattle.fq_review.proofs.drafts.Draft.take_rows.Goals as goal

pub loop-init : goal.loop-init
loop-init g c = record {
  plain = c.requires.plain;
  sound = c.requires.sound;
  files = refl;
  names = refl;
  taken = λ rs marks left some. ([], rs, marks, refl, left, some, λ rows h. h);
}

pub returns-in_default-clause-taken : goal.returns-in_default-clause-taken
returns-in_default-clause-taken g c rs marks left some rows h =
    let kept = c.loop.invariant.taken rs marks left some in
    let next = c.in_ok-line.ensures.reads kept.1 kept.2 kept.4 kept.5 in
    let end = rw c.in_default.is at next.2 in
    let all : rs ≡ kept.0 = kept.3 ∙ ap (λ more. kept.0 ++ more) end ∙ append-nil kept.0 in
    subst (λ done. HasTaken c.args.self.now.reading c.loop.source (reverse done ++ rows)) (sym all) (kept.6 rows h)

pub loop-preserved : goal.loop-preserved
loop-preserved g c = record {
  plain = c.in_ok-line.ensures.plain;
  sound = c.in_ok-line.ensures.sound;
  files = c.in_ok-take_row.ensures.files ∙ c.loop.invariant.files;
  names = c.in_ok-take_row.ensures.names ∙ c.loop.invariant.names;
  taken = λ rs marks left some.
      let kept = c.loop.invariant.taken rs marks left some in
      let next = c.in_ok-line.ensures.reads kept.1 kept.2 kept.4 kept.5 in
      let here = rw c.in-Some.is at next.2 in
      let row = fields_of c.next_line.new.records.row in (
        kept.0 ++ row ∷ [],
        here.0,
        next.0,
        one-more-done rs kept.0 kept.1 row here.0 kept.3 here.1,
        here.2,
        next.1,
        λ rows h. subst (λ all. HasTaken c.args.self.now.reading c.take_row.new.self (all ++ rows)) (sym (reverse-append kept.0 (row ∷ [])))
            (c.in_ok-take_row.ensures.taken (reverse kept.0 ++ rows) (kept.6 rows h)),
      );
}
