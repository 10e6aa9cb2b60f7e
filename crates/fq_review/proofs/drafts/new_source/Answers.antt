use Rattle.std.proofs.Common.{◌≡◌, ◌∙◌, ◌++◌, ◌∷◌, [], ℕ, List, ap, inl, inr, slice_get, string_bytes, subst, sym, Some}
use Rattle.std.specs.Prelude.{String}
use Rattle.std.specs.Global.{Global}
use Rattle.std.proofs.lemmas.List.{map-append}
use Rattle.fq_notation.specs.Notation.{notation_named}
use Rattle.fq_review.specs.Checked.{names_in}
use Rattle.fq_review.specs.Drafted.{HasCounted}
use Rattle.fq_review.specs.declared.guesses.Guess.{Guess}
use Rattle.fq_review.proofs.DraftLemmas.{at-push}
use Rattle.fq_review.proofs.drafts.new_source.Goals as goal

pub loop-name-preserved : goal.loop-name-preserved
loop-name-preserved c =
    let columns = c.loop-name.columns.items in
    let name = c.in-Some.name in
    let pushed = c.in_ok-push.ensures.items in
    record {
      names = ap names_in pushed ∙ map-append (λ (d : String Global × Guess). string_bytes d.0) columns ((name, c.new.result) ∷ []) ∙ (λ k. c.loop-name.invariant.names k ++ string_bytes name ∷ [])
          ∙ sym (map-append string_bytes c.loop-name.yielded (name ∷ []));
      none = λ i column at. elim (at-push columns (name, c.new.result) column i (subst (λ (cs : List (String Global × Guess)). slice_get cs i ≡ Some column) pushed at)) [
        | inl there ↦ c.loop-name.invariant.none i column there
        | inr same ↦ subst (λ (d : String Global × Guess). (d.1.notation ≡ notation_named c.args.named.now (string_bytes d.0)) × ((nulls : List (List ℕ)) → HasCounted nulls d.1 [])) same
            (c.new.ensures.notation ∙ c.of-notation.ensures ∙ ap (notation_named c.args.named.now) c.as_str.ensures.value, c.new.ensures.counted)
      ];
    }

pub returns-clause-taken : goal.returns-clause-taken
returns-clause-taken c reading same i column at =
    let none = c.loop-name.invariant.none i column at in (none.0 ∙ ap (λ named. notation_named named (string_bytes column.0)) (sym same), none.1 reading.nulls)
