use Rattle.std.proofs.Common.{◌≡◌, ◌++◌, ◌∷◌, [], map, ap, sym, ◌∙◌, append_assoc, append-nil}
use Rattle.std.proofs.lemmas.List.{map-append, nil_from_length}
use Rattle.fq_run.specs.Noted.{noted_files}
use Rattle.fq_run.proofs.noted_plans.noted_sources.Goals as goal

pub loop-source-preserved : goal.loop-source-preserved
loop-source-preserved c =
    let note = noted_files c.args.named.now in
    let yielded = c.loop-source.yielded in
    let source = c.in-Some.source in record {
      left = c.loop-source.invariant.left ∙ ap (λ rest. yielded ++ rest) c.in-Some.ensures.steps.0 ∙ sym (append_assoc yielded (source ∷ []) c.next.new.self.rest.items);
      changed = c.in_ok-push.ensures.items
          ∙ ap (λ changed. changed ++ c.in_ok-noted_source.field-0 ∷ []) c.loop-source.invariant.changed
          ∙ ap (λ s. map note yielded ++ s ∷ []) c.in_ok-noted_source.ensures
          ∙ sym (map-append note yielded (source ∷ []));
    }

pub returns : goal.returns
returns c =
    let note = noted_files c.args.named.now in
    let rest = c.loop-source.source-iterator.rest in
    let none : rest.items ≡ [] = nil_from_length rest.items (sym rest.ok.0 ∙ c.in-None.ensures.steps.0) in
    c.loop-source.invariant.changed
    ∙ ap (map note) (sym (c.loop-source.invariant.left ∙ ap (λ rest. c.loop-source.yielded ++ rest) none ∙ append-nil c.loop-source.yielded))
