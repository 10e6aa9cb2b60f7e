use Rattle.std.proofs.Common.{◌≡◌, ℕ, ◌∷◌, ◌∙◌, ◌++◌, List, [], ap, append-nil, append_assoc, arith, flat_map, sym}
use Rattle.std.proofs.lemmas.List.{flat_map_more, nil_from_length}
use Rattle.std.proofs.lemmas.Result.{IfOk-at_ok, IfOk-weaker}
use Rattle.fq_run.specs.PrintedText.{rows_text, text_of}
use Rattle.fq_run.specs.Printing.{part_text}
use Rattle.fq_run.specs.declared.printing.Part.{Part}
use Rattle.fq_run.proofs.printing.Printing.finish.Goals as goal

pub loop-part-preserved : goal.loop-part-preserved
loop-part-preserved g c = (
  c.loop-part.invariant.0 ∙ ap (λ (ps : List Part). c.loop-part.yielded ++ ps) c.in-Some.ensures.steps.0 ∙ sym (append_assoc c.loop-part.yielded (c.in-Some.part ∷ []) c.next.new.self.rest.items),
  IfOk-weaker c.followed_by-all.result _ _ (λ all r.
      r.4
      ∙ ap (λ (bs : List ℕ). bs ++ text_of r.1) (IfOk-at_ok _ r.2 c.loop-part.invariant.1)
      ∙ ap (λ (bs : List ℕ). (text_of c.args.self.text ++ flat_map part_text c.loop-part.yielded) ++ bs) (IfOk-at_ok _ r.3 c.wait.ensures)
      ∙ flat_map_more part_text (text_of c.args.self.text) c.loop-part.yielded c.in-Some.part) c.followed_by-all.ensures,
)

pub returns : goal.returns
returns g c =
    let none : c.loop-part.part-iterator.rest.items ≡ [] = nil_from_length c.loop-part.part-iterator.rest.items (omega (arith, c.in-None.ensures.steps.0, c.loop-part.part-iterator.rest.ok)) in
    let all : c.args.self.parts.items ≡ c.loop-part.yielded = c.loop-part.invariant.0 ∙ ap (λ (ps : List Part). c.loop-part.yielded ++ ps) none ∙ append-nil c.loop-part.yielded in
    IfOk-weaker c.followed_by.result _ _ (λ text r.
    r.4
    ∙ ap (λ (bs : List ℕ). bs ++ text_of r.1) (IfOk-at_ok _ r.2 c.loop-part.invariant.1 ∙ ap (λ (ps : List Part). text_of c.args.self.text ++ flat_map part_text ps) (sym all))
    ∙ ap (λ (bs : List ℕ). (text_of c.args.self.text ++ flat_map part_text c.args.self.parts.items) ++ bs) (IfOk-at_ok _ r.3 c.of_rows-last.ensures)
    ∙ append_assoc (text_of c.args.self.text) (flat_map part_text c.args.self.parts.items) (rows_text c.args.self.press.notations.now c.args.self.batches.items)) c.followed_by.ensures
