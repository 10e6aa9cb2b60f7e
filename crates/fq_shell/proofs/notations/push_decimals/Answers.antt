use Rattle.std.proofs.Common.{◌∙◌, ◌++◌, ◌∷◌, [], Global, String, ap, append_assoc, map, string_bytes}
use Rattle.std.proofs.lemmas.List.{map-append}
use Rattle.std.specs.Borrow.{Bor}
use Rattle.clap.specs.Words.{Text}
use Rattle.fq_notation.specs.Notation.{Named}
use Rattle.fq_notation.specs.declared.notations.Notation.{Notation}
use Rattle.fq_shell.proofs.EntryLemmas.{further-at, wrong-at}
use Rattle.fq_shell.proofs.notations.push_decimals.Goals as goal

pub returns-in_default : goal.returns-in_default
returns-in_default c = wrong-at (λ (entry : Bor Text). entry.now) c.args.entries.now c.loop-entry.entry-index _ c.loop-entry-test.true c.in_default.ensures

pub loop-entry-preserved : goal.loop-entry-preserved
loop-entry-preserved c =
    let (more, right, named) = c.loop-entry.invariant in
    let pair : String Global × Notation → Named = λ entry. (string_bytes entry.0, entry.1) in
    let entry : Named = (c.in-Some.name.now, c.in-Some.notation) in (
      more ++ entry ∷ [],
      further-at (λ (entry : Bor Text). entry.now) c.args.entries.now c.loop-entry.entry-index _ more entry c.loop-entry-test.true right c.in-Some.ensures,
      ap (map pair) c.in_ok-push.ensures.items
          ∙ map-append pair c.loop-entry.named.items ((c.in_ok-from_str.field-0, c.in-Some.notation) ∷ [])
          ∙ (λ i. named i ++ (c.in_ok-from_str.ensures.ok i, c.in-Some.notation) ∷ [])
          ∙ append_assoc (map pair c.args.named.now.items) more (entry ∷ []),
    )
