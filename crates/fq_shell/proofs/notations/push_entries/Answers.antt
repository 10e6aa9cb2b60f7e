use Rattle.std.proofs.Common.{◌∙◌, ◌++◌, ◌∷◌, [], List, ap, arith, map, rules, sym, append_assoc}
use Rattle.std.specs.Borrow.{Bor}
use Rattle.std.proofs.lemmas.List.{map-append}
use Rattle.clap.specs.Words.{Text}
use Rattle.fq_shell.specs.Notations.{entries_of}
use Rattle.fq_shell.proofs.EntryLemmas.{first-entry, one-entry}
use Rattle.fq_shell.proofs.notations.push_entries.Goals as goal

abbrev texts : List (Bor Text) → List Text
texts = map (λ (entry : Bor Text). entry.now)

pub loop-entry-preserved : goal.loop-entry-preserved
loop-entry-preserved c =
    let split = c.in-Some.ensures.byte (omega arith) (λ w o found. found) in
    let so_far = texts c.loop-entry.entries.items in (
      search rules,
      ap (λ all. texts all ++ entries_of c.in-Some.more.now) c.in_ok-push.ensures.items
          ∙ ap (λ all. all ++ entries_of c.in-Some.more.now) (map-append (λ (entry : Bor Text). entry.now) c.loop-entry.entries.items (c.in-Some.entry ∷ []))
          ∙ append_assoc so_far (c.in-Some.entry.now ∷ []) (entries_of c.in-Some.more.now)
          ∙ (λ i. so_far ++ split.0 i ∷ entries_of (split.1 i))
          ∙ ap (λ rest. so_far ++ rest) (sym (first-entry c.loop-entry.rest.now split.2))
          ∙ c.loop-entry.invariant.1,
    )

pub returns : goal.returns
returns c =
    let none = c.in_default.ensures.byte (omega arith) (λ w o found. found) in
    ap texts c.in_ok-push-2.ensures.items
    ∙ map-append (λ (entry : Bor Text). entry.now) c.loop-entry.entries.items (c.loop-entry.rest ∷ [])
    ∙ ap (λ rest. texts c.loop-entry.entries.items ++ rest) (sym (one-entry c.loop-entry.rest.now none))
    ∙ c.loop-entry.invariant.1
