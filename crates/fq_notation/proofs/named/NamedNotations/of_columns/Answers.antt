use Rattle.std.proofs.Common.{◌∙◌, ◌++◌, ◌∷◌, [], ap, map, take}
use Rattle.fq_notation.specs.Notation.{notation_in}
use Rattle.fq_notation.proofs.NamedLemmas.{columns-more}
use Rattle.fq_notation.proofs.named.NamedNotations.of_columns.Goals as goal

pub loop-column-preserved : goal.loop-column-preserved
loop-column-preserved c =
    let of = notation_in c.args.self.now in
    c.in_ok-push.ensures.items
    ∙ ap (λ done. done ++ c.of.result ∷ []) c.loop-column.invariant
    ∙ ap (λ this. map of (take c.loop-column.column c.args.columns.now) ++ this ∷ []) c.of.ensures
    ∙ columns-more of c.args.columns.now c.loop-column.column c.name.result.now c.kind.result c.name.ensures c.kind.ensures
