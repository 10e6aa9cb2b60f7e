use Rattle.std.proofs.Common.{List, [], ◌∷◌, ◌++◌, zip, ap, ◌∙◌}
use Rattle.fq_ops.specs.Pairs.{Pair}
use Rattle.fq_ops.proofs.ZipLemmas.{zip-push}
use Rattle.fq_ops.proofs.pairs.Pairs.push.Goals as goal

pub returns : goal.returns
returns c =
    (λ k. zip (c.in_ok-push.ensures.items k) (c.in-Ok.ensures.items k))
    ∙ zip-push c.self.inside.left.items c.self.inside.right.items c.args.left c.args.right c.self.invariant
    ∙ ap (λ (ps : List Pair). ps ++ (c.args.left, c.args.right) ∷ []) c.self.view_is
