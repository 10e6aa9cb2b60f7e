use Rattle.std.proofs.Common.{map, sym, ap, ◌∙◌}
use Rattle.fq_ops.specs.Pairs.{Pair}
use Rattle.fq_ops.proofs.ZipLemmas.{map-zip_first}
use Rattle.fq_ops.proofs.pairs.Pairs.left.Goals as goal

pub returns : goal.returns
returns c = c.as_slice.ensures.value ∙ sym (map-zip_first c.self.inside.left.items c.self.inside.right.items c.self.invariant) ∙ ap (map (λ (p : Pair). p.0)) c.self.view_is
