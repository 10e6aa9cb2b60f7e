use Rattle.std.proofs.Common.{◌≡◌, ◌++◌, ◌∷◌, ap, arith, [], subst, sym, ◌∙◌, cond, true, not}
use Rattle.std.proofs.lemmas.Grind.{common_steps}
use Rattle.std.specs.Result.{is_ok}
use Rattle.fq_lanes.specs.Sink.{Fresh}
use Rattle.fq_lanes.proofs.StagingLemmas.{fresh_push}
use Rattle.fq_lanes.proofs.SinkLemmas.{stands_new}
use Rattle.fq_lanes.proofs.sinks.Sink.new.Goals as goal

pub loop-preserved : goal.loop-preserved
loop-preserved g c =
    let fine : is_ok c.push.result ≡ true = c.is_err.ensures.negation ∙ ap not c.if-is_err.false in
    let items : c.push.new.self.items ≡ c.loop.made.items ++ c.in_ok-file.file ∷ [] =
    c.push.ensures.items ∙ ap (λ b. cond b (c.loop.made.items ++ c.in_ok-file.file ∷ []) c.loop.made.items) fine in
    (grind (arith, common_steps, items), subst (λ xs. Fresh xs [] 0) (sym items) (fresh_push c.loop.made.items c.in_ok-file.file [] 0 c.loop.invariant.1 c.in_ok-file.ensures.0 c.in_ok-file.ensures.1))

pub returns : goal.returns
returns g c = record { made = (omega arith, stands_new c.loop.made.items c.loop.invariant.1); memory = tt }
