use Rattle.std.proofs.Common.{◌≡◌, length, arith, refl, Some, ◌<◌, ap, sym, ◌∙◌}
use Rattle.std.specs.List.{slice_get}
use Rattle.std.proofs.lemmas.Option.{slice_get_read, slice_get_within}
use Rattle.fq_lanes.specs.Due.{is_closed_at}
use Rattle.fq_lanes.proofs.SinkLemmas.{stands_pass}
use Rattle.fq_lanes.proofs.sinks.Sink.pass.Goals as goal

pub loop-self-preserved : goal.loop-self-preserved
loop-self-preserved g c =
    let got : slice_get c.loop-self.self.files.items c.loop-self.self.at ≡ Some c.index.result.now =
    slice_get_read c.loop-self.self.files.items (length c.loop-self.self.files.items) c.loop-self.self.at c.index.result.now refl (omega arith) c.index.ensures in (
      c.loop-self.invariant.0,
      λ es t k. stands_pass c.loop-self.self.files.items c.loop-self.self.at es t c.index.result.now (c.loop-self.invariant.1 es t k) got (sym c.is_handed_out.ensures ∙ c.if-is_handed_out.true),
    )

pub returns-else-is_handed_out-clause-stays : goal.returns-else-is_handed_out-clause-stays
returns-else-is_handed_out-clause-stays g c x e =
    let got : slice_get c.loop-self.self.files.items c.loop-self.self.at ≡ Some c.index.result.now =
    slice_get_read c.loop-self.self.files.items (length c.loop-self.self.files.items) c.loop-self.self.at c.index.result.now refl (omega arith) c.index.ensures in
    let same : c.index.result.now ≡ x = cc in
    ap (λ y. is_closed_at y.closed y.taken) (sym same) ∙ sym c.is_handed_out.ensures ∙ c.if-is_handed_out.false

pub returns-after-loop-self-clause-stays : goal.returns-after-loop-self-clause-stays
returns-after-loop-self-clause-stays g c x e =
    let within : c.loop-self.self.at < length c.loop-self.self.files.items = slice_get_within c.loop-self.self.files.items c.loop-self.self.at x e in
    absurd (omega (arith, within))
