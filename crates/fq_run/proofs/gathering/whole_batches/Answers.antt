use Rattle.std.proofs.Common.{◌++◌, ◌∷◌, [], List, map, inl, ap, sym, ◌∙◌, append_assoc}
use Rattle.std.proofs.lemmas.List.{map-append}
use Rattle.fq_run.specs.Gathering.{gathered_stream}
use Rattle.fq_run.specs.Sources.{first_fault}
use Rattle.fq_run.specs.declared.gathering.SideSource.{SideSource}
use Rattle.fq_run.proofs.SourceFaultLemmas.{fault-found, still-none}
use Rattle.fq_run.proofs.gathering.whole_batches.Goals as goal

pub returns-in-Some-fault-clause-fault : goal.returns-in-Some-fault-clause-fault
returns-in-Some-fault-clause-fault c =
    let all = c.loop-source.invariant.0 ∙ ap (λ rest. c.loop-source.yielded ++ rest) c.in-Some.ensures.steps.0 in
    inl (ap (λ (gs : List SideSource). first_fault (map gathered_stream gs)) all
    ∙ fault-found c.loop-source.yielded c.next.new.self.rest.items c.in-Some.source c.in-Some-fault.fault c.loop-source.invariant.1 c.in-Some-fault.is)

pub loop-source-preserved : goal.loop-source-preserved
loop-source-preserved c = (
  c.loop-source.invariant.0 ∙ ap (λ rest. c.loop-source.yielded ++ rest) c.in-Some.ensures.steps.0 ∙ sym (append_assoc c.loop-source.yielded (c.in-Some.source ∷ []) c.next.new.self.rest.items),
  still-none c.loop-source.yielded c.in-Some.source c.loop-source.invariant.1 c.in_default.is,
  c.in_ok-push.ensures.items ∙ ap (λ l. l ++ c.in-Some.source.batch ∷ []) c.loop-source.invariant.2 ∙ sym (map-append (λ (g : SideSource). g.batch) c.loop-source.yielded (c.in-Some.source ∷ [])),
)
