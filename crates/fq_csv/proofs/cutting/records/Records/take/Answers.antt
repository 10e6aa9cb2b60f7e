use Rattle.std.specs.Prelude.{IfOk}
use Rattle.std.proofs.Common.{subst}
use Rattle.fq_csv.specs.Records.{Takes, Unread, upcoming_of}
use Rattle.fq_csv.proofs.BufferLemmas.{taken}
use Rattle.fq_csv.proofs.cutting.records.Records.take.Goals as goal

pub returns-clause-taken : goal.returns-clause-taken
returns-clause-taken g c =
    let old = c.self.inside.buffer in
    let new = c.take.new.self in
    subst (λ (u : Unread). IfOk c.take.result (λ r. Takes u c.args.wanted r.0 r.1 (let v : Unread = record { file = new.file; upcoming = upcoming_of {R = g.row.R.Denot} g.R.Read.remaining new; stopped = new.has_failed } in v))) c.self.view_is
    (taken {R = g.row.R.Denot} g.R.Read.remaining old new c.args.wanted c.take.result c.take.ensures.taken)
