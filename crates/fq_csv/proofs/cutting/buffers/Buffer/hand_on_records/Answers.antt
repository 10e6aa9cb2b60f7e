use Rattle.std.proofs.Common.{◌≡◌, ◌<◌, [], ap, arith, drop, subst, true}
use Rattle.std.proofs.lemmas.Bool.{not-false, not-true}
use Rattle.std.proofs.lemmas.List.{drop_all}
use Rattle.fq_csv.specs.Buffer.{rest_of}
use Rattle.fq_csv.specs.Cutting.{IsUpTo}
use Rattle.fq_csv.specs.declared.cutting.buffers.Buffer.{Buffer}
use Rattle.fq_csv.proofs.BufferLemmas.{hands-on, hands-on-all}
use Rattle.fq_csv.proofs.cutting.buffers.Buffer.hand_on_records.Goals as goal
use Rattle.fq_csv.proofs.cutting.buffers.Buffer.hand_on_records.Goals.{else-found-wanted-via-then-found-wanted+else-not-found, else-found-wanted-via-else-found-wanted}

pub returns-then-not-found-clause-handed : goal.returns-then-not-found-clause-handed
returns-then-not-found-clause-handed g c =
    let old = c.args.self.now in
    let mid = c.hand_on.new.self in
    let ends = c.whole_records-found.result in
    let e = c.in_ok-hand_on.ensures in
    let found : IsUpTo (rest_of old) c.args.wanted ends = subst (λ xs. IsUpTo xs c.args.wanted ends) c.rest.ensures c.whole_records-found.ensures in
    let none : drop c.len-self.result mid.text.items ≡ [] = drop_all c.len-self.result mid.text.items (omega (arith, c.len-self.ensures, mid.text.ok.0)) in
    hands-on-all g.R.Read.remaining old _ c.args.wanted c.args.text.now c.hand_on.new.text ends found e.added
    (ap (λ (b : Buffer g.row.R.Denot). b.reader) e.same) none c.if-found-wanted.true (not-true _ c.if-not-found.true)

pub returns-else-found-wanted-clause-handed : goal.returns-else-found-wanted-clause-handed
returns-else-found-wanted-clause-handed g c =
    let old = c.args.self.now in
    let mid = c.hand_on.new.self in
    let ends = c.whole_records-found.result in
    let e = c.in_ok-hand_on.ensures in
    let found : IsUpTo (rest_of old) c.args.wanted ends = subst (λ xs. IsUpTo xs c.args.wanted ends) c.rest.ensures c.whole_records-found.ensures in
    let opens : ends.count < c.args.wanted → ends.is_open ≡ true = λ less. elim c.else-found-wanted.branch [
      | else-found-wanted-via-then-found-wanted+else-not-found w ↦ not-false _ w.if-not-found.false
      | else-found-wanted-via-else-found-wanted w ↦ absurd (omega (arith, less, w.if-found-wanted.false))
    ] in
    hands-on g.R.Read.remaining old mid c.args.wanted c.args.text.now c.hand_on.new.text ends found e.added
    (ap (λ (b : Buffer g.row.R.Denot). b.reader) e.same) e.rest opens
