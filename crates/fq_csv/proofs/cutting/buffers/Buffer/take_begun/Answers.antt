use Rattle.std.proofs.Common.{◌≡◌, ◌<◌, ◌+◌, ◌-◌, ◌∙◌, ap, arith, length, true}
use Rattle.fq_csv.specs.declared.cutting.buffers.Buffer.{Buffer}
use Rattle.fq_csv.proofs.BufferLemmas.{HasText, HasText-kept, HasText-more, taken-all, taken-last, taken-open}
use Rattle.fq_csv.proofs.cutting.buffers.Buffer.take_begun.Goals as goal
use Rattle.fq_csv.proofs.cutting.buffers.Buffer.take_begun.Goals.{then-found+in_ok-hand_on, else-found}

pub returns-then-count-wanted-clause-taken : goal.returns-then-count-wanted-clause-taken
returns-then-count-wanted-clause-taken g c =
    let inv = c.loop.invariant in
    let old = c.args.self.now in
    let mid = c.hand_on_records.new.self in
    let text = c.hand_on_records.new.text in
    let found = c.in_ok-found.found in
    let e = c.in_ok-found.ensures in
    let begun : mid.has_begun ≡ true = ap (λ (b : Buffer g.row.R.Denot). b.has_begun) e.same ∙ inv.begun ∙ c.requires.begun in
    taken-all g.R.Read.remaining old mid c.requires.begun begun c.args.wanted text (c.loop.count + found.count)
    (HasText-more g.R.Read.remaining old c.loop.self mid (c.args.wanted - c.loop.count) c.loop.text text c.loop.count found inv.has e.handed) c.if-count-wanted.true

pub returns-then-self-clause-taken : goal.returns-then-self-clause-taken
returns-then-self-clause-taken g c =
    let inv = c.loop.invariant in
    let old = c.args.self.now in
    let mid = c.hand_on_records.new.self in
    let text = c.hand_on_records.new.text in
    let found = c.in_ok-found.found in
    let e = c.in_ok-found.ensures in
    let begun : mid.has_begun ≡ true = ap (λ (b : Buffer g.row.R.Denot). b.has_begun) e.same ∙ inv.begun ∙ c.requires.begun in
    let has : HasText {R = g.row.R.Denot} g.R.Read.remaining old mid text (c.loop.count + found.count) =
    HasText-more g.R.Read.remaining old c.loop.self mid (c.args.wanted - c.loop.count) c.loop.text text c.loop.count found inv.has e.handed in
    let few : c.loop.count + found.count < c.args.wanted = omega (arith, inv.few, e.handed.few, c.if-count-wanted.false) in
    let less : found.count < c.args.wanted - c.loop.count = omega (arith, few) in
    let end = e.sound.end c.if-self.true in
    elim c.if-found.branch [
      | then-found+in_ok-hand_on w ↦
          let h = w.in_ok-hand_on.ensures in
          let new = w.hand_on.new.self in
          let one = rw w.if-found.true at (e.handed.last less) in
          rw (w.self-is, w.text-is, w.count-is)
          (taken-open g.R.Read.remaining old new c.requires.begun (ap (λ (b : Buffer g.row.R.Denot). b.has_begun) h.same ∙ begun) c.args.wanted mid text w.hand_on.new.text
          (c.loop.count + found.count) (length c.rest-left.result.now) one.0 has few end one.1 (ap length c.rest-left.ensures) (ap (λ (b : Buffer g.row.R.Denot). b.reader) h.same) h.added h.rest)
      | else-found w ↦
          let none = rw w.if-found.false at (e.handed.last less) in
          rw (w.self-is, w.text-is, w.count-is) (taken-last g.R.Read.remaining old mid c.requires.begun begun c.args.wanted text (c.loop.count + found.count) has (omega (arith, few)) none end)
    ]

pub loop-preserved : goal.loop-preserved
loop-preserved g c =
    let inv = c.loop.invariant in
    let old = c.args.self.now in
    let mid = c.hand_on_records.new.self in
    let new = c.read_up_to.new.self in
    let text = c.hand_on_records.new.text in
    let found = c.in_ok-found.found in
    let e = c.in_ok-found.ensures in
    let r = c.in_ok-read_up_to.ensures.reads in
    let has : HasText {R = g.row.R.Denot} g.R.Read.remaining old mid text (c.loop.count + found.count) =
    HasText-more g.R.Read.remaining old c.loop.self mid (c.args.wanted - c.loop.count) c.loop.text text c.loop.count found inv.has e.handed in
    record {
      sound = c.in_ok-read_up_to.ensures.sound;
      file = r.file ∙ ap (λ (b : Buffer g.row.R.Denot). b.file) e.same ∙ inv.file;
      begun = r.begun ∙ ap (λ (b : Buffer g.row.R.Denot). b.has_begun) e.same ∙ inv.begun;
      failed = r.failed ∙ ap (λ (b : Buffer g.row.R.Denot). b.has_failed) e.same ∙ inv.failed;
      few = omega (arith, inv.few, e.handed.few);
      has = HasText-kept g.R.Read.remaining old mid new text (c.loop.count + found.count) has r.left;
    }
