use Rattle.std.proofs.Common.{◌≡◌, ◌≤◌, ◌∙◌, ap, drop, inl, inr, length, subst, sym}
use Rattle.std.proofs.lemmas.Bool.{cases_Bool}
use Rattle.std.specs.Io.KnownBytes.{Keeps, prepend_known}
use Rattle.fq_csv.specs.Buffer.{left_of}
use Rattle.fq_csv.proofs.BufferLemmas.{has_mark, mark-not-there, mark-passed}
use Rattle.fq_csv.proofs.cutting.buffers.Buffer.begin.Goals as goal
use Rattle.fq_csv.proofs.cutting.buffers.Buffer.begin.Goals.{then-starts_with, else-starts_with}

pub returns-clause-left : goal.returns-clause-left
returns-clause-left g c =
    let rem = g.R.Read.remaining in
    let mid = c.read_up_to.new.self in
    let e = c.in_ok-read_up_to.ensures in
    let zero : mid.at ≡ 0 = e.sound.start (e.reads.begun ∙ c.requires.fresh) in
    let kept : Keeps (left_of {R = g.row.R.Denot} rem c.args.self.now) (prepend_known mid.text.items (rem mid.reader.reader)) =
    subst (λ n. Keeps (left_of {R = g.row.R.Denot} rem c.args.self.now) (prepend_known (drop n mid.text.items) (rem mid.reader.reader))) zero e.reads.left in
    let test : c.starts_with.result ≡ has_mark mid.text.items = c.starts_with.ensures.value ∙ ap has_mark c.as_slice.ensures.value in
    rw c.requires.fresh (elim c.if-starts_with.branch [
      | then-starts_with w ↦ rw w.self-is (mark-passed _ mid.text.items _ kept (sym test ∙ w.if-starts_with.true))
      | else-starts_with w ↦ rw (w.self-is, zero) (mark-not-there _ mid.text.items _ kept (sym test ∙ w.if-starts_with.false) (elim (cases_Bool mid.is_last) [ inl t ↦ inr (e.sound.end t) | inr n ↦ inl (subst (λ k. 3 ≤ length (drop k mid.text.items)) zero (e.more n)) ]))
    ])
