use Rattle.std.proofs.Common.{◌≡◌, ◌∙◌, Some, ap, drop, sym}
use Rattle.std.specs.Io.BufRead.{take_through, drop_through}
use Rattle.std.specs.Io.Buffered.{reader_remaining}
use Rattle.csv.specs.Reading.{strip_bom}
use Rattle.csv.specs.declared.parser.State.TheVariants as st
use Rattle.fq_places.specs.Marks.{marks_from}
use Rattle.fq_places.proofs.LineLemmas.{first-line, fresh}
use Rattle.fq_places.proofs.marks.Marks.new.Goals as goal

pub returns-clause-left : goal.returns-clause-left
returns-clause-left g c all known =
    let made = c.in_ok-reader.ensures in
    let whole : reader_remaining g.R.Read.remaining c.in_ok-reader.reader ≡ Some all = fresh g.R.Read.remaining c.args.bytes c.in_ok-reader.reader all made.inner made.empty made.capacity known in
    let line : c.read_until.new.buf.items ≡ take_through 10 all = rw (whole, c.new-bytes.ensures.items) at c.in_ok-read_until.ensures.bytes in
    let left : reader_remaining g.R.Read.remaining c.read_until.new.self ≡ Some (drop_through 10 all) = rw whole at c.in_ok-read_until.ensures.rest in
    let text = c.as_slice.ensures.value ∙ line in
    let rest = drop c.mark_len-passed.result c.read_until.new.buf.items in
    let stripped : rest ≡ strip_bom (take_through 10 all) =
    ap (λ xs. drop c.mark_len-passed.result xs) (sym c.as_slice.ensures.value) ∙ c.mark_len-passed.ensures.rest ∙ ap strip_bom text in
    (drop_through 10 all, left, ap (marks_from st.StartRecord 1 1) (sym (first-line all rest stripped)))
