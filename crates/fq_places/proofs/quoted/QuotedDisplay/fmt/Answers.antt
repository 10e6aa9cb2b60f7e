use Rattle.std.proofs.Common.{◌≡◌, ◌<◌, ℕ, Some, arith, length, sym}
use Rattle.std.specs.Prelude.{slice_get}
use Rattle.std.proofs.lemmas.Iterator.Consumers.{YieldsList-from_first, nth_from_yields_List}
use Rattle.std.proofs.lemmas.List.{length-take-le}
use Rattle.std.proofs.lemmas.Option.{get_or_from_slice_get, slice_get_within}
use Rattle.bstr.specs.Utf8.{pieces, spans_from}
use Rattle.bstr.proofs.lemmas.SpanLemmas.{All-char_spans, IsWithin}
use Rattle.fq_places.proofs.quoted.QuotedDisplay.fmt.Goals as goal

pub slice_bounds-write_quoted-end : goal.slice_bounds-write_quoted-end
slice_bounds-write_quoted-end g c =
    let bytes = c.args.self.now.0.now in
    let spans = spans_from 0 (pieces bytes) in
    let span : ℕ × ℕ × ℕ = (c.in-Some.end, c.in-Some.field-0-1, c.in-Some.field-0-2) in
    let here : slice_get spans 80 ≡ Some span =
    sym (rw c.in-Some.is at (nth_from_yields_List c.nth.result c.nth.new.self 80 c.nth.ensures.ran (YieldsList-from_first (λ (s : ℕ × ℕ × ℕ). s) (λ rest. rest) spans c.char_indices.ensures.value))) in
    let there : 80 < length spans = slice_get_within spans 80 span here in
    let within : IsWithin (length bytes) span = rw (get_or_from_slice_get spans 80 span span here) at (All-char_spans bytes 80 span there) in
    sym (length-take-le c.in-Some.end bytes (omega (arith, within.0, within.1)))
