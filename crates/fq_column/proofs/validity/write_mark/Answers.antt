use Rattle.std.proofs.Common.{◌≡◌, ◌<◌, ◌≤◌, ◌/◌, ◌%◌, ◌∙◌, ap, arith, length, sym, w64}
use Rattle.std.specs.Bool.{◌==◌}
use Rattle.std.specs.Int.{bit_at}
use Rattle.std.proofs.lemmas.List.{get_or_default}
use Rattle.std.proofs.lemmas.Nat.Bits.{bit_at_clear_other, bit_at_clear_same, bit_at_set_other, bit_at_set_same}
use Rattle.fq_column.specs.Validity.{word_at}
use Rattle.fq_column.proofs.ValidityLemmas.{word-written, written-behind}
use Rattle.fq_column.proofs.validity.write_mark.Goals.{then-mark, else-mark}
use Rattle.fq_column.proofs.validity.write_mark.Goals as goal

pub returns-then-i-len-clause-marks : goal.returns-then-i-len-clause-marks
returns-then-i-len-clause-marks c =
    let behind : length c.args.words.now.items ≤ c.args.i / 64 = omega (arith, c.if-i-len.true, c.len.ensures, c.args.words.now.ok.0) in
    written-behind c.args.words.now.items c.args.i c.args.mark behind (c.requires behind)

pub returns-clause-marks : goal.returns-clause-marks
returns-clause-marks c =
    let words = c.args.words.now.items in
    let i = c.args.i in
    let now = c.index-word.result.now in
    let b : i % 64 < 64 = omega arith in
    let within : i / 64 < length words = omega (arith, c.if-i-len.false, c.len.ensures, c.args.words.now.ok.0) in
    let old : now ≡ word_at words (i / 64) = c.index-word.ensures ∙ get_or_default words (i / 64) now _ within in
    elim c.if-mark.branch [
      | then-mark w ↦
          word-written words i c.if-mark.written c.args.mark within
          (ap (λ v. bit_at v (i % 64) == 1) w.written-is ∙ ap (λ v. v == 1) (bit_at_set_same w64 now (i % 64) b) ∙ sym w.if-mark.true)
          (λ k l apart. ap (λ v. bit_at v k) w.written-is ∙ bit_at_set_other w64 now (i % 64) b k apart ∙ ap (λ v. bit_at v k) old)
      | else-mark w ↦
          word-written words i c.if-mark.written c.args.mark within
          (ap (λ v. bit_at v (i % 64) == 1) w.written-is ∙ ap (λ v. v == 1) (bit_at_clear_same w64 now (i % 64) b) ∙ sym w.if-mark.false)
          (λ k l apart. ap (λ v. bit_at v k) w.written-is ∙ bit_at_clear_other w64 now (i % 64) b k l apart ∙ ap (λ v. bit_at v k) old)
    ]
