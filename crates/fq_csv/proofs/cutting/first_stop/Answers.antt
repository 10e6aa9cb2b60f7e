use Rattle.std.specs.Prelude.{bit_or}
use Rattle.std.specs.Int.{bit_at, trailing_zeros}
use Rattle.std.proofs.Common.{◌≡◌, ◌∙◌, ℕ, arith, subst, sym, w64}
use Rattle.std.proofs.lemmas.Nat.{or_lt}
use Rattle.std.proofs.lemmas.Nat.Bits.{bit_at-trailing_zeros}
use Rattle.fq_csv.proofs.BlockLemmas.{first-marked, marks, none-marked}
use Rattle.fq_csv.proofs.cutting.first_stop.Goals as goal

pub returns-then-marks-eq0-clause-none : goal.returns-then-marks-eq0-clause-none
returns-then-marks-eq0-clause-none c =
    let same : bit_or (bit_or c.marks_of.result c.marks_of-2.result) c.marks_of-3.result ≡ marks c.args.bytes = λ j. bit_or (bit_or (c.marks_of.ensures j) (c.marks_of-2.ensures j)) (c.marks_of-3.ensures j) in
    none-marked c.args.bytes c.fits-bytes.0 (sym same ∙ c.if-marks-eq0.true)

pub returns-clause-some : goal.returns-clause-some
returns-clause-some c =
    let m : ℕ = bit_or (bit_or c.marks_of.result c.marks_of-2.result) c.marks_of-3.result in
    let same : m ≡ marks c.args.bytes = λ j. bit_or (bit_or (c.marks_of.ensures j) (c.marks_of-2.ensures j)) (c.marks_of-3.ensures j) in
    let h = bit_at-trailing_zeros w64 m (omega (arith, c.if-marks-eq0.false)) (or_lt 64 (bit_or c.marks_of.result c.marks_of-2.result) c.marks_of-3.result (or_lt 64 c.marks_of.result c.marks_of-2.result c.marks_of.type_inv c.marks_of-2.type_inv) c.marks_of-3.type_inv) in
    let i : ℕ = trailing_zeros w64 m in
    first-marked c.args.bytes i c.fits-bytes.0 (subst (λ n. bit_at n i ≡ 1) same h.1) (λ k lt. subst (λ n. bit_at n k ≡ 0) same (h.2 k lt))
