use Rattle.std.proofs.Common.{arith, refl}
use Rattle.fq_column.proofs.ValidityLemmas.{marks-zero}
use Rattle.fq_column.proofs.validity.Validity.missing.Goals as goal

pub returns : goal.returns
returns c =
    let new = c.resize.new.self in
    let r = c.in_ok-resize.ensures in
    marks-zero new.items c.args.count (omega (arith, r.len, new.ok.0, c.div_ceil.ensures)) (λ k d l. r.by_index.1 k d refl (omega (arith, c.new-words.ensures.len)) (omega (arith, l, r.len, new.ok.0)))
