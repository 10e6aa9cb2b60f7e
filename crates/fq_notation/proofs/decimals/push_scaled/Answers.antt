use Rattle.std.proofs.Common.{◌∙◌, arith, ap, length}
use Rattle.fq_notation.proofs.PrintLemmas.{cut-of, joined, joined-zeros, short-decimal}
use Rattle.fq_notation.proofs.decimals.push_scaled.Goals as goal

pub push_all-requires-then-digits-places : goal.push_all-requires-then-digits-places
push_all-requires-then-digits-places c =
    omega (arith, c.push.ensures.len, c.push_all.ensures.len, c.split_at.ensures.front_len, c.split_at.ensures.back_len, ap length c.as_bytes-digits.ensures.value, ap length c.format.ensures.text, short-decimal c.args.number c.requires.number)

pub returns-then-digits-places : goal.returns-then-digits-places
returns-then-digits-places c =
    let ds = c.as_bytes-digits.result.now in
    let parts = cut-of c.args.places c.args.number ds (c.as_bytes-digits.ensures.value ∙ c.format.ensures.text) (omega (arith, c.requires.number)) c.if-digits-places.true in
    joined _ _ _ _ _ _ _ _ c.push_all.ensures.items c.push.ensures.items c.push_all-then-digits-places.ensures.items (c.split_at.ensures.front ∙ parts.0) (c.split_at.ensures.back ∙ parts.1)

pub returns-else-digits-places : goal.returns-else-digits-places
returns-else-digits-places c =
    let ds = c.as_bytes-digits.result.now in
    joined-zeros c.args.places c.args.number _ _ _ _ _ ds c.push_all-else-digits-places.ensures.items c.push_all-else-digits-places-2.ensures.items c.push_all-else-digits-places-3.ensures.items
    (c.as_bytes-digits.ensures.value ∙ c.format.ensures.text) c.zeros.ensures (omega (arith, c.requires.number)) c.if-digits-places.false
