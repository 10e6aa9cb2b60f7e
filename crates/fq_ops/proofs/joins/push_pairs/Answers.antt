use Rattle.std.proofs.Common.{◌≡◌, ◌<◌, ◌∙◌, ◌++◌, ℕ, Some, ap, arith, drop, length, sym, take}
use Rattle.std.proofs.lemmas.Bool.Decides.{nat_tests}
use Rattle.std.proofs.lemmas.List.{length-map}
use Rattle.std.proofs.lemmas.Result.{on_ok_weaker}
use Rattle.fq_ops.specs.Pairs.{Pair}
use Rattle.fq_ops.proofs.ProbingLemmas.{each-match, some-matches}
use Rattle.fq_ops.proofs.joins.push_pairs.Goals as goal

pub returns-in-Inner-2 : goal.returns-in-Inner-2
returns-in-Inner-2 c =
    let ms = c.args.matches.now in
    let pair : ℕ → Pair = λ r. (c.args.left, Some r) in
    let some : 0 < length ms = grind (arith, nat_tests, sym c.is_empty.ensures ∙ c.if-is_empty.false) in
    let all = each-match c.args.how c.args.left ms c.in-Inner-2.is some in
    let count : c.count_pairs-count.result ≡ length ms = c.count_pairs-count.ensures ∙ ap length all ∙ length-map ms pair in
    let part : 0 < c.min.result = omega (arith, c.if-first-last.false) in
    on_ok_weaker c.push_matches.result (λ h.
    h ∙ ap (λ ps. c.args.pairs.now ++ ps)
    (some-matches pair ms c.args.given c.args.most c.count_pairs-count.result c.min-first.result c.min.result count c.min-first.ensures c.min.ensures part
    ∙ ap (λ ps. take c.args.most (drop c.args.given ps)) (sym all))) c.push_matches.ensures
