use Rattle.std.proofs.Common.{◌≡◌, ◌∙◌, ◌++◌, ◌+◌, ◌-◌, ◌<◌, ◌≤◌, ℕ, List, [], ap, append-nil, arith, drop, length, length-append, slice_index_or, subst, sym, take}
use Rattle.std.proofs.lemmas.List.{length-drop, length-take, length-take-le}
use Rattle.fq_ops.specs.Grouping.{key_at}
use Rattle.fq_ops.specs.Pairs.{Pair, matches_of, pairs_of}
use Rattle.fq_ops.specs.declared.probes.Cursor.{Cursor}
use Rattle.fq_ops.proofs.ProbingLemmas.{Gives, ends, gives-more, gives-row, gives-some, stops}
use Rattle.fq_ops.proofs.joins.next_pairs.Goals as goal

pub returns-then-wanted-at-clause-pairs : goal.returns-then-wanted-at-clause-pairs
returns-then-wanted-at-clause-pairs c = λ nulls_equal key n h is.
    let rows = c.args.left.now.rows in
    let at : Cursor = c.loop-at.at in
    let l = at.row in
    let output : ℕ → List Pair = λ p. pairs_of c.args.how p (matches_of nulls_equal key n (key_at c.args.on.now (slice_index_or rows p []))) in
    let found = c.places_of-matches.ensures nulls_equal key n h ∙ ap (matches_of nulls_equal key n) c.in_ok-read.ensures.read in
    let wanted : c.count_pairs-wanted.result ≡ length (output l) = c.count_pairs-wanted.ensures ∙ ap (λ ms. length (pairs_of c.args.how l ms)) found in
    let low : l < length rows = omega (arith, c.loop-at-test.true, c.rows-in-loop-at.ensures.rows) in
    let past : at.room < c.count_pairs-wanted.result = omega (arith, c.if-wanted-at.true) in
    let was : Gives output (length rows) c.args.from c.loop-at.pairs at = c.loop-at.invariant.pairs nulls_equal key n h is in
    let none = stops output (length rows) at c.count_pairs-wanted.result low wanted past in
    λ i. ((was.1 ∙ ap (λ u. c.loop-at.pairs ++ u.0) none ∙ append-nil c.loop-at.pairs) i, (was.2 ∙ ap (λ u. u.1) none) i)

pub returns-then-saturating_sub-space-clause-pairs : goal.returns-then-saturating_sub-space-clause-pairs
returns-then-saturating_sub-space-clause-pairs c = λ nulls_equal key n h is.
    let rows = c.args.left.now.rows in
    let at : Cursor = c.loop-at.at in
    let l = at.row in
    let output : ℕ → List Pair = λ p. pairs_of c.args.how p (matches_of nulls_equal key n (key_at c.args.on.now (slice_index_or rows p []))) in
    let found = c.places_of-matches.ensures nulls_equal key n h ∙ ap (matches_of nulls_equal key n) c.in_ok-read.ensures.read in
    let wanted : c.count_pairs-wanted.result ≡ length (output l) = c.count_pairs-wanted.ensures ∙ ap (λ ms. length (pairs_of c.args.how l ms)) found in
    let low : l < length rows = omega (arith, c.loop-at-test.true, c.rows-in-loop-at.ensures.rows) in
    let fits : c.count_pairs-wanted.result ≤ at.room = omega (arith, c.if-wanted-at.false) in
    let was : Gives output (length rows) c.args.from c.loop-at.pairs at = c.loop-at.invariant.pairs nulls_equal key n h is in
    let space = c.args.most - c.len.result in
    let fewer : space < c.count_pairs-wanted.result - at.given = omega (arith, c.if-saturating_sub-space.true, c.saturating_sub.ensures) in
    let next : Cursor = record { row = l; given = at.given + space; room = at.room } in
    let pushed : c.push_pairs.new.pairs ≡ c.loop-at.pairs ++ take space (drop at.given (output l)) =
    c.in_ok-push_pairs.ensures ∙ ap (λ ms. c.loop-at.pairs ++ take space (drop at.given (pairs_of c.args.how l ms))) found in
    subst (λ ps. Gives output (length rows) c.args.from ps next) (sym pushed)
    (gives-more output (length rows) c.args.from at next c.loop-at.pairs (take space (drop at.given (output l))) was
    (gives-some output (length rows) at c.count_pairs-wanted.result low wanted fits was.0 space fewer))

pub returns-then-saturating_sub-space-clause-few : goal.returns-then-saturating_sub-space-clause-few
returns-then-saturating_sub-space-clause-few c =
    let space = c.args.most - c.len.result in
    let all = pairs_of c.args.how c.loop-at.at.row c.places_of-matches.result.now in
    let left : length (drop c.loop-at.at.given all) ≡ length all - c.loop-at.at.given = length-drop c.loop-at.at.given all in
    let enough : space ≤ length (drop c.loop-at.at.given all) = omega (arith, left, c.count_pairs-wanted.ensures, c.if-saturating_sub-space.true, c.saturating_sub.ensures) in
    let more = take space (drop c.loop-at.at.given all) in
    omega (arith, ap length c.in_ok-push_pairs.ensures, length-append c.loop-at.pairs more, length-take-le space (drop c.loop-at.at.given all) enough, c.len.ensures, c.loop-at.invariant.few)

pub loop-at-preserved : goal.loop-at-preserved
loop-at-preserved c = record {
  size = c.in_ok-read.ensures.size;
  form = c.in_ok-read.ensures.whole ∙ c.loop-at.invariant.form;
  few =
      let space = c.args.most - c.len.result in
      let more = take space (drop c.loop-at.at.given (pairs_of c.args.how c.loop-at.at.row c.places_of-matches.result.now)) in
      omega (arith, ap length c.in_ok-push_pairs.ensures, length-append c.loop-at.pairs more, length-take space (drop c.loop-at.at.given (pairs_of c.args.how c.loop-at.at.row c.places_of-matches.result.now)), c.len.ensures, c.loop-at.invariant.few);
  pairs = λ nulls_equal key n h is.
      let rows = c.args.left.now.rows in
      let at : Cursor = c.loop-at.at in
      let l = at.row in
      let output : ℕ → List Pair = λ p. pairs_of c.args.how p (matches_of nulls_equal key n (key_at c.args.on.now (slice_index_or rows p []))) in
      let found = c.places_of-matches.ensures nulls_equal key n h ∙ ap (matches_of nulls_equal key n) c.in_ok-read.ensures.read in
      let wanted : c.count_pairs-wanted.result ≡ length (output l) = c.count_pairs-wanted.ensures ∙ ap (λ ms. length (pairs_of c.args.how l ms)) found in
      let low : l < length rows = omega (arith, c.loop-at-test.true, c.rows-in-loop-at.ensures.rows) in
      let fits : c.count_pairs-wanted.result ≤ at.room = omega (arith, c.if-wanted-at.false) in
      let was : Gives output (length rows) c.args.from c.loop-at.pairs at = c.loop-at.invariant.pairs nulls_equal key n h is in
      let space = c.args.most - c.len.result in
      let all : c.count_pairs-wanted.result - at.given ≤ space = omega (arith, c.if-saturating_sub-space.false, c.saturating_sub.ensures) in
      let next : Cursor = record { row = l + 1; given = 0; room = at.room - c.count_pairs-wanted.result } in
      let pushed : c.push_pairs.new.pairs ≡ c.loop-at.pairs ++ take space (drop at.given (output l)) =
      c.in_ok-push_pairs.ensures ∙ ap (λ ms. c.loop-at.pairs ++ take space (drop at.given (pairs_of c.args.how l ms))) found in
      subst (λ ps. Gives output (length rows) c.args.from ps next) (sym pushed)
      (gives-more output (length rows) c.args.from at next c.loop-at.pairs (take space (drop at.given (output l))) was
      (gives-row output (length rows) at c.count_pairs-wanted.result low wanted fits was.0 space all));
}

pub returns-clause-pairs : goal.returns-clause-pairs
returns-clause-pairs c = λ nulls_equal key n h is.
    let rows = c.args.left.now.rows in
    let at : Cursor = c.loop-at.at in
    let output : ℕ → List Pair = λ p. pairs_of c.args.how p (matches_of nulls_equal key n (key_at c.args.on.now (slice_index_or rows p []))) in
    let was : Gives output (length rows) c.args.from c.loop-at.pairs at = c.loop-at.invariant.pairs nulls_equal key n h is in
    let none = ends output (length rows) at (omega (arith, c.loop-at-test.false, c.rows-in-loop-at.ensures.rows)) in
    λ i. ((was.1 ∙ ap (λ u. c.loop-at.pairs ++ u.0) none ∙ append-nil c.loop-at.pairs) i, (was.2 ∙ ap (λ u. u.1) none) i)
