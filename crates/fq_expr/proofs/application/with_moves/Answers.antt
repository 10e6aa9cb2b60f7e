use Rattle.std.proofs.Common.{◌≡◌, ◌∙◌, ap, sym, map, take, length, arith}
use Rattle.std.proofs.lemmas.List.{length-map}
use Rattle.fq_column.proofs.BatchLemmas.{changed, written}
use Rattle.fq_expr.specs.Made.{made_column}
use Rattle.fq_expr.proofs.MadeLemmas.{column-of-made, first-of-made, stands-at}
use Rattle.fq_expr.proofs.application.with_moves.Goals as goal

pub returns-clause-columns : goal.returns-clause-columns
returns-clause-columns c =
    let batch = c.args.batch in
    let made = c.args.evaluated.columns.items in
    let columns = c.in_ok-columns.columns.items in
    let f = changed (take c.args.evaluated.rows) in
    let cut : c.cut_columns.new.columns ≡ map f columns = c.cut_columns.ensures ∙ ap (map f) c.as_mut_slice.ensures.value in
    let size : length c.cut_columns.new.columns ≡ length columns = ap length cut ∙ length-map columns f in
    let all : columns ≡ map (made_column batch) made = c.in_ok-columns.ensures ∙ column-of-made batch c.into_parts-from.result.1.items made (stands-at batch c.into_parts-from.result.1.items c.into_parts-from.ensures.columns c.into_parts-from.ensures.rows) c.requires.places in
    written c.in_ok-columns.columns.len c.cut_columns.new.columns columns size (grind arith) ∙ cut ∙ ap (map f) all ∙ sym (first-of-made batch c.args.evaluated.rows made)
