use Rattle.std.proofs.Common.{◌≡◌, ap, arith, map, length, string_bytes}
use Rattle.std.specs.List.{zip}
use Rattle.std.specs.Vec.Iter.{into_iter_items}
use Rattle.fq_column.specs.Batch.{kind_of_cells}
use Rattle.fq_column.specs.Frame.{Name, put_all, put_named}
use Rattle.fq_expr.specs.Kinds.{item_names}
use Rattle.fq_expr.specs.ExpressionData.{items_of}
use Rattle.fq_expr.proofs.OutputLemmas.{length-put_all-more}
use Rattle.fq_expr.proofs.application.+put_columns.Goals as goal

pub put_column-requires-clause-room : goal.put_column-requires-clause-room
put_column-requires-clause-room t c =
    let s = c.args.schema.now in let x = c.in-Some-Some.column in
    let rest = zip (item_names (items_of c.in-Some-Some.rest.now)) (map kind_of_cells (into_iter_items c.next.new.self)) in
    let all : put_all s (zip (item_names (items_of c.args.items.now)) (map kind_of_cells (into_iter_items c.args.made.now))) ≡ put_all (put_named s (string_bytes c.in-Some-Some.item.now.0, x.kind)) rest =
    λ i. put_all s (zip (item_names (items_of (c.in-Some-Some.ensures.cases.0 i))) (map kind_of_cells (c.in-Some-Some.ensures'.items i))) in
    let name : length (put_named s (c.as_str.result.now, x.kind)) ≡ length (put_named s (string_bytes c.in-Some-Some.item.now.0, x.kind)) = ap (λ (n : Name). length (put_named s (n, x.kind))) c.as_str.ensures.value in
    omega (arith, name, ap length all, c.requires.room, length-put_all-more (put_named s (string_bytes c.in-Some-Some.item.now.0, x.kind)) rest)
