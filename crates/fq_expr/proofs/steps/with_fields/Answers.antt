use Rattle.std.proofs.Common.{◌≡◌, ℕ, ◌+◌, ◌<◌, ◌∙◌, ap, sym, arith, take, length, get_or, string_bytes, List, Global, String}
use Rattle.std.proofs.lemmas.List.{take_all, get_or_default}
use Rattle.std.proofs.lemmas.Slice.Zip.{length-zip}
use Rattle.fq_column.specs.declared.cells.Kind.{Kind}
use Rattle.fq_column.specs.declared.cells.Kind.TheVariants as kind
use Rattle.fq_column.specs.Frame.{Fields, Name, put_named, put_all}
use Rattle.fq_column.specs.Schema.{fields_of}
use Rattle.fq_expr.specs.declared.expressions.Expr.{Expr}
use Rattle.fq_expr.specs.Kinds.{item_names}
use Rattle.fq_expr.specs.ExpressionData.{items_of}
use Rattle.fq_expr.proofs.ItemLemmas.{length-item_names, item_names-at}
use Rattle.fq_expr.proofs.OutputLemmas.{length-put_all-take, fields_of-at, put_all-step}
use Rattle.fq_expr.proofs.steps.with_fields.Goals as goal

-- the fields with output i put, which is the item's name and kind
one_more : (items : List (String Global × Expr)) (kinds : List Kind) (fields : Fields) (i : ℕ) (x : String Global × Expr) (n : Name) (d : Kind) →
    length kinds ≡ length items → i < length items → x ≡ get_or items i x → n ≡ string_bytes x.0 →
    put_all fields (take (i + 1) (fields_of (item_names (items_of items)) kinds)) ≡ put_named (put_all fields (take i (fields_of (item_names (items_of items)) kinds))) (n, get_or kinds i d)
one_more items kinds fields i x n d s h e f =
    put_all-step fields (fields_of (item_names (items_of items)) kinds) i (n, get_or kinds i d)
    (omega (arith, length-zip (item_names (items_of items)) kinds, length-item_names items))
    (fields_of-at (item_names (items_of items)) kinds i n (get_or kinds i d) (omega (arith, length-item_names items)) (omega (arith, s, h))
    (item_names-at items i x n h e ∙ sym f) (get_or_default kinds i (get_or kinds i d) d (omega (arith, s, h))))

pub put-requires : goal.put-requires
put-requires c =
    let e = one_more c.args.items.now c.args.kinds.now c.args.schema.now c.loop-i.i c.index-items-i.result c.as_str.result.now kind.Whole c.requires.kinds c.loop-i-test.true c.index-items-i.is (c.as_str.ensures.value ∙ ap (λ (x : String Global × Expr). string_bytes x.0) (sym c.index-items-i.is)) in
    rw c.loop-i.invariant (rw (← e) (omega (arith, c.requires.room, length-put_all-take c.args.schema.now (fields_of (item_names (items_of c.args.items.now)) c.args.kinds.now) (c.loop-i.i + 1))))

pub loop-i-preserved : goal.loop-i-preserved
loop-i-preserved c =
    c.in_ok-put.ensures.ok ∙ ap (λ (s : Fields). put_named s (c.as_str.result.now, get_or c.args.kinds.now c.loop-i.i kind.Whole)) c.loop-i.invariant
    ∙ sym (one_more c.args.items.now c.args.kinds.now c.args.schema.now c.loop-i.i c.index-items-i.result c.as_str.result.now kind.Whole c.requires.kinds c.loop-i-test.true c.index-items-i.is (c.as_str.ensures.value ∙ ap (λ (x : String Global × Expr). string_bytes x.0) (sym c.index-items-i.is)))

pub returns : goal.returns
returns c = let all = fields_of (item_names (items_of c.args.items.now)) c.args.kinds.now in
    c.loop-i.invariant
    ∙ ap (put_all c.args.schema.now) (take_all c.loop-i.i all (omega (arith, length-zip (item_names (items_of c.args.items.now)) c.args.kinds.now, length-item_names c.args.items.now, c.loop-i-test.false)))
