use Rattle.std.proofs.Common.{◌∙◌, ap, sym, Ok}
use Rattle.fq_column.specs.Frame.{Fields, names_of, position_of}
use Rattle.fq_column.proofs.NameLemmas.{kind_named-at, kind_named-none}
use Rattle.fq_expr.proofs.evaluation.named.Goals as goal

pub unreachable-requires : goal.unreachable-requires
unreachable-requires c =
    let e = kind_named-none c.args.batch.now.fields c.args.name.now (ap (λ (f : Fields). position_of c.args.name.now (names_of f)) (sym c.schema.ensures) ∙ sym c.in-None.ensures) in
    let h = rw e at c.requires in cc

pub returns-clause-kind : goal.returns-clause-kind
returns-clause-kind c = kind_named-at c.args.batch.now.fields c.args.name.now c.in-Some.i c.column.result.now.kind
    (ap (λ (f : Fields). position_of c.args.name.now (names_of f)) (sym c.schema.ensures) ∙ sym c.in-Some.ensures) c.column.ensures.kind ∙ ap Ok (sym c.borrowed.ensures.kind)
