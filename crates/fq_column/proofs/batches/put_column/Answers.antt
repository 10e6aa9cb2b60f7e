use Rattle.std.proofs.Common.{◌≡◌, ◌∙◌, ap, sym, subst}
use Rattle.fq_column.specs.declared.cells.Kind.{Kind}
use Rattle.fq_column.specs.Column.{AreOfKind}
use Rattle.fq_column.specs.Frame.{put_named}
use Rattle.fq_column.proofs.ColumnLemmas.{AreOfKind-values}
use Rattle.fq_column.proofs.PutColumnLemmas.{column-replaced, width-replaced, column-appended, width-appended}
use Rattle.fq_column.proofs.batches.put_column.Goals.{In_ok-put-in-Some, In-Ok}
use Rattle.fq_column.proofs.batches.put_column.Goals as goal

replaced : (c : In_ok-put-in-Some) → c.put.new.self ≡ put_named c.args.schema.now (c.args.name.now, c.args.column.kind)
replaced c = c.in_ok-put-in-Some.ensures.ok ∙ ap (λ (k : Kind). put_named c.args.schema.now (c.args.name.now, k)) c.kind-kind.ensures

appended : (c : In-Ok) → c.put-in-None.new.self ≡ put_named c.args.schema.now (c.args.name.now, c.args.column.kind)
appended c = c.in-Ok.ensures.ok ∙ ap (λ (k : Kind). put_named c.args.schema.now (c.args.name.now, k)) c.kind-kind.ensures

pub returns-in_ok-put-in-Some-clause-columns : goal.returns-in_ok-put-in-Some-clause-columns
returns-in_ok-put-in-Some-clause-columns c =
    column-replaced c.args.schema.now c.put.new.self c.args.columns.now.items c.args.name.now c.args.column c.requires.width
    (replaced (goal.at.returns-in_ok-put-in-Some-clause-columns c).In_ok-put-in-Some) c.in-Some.i (sym c.in-Some.ensures)

pub returns-in_ok-put-in-Some-clause-width : goal.returns-in_ok-put-in-Some-clause-width
returns-in_ok-put-in-Some-clause-width c =
    width-replaced c.args.schema.now c.put.new.self c.args.columns.now.items c.args.name.now c.args.column c.requires.width
    (replaced (goal.at.returns-in_ok-put-in-Some-clause-width c).In_ok-put-in-Some) c.in-Some.i (sym c.in-Some.ensures)

pub returns-in-Ok-clause-columns : goal.returns-in-Ok-clause-columns
returns-in-Ok-clause-columns c =
    rw c.in_ok-push-in-None.ensures.items
    (column-appended c.args.schema.now c.put-in-None.new.self c.args.columns.now.items c.args.name.now c.args.column c.requires.width
    (appended (goal.at.returns-in-Ok-clause-columns c).In-Ok) (sym c.in-None.ensures))

pub returns-in-Ok-clause-width : goal.returns-in-Ok-clause-width
returns-in-Ok-clause-width c =
    rw c.in_ok-push-in-None.ensures.items
    (width-appended c.args.schema.now c.put-in-None.new.self c.args.columns.now.items c.args.name.now c.args.column c.requires.width
    (appended (goal.at.returns-in-Ok-clause-width c).In-Ok) (sym c.in-None.ensures))

pub returns-in_err-put-in-Some-clause-kind : goal.returns-in_err-put-in-Some-clause-kind
returns-in_err-put-in-Some-clause-kind c = subst AreOfKind c.column.view_is (AreOfKind-values c.column.inside.values)

pub returns-in_err-push-in-None-clause-kind : goal.returns-in_err-push-in-None-clause-kind
returns-in_err-push-in-None-clause-kind c = subst AreOfKind c.column.view_is (AreOfKind-values c.column.inside.values)

pub returns-in_default-clause-kind : goal.returns-in_default-clause-kind
returns-in_default-clause-kind c = subst AreOfKind c.column.view_is (AreOfKind-values c.column.inside.values)

pub returns-in_ok-put-in-Some-clause-kind : goal.returns-in_ok-put-in-Some-clause-kind
returns-in_ok-put-in-Some-clause-kind c = subst AreOfKind c.column.view_is (AreOfKind-values c.column.inside.values)

pub returns-in-Ok-clause-kind : goal.returns-in-Ok-clause-kind
returns-in-Ok-clause-kind c = subst AreOfKind c.column.view_is (AreOfKind-values c.column.inside.values)
