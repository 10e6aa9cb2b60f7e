use Rattle.std.proofs.Common.{◌≡◌, ◌∙◌, List, [], ap, arith, length, subst, sym}
use Rattle.std.proofs.lemmas.List.{length-map}
use Rattle.fq_column.specs.Batch.{without_cells}
use Rattle.fq_column.specs.Column.{Cells}
use Rattle.fq_column.specs.Frame.{kinds_of}
use Rattle.fq_column.proofs.BatchLemmas.{written}
use Rattle.csv.specs.Reading.{default_config, records}
use Rattle.fq_csv.specs.Rows.{Holds}
use Rattle.fq_csv.specs.TextRows.{HoldsRowsOf}
use Rattle.fq_csv.proofs.HeldRowLemmas.{Holds-none}
use Rattle.fq_csv.proofs.scanning.runs.columns_of.Goals as goal

pub push_records-requires-clause-empty : goal.push_records-requires-clause-empty
push_records-requires-clause-empty c =
    let kinds = kinds_of c.args.layout.now.schema in
    subst (λ (cs : List Cells). Holds kinds cs []) (sym (c.as_mut_slice.ensures.value ∙ c.in_ok-columns.ensures.columns)) (Holds-none kinds)

pub returns-clause-rows : goal.returns-clause-rows
returns-clause-rows c =
    let kinds = kinds_of c.args.layout.now.schema in
    let items = c.in_ok-columns.columns.items in
    let new = c.push_records.new.columns in
    let rows : HoldsRowsOf c.args.layout.now (records default_config c.args.text) new c.in_ok-bad.bad = c.in_ok-bad.ensures in
    let size : length new ≡ length items =
    sym (length-map new (λ (d : Cells). d.kind)) ∙ ap length rows.held.same_kinds ∙ sym (ap length c.in_ok-columns.ensures.columns ∙ length-map kinds without_cells) in
    subst (λ (cs : List Cells). HoldsRowsOf c.args.layout.now (records default_config c.args.text) cs c.in_ok-bad.bad)
    (sym (written c.in_ok-columns.columns.len new items size (grind arith))) rows
