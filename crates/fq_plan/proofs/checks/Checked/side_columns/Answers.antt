use Rattle.std.proofs.Common.{◌≡◌, ◌∙◌, List, Some, ap, arith, sym}
use Rattle.std.specs.Prelude.{option_map, slice_get}
use Rattle.std.proofs.lemmas.Grind.{common_steps}
use Rattle.std.proofs.lemmas.Option.{slice_get-map, gets}
use Rattle.fq_column.specs.Frame.{Fields}
use Rattle.fq_csv.specs.declared.sources.SourceFiles.{SourceFiles}
use Rattle.fq_language.specs.Plan.{side_fields}
use Rattle.fq_plan.specs.Stages.{plan_of}
use Rattle.fq_plan.proofs.WholeSourceLemmas.{side_fields-whole}
use Rattle.fq_plan.proofs.checks.Checked.side_columns.Goals as goal

pub returns : goal.returns
returns c =
    let n = c.args.source in
    let there : slice_get c.sides.result.now n ≡ Some c.in_ok-side.side.now = grind (arith, common_steps, gets) in
    let columns : SourceFiles → Fields = λ s. s.layout.schema in
    sym (slice_get-map columns c.sides.result.now n ∙ (λ i. option_map columns (there i)))
    ∙ ap (λ (fs : List Fields). slice_get fs n) (c.sides.ensures ∙ sym (side_fields-whole (plan_of c.self.inside.physical)) ∙ ap side_fields c.self.view_is)
