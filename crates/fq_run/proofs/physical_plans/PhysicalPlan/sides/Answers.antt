use Rattle.std.proofs.Common.{◌++◌, ◌∷◌, [], List, map, ap, sym, ◌∙◌}
use Rattle.std.proofs.lemmas.Simd.{map-map}
use Rattle.fq_csv.specs.Sources.{Source, source_of_files}
use Rattle.fq_csv.specs.declared.sources.SourceFiles.{SourceFiles}
use Rattle.fq_csv.proofs.LastLemmas.{but_last-map, but_last-snoc}
use Rattle.fq_run.specs.Physical.{side_fields}
use Rattle.fq_run.proofs.physical_plans.PhysicalPlan.sides.Goals as goal

pub returns : goal.returns
returns c =
    let sides = c.self.inside.sides.items in
    let main = c.self.inside.main in
    ap (map (λ (s : SourceFiles). s.layout.schema)) c.as_slice.ensures.value
    ∙ sym (map-map (λ (s : Source). s.fields) source_of_files sides)
    ∙ ap (λ (xs : List SourceFiles). map (λ (s : Source). s.fields) (map source_of_files xs)) (sym (but_last-snoc sides main))
    ∙ ap (map (λ (s : Source). s.fields)) (sym (but_last-map source_of_files (sides ++ main ∷ [])))
    ∙ ap side_fields c.self.view_is
