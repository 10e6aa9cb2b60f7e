use Rattle.std.proofs.Common.{◌≡◌, ◌++◌, ◌∷◌, [], List, map, ap, sym, subst, ◌∙◌}
use Rattle.std.proofs.lemmas.List.{map-append}
use Rattle.fq_csv.specs.declared.sources.SourceFiles.{SourceFiles}
use Rattle.fq_notation.specs.Notation.{notation_in}
use Rattle.fq_run.specs.Noted.{noted_files, noted_source}
use Rattle.fq_run.specs.Physical.{Physical, last_columns}
use Rattle.fq_run.specs.Stages.{IsRunnable, physical_of}
use Rattle.fq_run.proofs.SameSourceLemmas.{runnable-noted, sources-noted}
use Rattle.fq_run.proofs.physical_plans.PhysicalPlan.with_notations.Goals as goal
use Rattle.fq_run.proofs.physical_plans.PhysicalPlan.with_notations.Goals.{In_ok-main}

-- the sources before, and as they are read now
abbrev parts : In_ok-main → List SourceFiles
parts c = c.self.inside.sides.items ++ c.self.inside.main ∷ []

changed : (c : In_ok-main) → c.in_ok-sides.sides.items ++ c.in_ok-main.main ∷ [] ≡ map (noted_files c.args.named.now) (parts c)
changed c =
    let note = noted_files c.args.named.now in
    (λ i. c.in_ok-sides.ensures i ++ c.in_ok-main.ensures i ∷ []) ∙ sym (map-append note c.self.inside.sides.items (c.self.inside.main ∷ []))

pub new-requires-clause-runnable : goal.new-requires-clause-runnable
new-requires-clause-runnable c =
    let s = c.self.inside in
    let d = (goal.at.new-requires-clause-runnable c).In_ok-main in
    let runs = runnable-noted c.args.named.now (parts d) s.leading.front s.stages.items s.inputs c.self.invariant.0 in
    let now : IsRunnable (c.in_ok-sides.sides.items ++ c.in_ok-main.main ∷ []) s.leading.front s.stages.items s.inputs =
    subst (λ (xs : List SourceFiles). IsRunnable xs s.leading.front s.stages.items s.inputs) (sym (changed d)) runs in
    subst (IsRunnable (c.in_ok-sides.sides.items ++ c.in_ok-main.main ∷ []) s.leading.front s.stages.items) now.inputs_wanted now

pub returns : goal.returns
returns c =
    let d = (goal.at.returns c).In_ok-main in
    let s = c.self.inside in
    let named = c.args.named.now in
    let last = c.args.last.now in
    let notations : c.in_ok-notations.notations ≡ map (notation_in last) (last_columns c.args.self) =
    c.in_ok-notations.ensures ∙ ap (map (notation_in last)) c.columns.ensures in
    c.new.ensures
    ∙ (λ i. physical_of (changed d i) s.leading.front s.stages.items (notations i))
    ∙ (λ i. (let p : Physical = record { sources = sources-noted named (parts d) i; front = s.leading.front.steps; stages = s.stages.items; notations = map (notation_in last) (last_columns c.args.self) } in p))
    ∙ (λ i. (let p : Physical = record { sources = map (noted_source named) (c.self.view_is i).sources; front = (c.self.view_is i).front; stages = (c.self.view_is i).stages; notations = map (notation_in last) (last_columns c.args.self) } in p))
