use Rattle.std.proofs.Common.{◌≡◌, ◌≤◌, ◌-◌, ◌++◌, ◌∷◌, [], ℕ, List, Result, map, length, flat_map, replicate, refl, ap, sym, ◌∙◌, subst, arith}
use denote.Param.Send.{IsSync, sendable}
use Rattle.std.proofs.Crossing.{crosses}
use Rattle.fq_expr.proofs.expressions.Expr.TheLaws.TheKnot as knot
use Rattle.fq_run.specs.contracts.leading_steps.LeadingSteps.{the_row}
use Rattle.std.specs.Prelude.{All, IfErr, IfOk, vec_len}
use Rattle.std.proofs.lemmas.Option.{slice_get_within}
use Rattle.fq_column.specs.Frame.{Fields}
use Rattle.fq_expr.specs.Steps.{fields_after_all}
use Rattle.fq_lanes.specs.Engine.{BlamesFeed, Finishes}
use Rattle.fq_lanes.specs.declared.faults.RunFault.{RunFault}
use Rattle.fq_lanes.specs.declared.faults.RunFault.TheVariants as engine
use Rattle.fq_lanes.specs.declared.reports.Report.{Report}
use Rattle.fq_notation.specs.declared.notations.Notation.{Notation}
use Rattle.fq_run.specs.EngineRun.{no_rows, opened}
use Rattle.fq_run.specs.Feeding.{Feeding, MayCome}
use Rattle.fq_run.specs.GatheredRun.{HasGathered}
use Rattle.fq_run.specs.Physical.{Physical, files_wanted, front_fields, last_columns, side_fields}
use Rattle.fq_run.specs.Run.{IsEngineFault, NamesFile, engine_fault}
use Rattle.fq_run.specs.Stages.{physical_of, Fit}
use Rattle.fq_run.specs.Standing.{TailTakes, Waits}
use Rattle.fq_run.specs.TailState.{TailState}
use Rattle.fq_run.specs.Working.{work_on}
use Rattle.fq_run.specs.declared.gathering.SideSource.{SideSource}
use Rattle.fq_run.specs.declared.leading_steps.Worked.{Worked}
use Rattle.fq_csv.specs.declared.sources.SourceFiles.{SourceFiles}
use Rattle.fq_run.specs.declared.stages.Stage.{Stage}
use Rattle.fq_run.proofs.GatheredLemmas.{has-gathered}
use Rattle.fq_run.proofs.LogLemmas.{Takes-one, took-weaker}
use Rattle.fq_run.proofs.StageOutcomeLemmas.{fit-last, fit-over}
use Rattle.fq_run.proofs.RunStartLemmas.{count-layouts, side-count, length-opened, opened-open}
use Rattle.fq_run.proofs.physical_plans.PhysicalPlan.gather.Given.{Over}
use Rattle.fq_run.proofs.physical_plans.PhysicalPlan.gather.Goals as goal
use Rattle.fq_run.proofs.physical_plans.PhysicalPlan.gather.Goals.{In-Ok}

pub open_feeds-requires-clause-one_each : goal.open_feeds-requires-clause-one_each
open_feeds-requires-clause-one_each g c =
    let s = c.self.inside in
    let layouts = c.in_ok-layouts.ensures ∙ ap (λ (js : List SourceFiles). flat_map (λ (s : SourceFiles). replicate s.files s.layout) (js ++ c.self.inside.main ∷ [])) c.as_slice-sides.ensures.value in
    let count = ap length layouts ∙ count-layouts (s.sides.items ++ s.main ∷ []) s.leading.front s.stages.items s.inputs c.self.invariant.0 ∙ ap files_wanted c.self.view_is in
    omega (arith, count, c.requires.inputs, c.in_ok-layouts.layouts.ok.0)

pub run_lanes-tail-requires-clause-feeds : goal.run_lanes-tail-requires-clause-feeds
run_lanes-tail-requires-clause-feeds g c κs within =
    omega (
      arith,
      ap length c.in_ok-feeds.ensures,
      length-opened (g.R.Read.remaining) c.args.batch_size 0 c.in_ok-layouts.layouts.items c.args.inputs.items,
      c.args.inputs.ok.0,
      c.requires.inputs,
      ap files_wanted c.self.view_is,
      c.self.invariant.0.few_files,
    )

pub run_lanes-tail-requires-clause-open : goal.run_lanes-tail-requires-clause-open
run_lanes-tail-requires-clause-open g c κs within =
    subst (λ (fs : List Feeding). All (λ (f : Feeding). f.most ≤ 2147483648) fs) (sym c.in_ok-feeds.ensures)
    (opened-open (g.R.Read.remaining) c.args.batch_size 0 c.in_ok-layouts.layouts.items c.args.inputs.items)

-- what the tail takes, whatever the notations
abbrev TakesAll : (g : Over) → TailState g.row.S.Denot → ℕ → ℕ → Worked → TailState g.row.S.Denot → Type 0
TakesAll g old file serial out new = (notations : List Notation) → TailTakes {S = g.row.S.Denot} (g.S.RowSink.has notations) old file out new

-- what the threads did
finished : (g : Over) (c : In-Ok g) (notations : List Notation) →
    Finishes MayCome (λ file item out. out ≡ work_on c.self.inside.leading.front (c.self.inside.inputs - c.self.inside.main.files) file item) (Takes-one {S = g.row.S.Denot} (g.S.RowSink.has notations) c.self.inside.stages.items c.self.invariant.0.fits.0)
    c.in_ok-feeds.feeds.items c.new-tail.result c.in-Ok.report.trace.items c.run_lanes-tail.result.0
finished g c notations =
    let s = c.self.inside in
    let sides-are = c.self.invariant.1 ∙ sym (side-count (s.sides.items ++ s.main ∷ []) s.leading.front s.stages.items s.inputs c.self.invariant.0 c.self.inside.sides.items c.self.inside.main refl) in
    let Done : ℕ → Report → Type 0 = λ sides report. Finishes MayCome (λ file item out. out ≡ work_on c.self.inside.leading.front sides file item) (TakesAll g)
    c.in_ok-feeds.feeds.items c.new-tail.result report.trace.items c.run_lanes-tail.result.0 in
    let all : Done (s.inputs - s.main.files) c.in-Ok.report = subst (λ (sides : ℕ). Done sides c.in-Ok.report) sides-are
    (subst (λ (r : Result Report RunFault). IfOk r (Done s.leading.side_files)) c.in-Ok.is c.run_lanes-tail.ensures.done) in
    let log : List (ℕ × ℕ × Worked) = all.2.0 in (
      all.0,
      all.1,
      (
        log,
        all.2.1,
        took-weaker (TakesAll g) (Takes-one {S = g.row.S.Denot} (g.S.RowSink.has notations) c.self.inside.stages.items c.self.invariant.0.fits.0) (λ old file serial out new takes. takes notations) log c.new-tail.result c.run_lanes-tail.result.0 all.2.2,
        all.2.3,
      ),
    )

pub new-tail-requires : goal.new-tail-requires
new-tail-requires g c =
    let s = c.self.inside in
    let runnable = c.self.invariant.0 in
    let sources = c.in_ok-sources.ensures ∙ ap (map (λ (s : SourceFiles). no_rows s.files s.layout.schema)) c.as_slice-sides.ensures.value in (
      runnable.fits.0,
      subst (λ (t : List SideSource × Fields × List Stage). Fit (map (λ (g : SideSource). g.batch.fields) t.0) t.1 t.2 runnable.fits.0)
          (λ i. (sym sources i, sym (c.in_ok-before.ensures ∙ c.self.invariant.2) i, sym c.as_slice-stages.ensures.value i))
          (fit-over (s.sides.items ++ s.main ∷ []) s.leading.front s.stages.items s.inputs runnable s.sides.items s.main refl),
    )

pub returns-in-Ok-clause-gathered : goal.returns-in-Ok-clause-gathered
returns-in-Ok-clause-gathered g c notations fresh =
    let s = c.self.inside in
    let runnable = c.self.invariant.0 in
    let parts = s.sides.items ++ s.main ∷ [] in
    let plan = physical_of parts s.leading.front s.stages.items s.notations in
    let count : length c.args.inputs.items ≡ files_wanted plan = omega (arith, c.args.inputs.ok.0, c.requires.inputs, ap files_wanted c.self.view_is) in
    let sources = c.in_ok-sources.ensures ∙ ap (map (λ (s : SourceFiles). no_rows s.files s.layout.schema)) c.as_slice-sides.ensures.value in
    let columns = ap last_columns (sym c.self.view_is) ∙ fit-last (side_fields plan) (front_fields plan) s.stages.items runnable.fits.0 runnable.fits.1 in
    subst (λ (p : Physical). HasGathered {S = g.row.S.Denot} (g.S.RowSink.has notations) g.R.Read.remaining c.args.inputs.items p c.args.batch_size c.run_lanes-tail.result.0 c.in-Ok.report.trace.items) c.self.view_is
    (has-gathered parts s.leading.front s.stages.items s.inputs runnable s.sides.items s.main refl {S = g.row.S.Denot} (g.S.RowSink.has notations) g.R.Read.remaining c.args.inputs.items s.notations c.args.batch_size c.in_ok-feeds.feeds.items
    c.new-tail.result c.run_lanes-tail.result.0 c.in-Ok.report.trace.items
    (omega (arith, c.requires.batch_size.0)) count
    (c.in_ok-feeds.ensures ∙ ap (λ fss. opened (g.R.Read.remaining) c.args.batch_size 0 fss c.args.inputs.items) (c.in_ok-layouts.ensures ∙ ap (λ (js : List SourceFiles). flat_map (λ (s : SourceFiles). replicate s.files s.layout) (js ++ c.self.inside.main ∷ [])) c.as_slice-sides.ensures.value))
    (c.new-tail.ensures.files ∙ c.self.invariant.1)
    (subst (λ (t : List SideSource × List Stage). Waits {S = g.row.S.Denot} (g.S.RowSink.has notations) t.1 runnable.fits.0 t.0 (no_rows s.main.files (fields_after_all s.leading.front.fields s.leading.front.steps)) c.new-tail.result)
    (λ i. (sources i, c.as_slice-stages.ensures.value i))
    (c.new-tail.ensures.waits notations runnable.fits.0 (no_rows s.main.files (fields_after_all s.leading.front.fields s.leading.front.steps)) (subst (λ (f : Fields). g.S.RowSink.has notations c.args.sink f []) columns fresh)
    (c.in_ok-before.ensures ∙ c.self.invariant.2) refl))
    (finished g c notations))

leading-sync : IsSync the_row
leading-sync = search (crosses, knot.crosses, sendable) depth 60 fits 20000

pub run_lanes-tail-requires-sync-W : goal.run_lanes-tail-requires-sync-W
run_lanes-tail-requires-sync-W g c κs within = record { shared = leading-sync.shared }

engine-fault : (f : RunFault) → IsEngineFault (engine_fault f)
engine-fault engine.Memory = tt
engine-fault (engine.Read file) = tt

pub returns-in-Err-clause-fault : goal.returns-in-Err-clause-fault
returns-in-Err-clause-fault g c = rw c.into.ensures (engine-fault c.in-Err.fault)

-- the feed that it blames is one of the files'
names-file : (files : ℕ) (feeds : List Feeding) (f : RunFault) → length feeds ≤ files → BlamesFeed (λ (_ : Feeding). Unit {0}) feeds f → NamesFile files (engine_fault f)
names-file files feeds engine.Memory e h = tt
names-file files feeds (engine.Read file) e h = omega (arith, e, slice_get_within feeds file h.0 h.1)

pub returns-in-Err-clause-read : goal.returns-in-Err-clause-read
returns-in-Err-clause-read g c =
    rw c.into.ensures (names-file (vec_len c.args.inputs) c.in_ok-feeds.feeds.items c.in-Err.fault
    (omega (
      arith,
      ap length c.in_ok-feeds.ensures,
      length-opened (g.R.Read.remaining) c.args.batch_size 0 c.in_ok-layouts.layouts.items c.args.inputs.items,
      c.args.inputs.ok.0,
      c.in_ok-layouts.layouts.ok.0,
    ))
    (subst (λ (r : Result Report RunFault). IfErr r (BlamesFeed (λ (_ : Feeding). Unit {0}) c.in_ok-feeds.feeds.items)) c.in-Err.is c.run_lanes-tail.ensures.fault))
