use Rattle.std.proofs.Common.{◌∙◌, [], IsSome, Err, ap, inl, inr, option_map, refl, subst, sym}
use Rattle.std.proofs.lemmas.Result.{on_ok_weaker}
use Rattle.fq_run.specs.Gathering.{gathered}
use Rattle.fq_run.specs.Standing.{Stands}
use Rattle.fq_run.specs.TailState.{TailState}
use Rattle.fq_run.specs.declared.pipeline.Pipeline.{Pipeline}
use Rattle.fq_run.proofs.StandingLemmas.{ready-on, stands-ended, stands-on, stands-settled}
use Rattle.fq_run.proofs.run_tail.RunTail.take_main.Goals as goal
use Rattle.fq_run.proofs.run_tail.RunTail.take_main.Goals.{in-Err, in_default-pushed}

pub returns-in_default-clause-taken : goal.returns-in_default-clause-taken
returns-in_default-clause-taken g c notations stages after sides main fits stands =
    let opened = subst (λ (t : TailState g.row.S.Denot). Stands {S = g.row.S.Denot} (g.S.RowSink.has notations) stages after sides main t) (sym c.self.view_is) (c.in_ok-open.ensures.stands notations stages after sides main fits stands) in
    let none = ap (option_map (λ (p : Pipeline). p.operators.items)) c.in_default.is in
    stands-ended stages after sides main {S = g.row.S.Denot} (g.S.RowSink.has notations) _ fits opened c.args.item none
    (subst (λ (t : TailState g.row.S.Denot). IsSome t.fault) (sym c.self.view_is) (c.in_ok-open.ensures.opened (ap (λ (t : TailState g.row.S.Denot). t.operators) (sym c.self.view_is) ∙ none)))

pub invariant_of-self-in_default-pushed : goal.invariant_of-self-in_default-pushed
invariant_of-self-in_default-pushed g c =
    ready-on {S = g.row.S.Denot} (g.S.RowSink.has []) _ _ c.in-Some.pipeline.operators.items c.push-pushed.new.self.operators.items c.from_worked-input.result c.self.invariant
    (ap (option_map (λ (p : Pipeline). p.operators.items)) c.in-Some.is) refl refl refl c.from_worked-input.ensures.columns (c.in_default-pushed.ensures.goes_on [])

pub returns-clause-taken : goal.returns-clause-taken
returns-clause-taken g c =
    on_ok_weaker c.unless_refused.result (λ kept notations stages after sides main fits stands.
    let opened = subst (λ (t : TailState g.row.S.Denot). Stands {S = g.row.S.Denot} (g.S.RowSink.has notations) stages after sides main t) (sym c.self.view_is) (c.in_ok-open.ensures.stands notations stages after sides main fits stands) in
    let runs = ap (option_map (λ (p : Pipeline). p.operators.items)) c.in-Some.is in
    elim c.match-pushed.branch [
      | in-Err w ↦ elim w.in-Err.ensures.ends [
        | inl memory ↦ absurd (kept (w.pushed-is ∙ ap Err memory))
        | inr ends ↦ stands-settled stages after sides main {S = g.row.S.Denot} (g.S.RowSink.has notations) _ fits opened c.in-Some.pipeline.operators.items runs c.args.item c.from_worked-input.result c.from_worked-input.ensures.stream c.from_worked-input.ensures.columns
            c.match-pushed.self w.in-Err.fault (ap (λ (t : TailState g.row.S.Denot). t.operators) w.self-is) (ap (λ (t : TailState g.row.S.Denot). t.fault) w.self-is) ends
      ]
      | in_default-pushed w ↦ subst (λ (t : TailState g.row.S.Denot). Stands {S = g.row.S.Denot} (g.S.RowSink.has notations) stages after sides (gathered main c.args.item) t) (sym w.self-is)
          (stands-on stages after sides main {S = g.row.S.Denot} (g.S.RowSink.has notations) _ fits opened c.in-Some.pipeline.operators.items runs c.args.item c.from_worked-input.result c.from_worked-input.ensures.stream c.from_worked-input.ensures.columns
          _ c.push-pushed.new.self.operators.items refl (c.self.invariant.runs c.in-Some.pipeline.operators.items runs).0 refl (w.in_default-pushed.ensures.goes_on notations))
    ]) c.unless_refused.ensures
