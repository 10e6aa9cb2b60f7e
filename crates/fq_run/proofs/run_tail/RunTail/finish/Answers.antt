use Rattle.std.proofs.Common.{◌≡◌, ◌∙◌, Result, Ok, Err, OnOk, ap, inl, inr, option_map, subst, sym}
use Rattle.std.proofs.lemmas.Result.{IfErr-at_err, on_ok_weaker}
use Rattle.fq_column.specs.Frame.{Frame}
use Rattle.fq_column.specs.declared.faults.Memory.{Memory}
use Rattle.fq_run.specs.Outcome.{outcome_of_stages}
use Rattle.fq_run.specs.Standing.{Stands}
use Rattle.fq_run.specs.TailState.{TailState}
use Rattle.fq_run.specs.declared.faults.Fault.{Fault}
use Rattle.fq_run.specs.declared.faults.Fault.TheVariants as fault
use Rattle.fq_run.specs.declared.pipeline.Pipeline.{Pipeline}
use Rattle.fq_run.proofs.StandingLemmas.{ends-fault, ends-frame, settled-outcome}
use Rattle.fq_run.proofs.run_tail.RunTail.finish.Goals as goal
use Rattle.fq_run.proofs.run_tail.RunTail.finish.Goals.{in-Err-default-default+in-Some-1, in-Err-default-default+in-None-1, in-Ok-Some-default, in-Ok-None-Some}

pub returns-in-Ok : goal.returns-in-Ok
returns-in-Ok g c notations stages after sides main fits stands =
    elim c.match-opened.branch [
      | in-Err-default-default+in-Some-1 w ↦ absurd (let z : Err fault.Memory ≡ Ok c.in-Ok.field-0 = sym w.ended-is ∙ c.in-Ok.is in cc)
      | in-Err-default-default+in-None-1 w ↦ absurd (let z : Err fault.Memory ≡ Ok c.in-Ok.field-0 = sym w.ended-is ∙ c.in-Ok.is in cc)
      | in-Ok-Some-default w ↦
          let opened = subst (λ (r : Result Unit Memory). OnOk r (Stands {S = g.row.S.Denot} (g.S.RowSink.has notations) stages after sides main c.open-opened.new.self)) w.in-Ok-Some-default.is-0 (on_ok_weaker c.open-opened.result (λ on. on notations stages after sides main fits stands) c.open-opened.ensures.stands) in
          let now = subst (λ (t : TailState g.row.S.Denot). Stands {S = g.row.S.Denot} (g.S.RowSink.has notations) stages after sides main t) (sym c.tail.view_is) opened in
          let runs = ap (option_map (λ (p : Pipeline). p.operators.items)) w.in-Ok-Some-default.is-1 in
          subst (λ (s : g.row.S.Denot). (x : Frame) × ((outcome_of_stages stages sides main ≡ Ok x) × g.S.RowSink.has notations s x.fields x.rows)) (sym w.sink-is)
          (subst (λ (r : Result Unit Fault). OnOk r ((x : Frame) × ((outcome_of_stages stages sides main ≡ Ok x) × g.S.RowSink.has notations w.finish-ended.new.sink x.fields x.rows))) (sym w.ended-is ∙ c.in-Ok.is)
          (on_ok_weaker w.finish-ended.result (ends-frame stages after sides main {S = g.row.S.Denot} (g.S.RowSink.has notations) _ fits now w.in-Ok-Some-default.pipeline.operators.items runs w.finish-ended.new.sink) (on_ok_weaker w.finish-ended.result (λ all. all notations) w.finish-ended.ensures.all)))
      | in-Ok-None-Some w ↦ absurd (let z : Err w.in-Ok-None-Some.fault ≡ Ok c.in-Ok.field-0 = sym w.ended-is ∙ c.in-Ok.is in cc)
    ]

pub returns : goal.returns
returns g c notations stages after sides main fits stands =
    elim c.match-opened.branch [
      | in-Err-default-default+in-Some-1 w ↦ inl (let z : Err fault.Memory ≡ Err c.in-Err.fault = sym w.ended-is ∙ c.in-Err.is in cc)
      | in-Err-default-default+in-None-1 w ↦ inl (let z : Err fault.Memory ≡ Err c.in-Err.fault = sym w.ended-is ∙ c.in-Err.is in cc)
      | in-Ok-Some-default w ↦
          let opened = subst (λ (r : Result Unit Memory). OnOk r (Stands {S = g.row.S.Denot} (g.S.RowSink.has notations) stages after sides main c.open-opened.new.self)) w.in-Ok-Some-default.is-0 (on_ok_weaker c.open-opened.result (λ on. on notations stages after sides main fits stands) c.open-opened.ensures.stands) in
          let now = subst (λ (t : TailState g.row.S.Denot). Stands {S = g.row.S.Denot} (g.S.RowSink.has notations) stages after sides main t) (sym c.tail.view_is) opened in
          let runs = ap (option_map (λ (p : Pipeline). p.operators.items)) w.in-Ok-Some-default.is-1 in
          elim (IfErr-at_err _ (sym w.ended-is ∙ c.in-Err.is) w.finish-ended.ensures.ends) [
            | inl memory ↦ inl memory
            | inr ends ↦ inr (ends-fault stages after sides main {S = g.row.S.Denot} (g.S.RowSink.has notations) _ fits now w.in-Ok-Some-default.pipeline.operators.items runs c.in-Err.fault ends)
          ]
      | in-Ok-None-Some w ↦
          let opened = subst (λ (r : Result Unit Memory). OnOk r (Stands {S = g.row.S.Denot} (g.S.RowSink.has notations) stages after sides main c.open-opened.new.self)) w.in-Ok-None-Some.is-0 (on_ok_weaker c.open-opened.result (λ on. on notations stages after sides main fits stands) c.open-opened.ensures.stands) in
          let now = subst (λ (t : TailState g.row.S.Denot). Stands {S = g.row.S.Denot} (g.S.RowSink.has notations) stages after sides main t) (sym c.tail.view_is) opened in
          inr (settled-outcome stages after sides main c.in-Err.fault (now.settled c.in-Err.fault (w.in-Ok-None-Some.is-2 ∙ (let z : Err w.in-Ok-None-Some.fault ≡ Err c.in-Err.fault = sym w.ended-is ∙ c.in-Err.is in cc))))
    ]
