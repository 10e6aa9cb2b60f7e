use Rattle.std.proofs.Common.{◌≡◌, ◌∙◌, ◌≤◌, ℕ, List, None, length, ap, arith, sym}
use Rattle.std.specs.Prelude.{◌==◌, ◌&&◌, option_map, slice_get}
use Rattle.std.specs.Borrow.{Bor}
use Rattle.std.proofs.lemmas.Option.{slice_get-map}
use Rattle.fq_csv.specs.Sources.{layout_of}
use Rattle.fq_language.specs.Plan.{file_layouts}
use Rattle.fq_language.specs.View.{source_data}
use Rattle.fq_language.specs.declared.plans.Source.{Source}
use Rattle.fq_plan.specs.Noted.{noted_layout, noted_layouts}
use Rattle.fq_messages.proofs.ReviewLemmas.{all-clean, as-many, next-clean, past-layouts}
use Rattle.fq_messages.proofs.reviews.read_files.Goals as goal

pub loop-name-preserved : goal.loop-name-preserved
loop-name-preserved g c = (
  omega (arith, c.loop-name.invariant.0),
  c.in_ok-check_file.ensures.same ∙ c.loop-name.invariant.1,
  λ inputs tell.
      next-clean (g.O.Opener.bytes_of c.args.files.now) (λ (name : Bor (List ℕ)). name.now) c.args.names.now inputs (noted_layouts c.args.named.now c.args.plan.now)
      c.loop-name.name-index c.loop-name.number _ (noted_layout c.args.named.now (layout_of (source_data c.in-Some.source.now)))
      (c.args.check.now.problems == 0) (c.loop-name.check.problems == 0) (c.check_file.new.check.problems == 0)
      tell c.loop-name-test.true c.loop-name.invariant.0
      (slice_get-map (noted_layout c.args.named.now) (file_layouts c.args.plan.now) c.loop-name.number ∙ ap (option_map (noted_layout c.args.named.now)) (sym c.in-Some.ensures.source))
      (λ bytes known. c.in_ok-check_file.ensures.judged bytes (rw c.loop-name.invariant.1 known))
      (c.loop-name.invariant.2 inputs tell),
)

pub returns-in_default-clause-judged : goal.returns-in_default-clause-judged
returns-in_default-clause-judged g c inputs tell counted =
    let none : slice_get (file_layouts c.args.plan.now) c.loop-name.number ≡ None =
    sym c.source_of.ensures.source ∙ ap (option_map (λ (source : Bor Source). layout_of (source_data source.now))) c.in_default.is in
    let enough : length inputs ≤ c.loop-name.name-index = let past = past-layouts c.args.plan.now inputs c.loop-name.number counted none in omega (arith, past, c.loop-name.invariant.0) in
    c.loop-name.invariant.2 inputs tell ∙ ap (λ b. (c.args.check.now.problems == 0) && b) (all-clean c.args.named.now c.args.plan.now inputs c.loop-name.name-index counted enough)

pub returns-clause-judged : goal.returns-clause-judged
returns-clause-judged g c inputs tell counted =
    let many = as-many (g.O.Opener.bytes_of c.args.files.now) (λ (name : Bor (List ℕ)). name.now) c.args.names.now inputs tell in
    let enough : length inputs ≤ c.loop-name.name-index = omega (arith, many, c.loop-name-test.false) in
    c.loop-name.invariant.2 inputs tell ∙ ap (λ b. (c.args.check.now.problems == 0) && b) (all-clean c.args.named.now c.args.plan.now inputs c.loop-name.name-index counted enough)
