use Rattle.std.proofs.Common.{◌≡◌, ◌∙◌, ◌-◌, ◌∷◌, List, [], ap, arith, sym}
use Rattle.std.specs.Prelude.{slice_get}
use Rattle.csv.specs.Reading.{default_config, records, strip_bom}
use Rattle.csv.specs.Records.{fields_of}
use Rattle.fq_csv.specs.File.{Record}
use Rattle.fq_csv.specs.Readers.{HasLeft}
use Rattle.fq_places.proofs.RecordLemmas.{first, later, none-left}
use Rattle.fq_places.proofs.records.record_at.Goals as goal

pub loop-init : goal.loop-init
loop-init g c = record {
  plain = c.new-reader.ensures.plain;
  left = λ bytes known.
      let all = records default_config (strip_bom bytes) in
      (all, c.new-reader.ensures.left bytes known, ap (λ n. slice_get all n) (let e : c.args.number ≡ c.args.number - 0 = omega arith in e));
}

pub returns-then-not-branch : goal.returns-then-not-branch
returns-then-not-branch g c bytes known =
    let kept = c.loop.invariant.left bytes known in
    let none : kept.0 ≡ [] = rw c.if-not-branch.true at (c.in_ok-read.ensures.reads kept.0 kept.1) in
    sym (kept.2 ∙ none-left kept.0 (c.args.number - c.loop.counter) none)

pub loop-preserved : goal.loop-preserved
loop-preserved g c = record {
  plain = c.in_ok-read.ensures.plain;
  left = λ bytes known.
      let kept = c.loop.invariant.left bytes known in
      let fields = fields_of c.read.new.row in
      let next : (rest : List Record) × (kept.0 ≡ fields ∷ rest) × HasLeft g.R.Read.remaining c.read.new.self rest = rw c.if-not-branch.false at (c.in_ok-read.ensures.reads kept.0 kept.1) in
      (next.0, next.2, kept.2 ∙ later kept.0 next.0 fields c.args.number c.loop.counter c.loop-test.true next.1);
}

pub returns-then-not-branch-2 : goal.returns-then-not-branch-2
returns-then-not-branch-2 g c bytes known =
    let kept = c.loop.invariant.left bytes known in
    let none : kept.0 ≡ [] = rw c.if-not-branch-2.true at (c.in_ok-read-2.ensures.reads kept.0 kept.1) in
    sym (kept.2 ∙ none-left kept.0 (c.args.number - c.loop.counter) none)

pub returns : goal.returns
returns g c bytes known =
    let kept = c.loop.invariant.left bytes known in
    let fields = fields_of c.read-2.new.row in
    let next : (rest : List Record) × (kept.0 ≡ fields ∷ rest) × HasLeft g.R.Read.remaining c.read-2.new.self rest = rw c.if-not-branch-2.false at (c.in_ok-read-2.ensures.reads kept.0 kept.1) in
    sym (kept.2 ∙ first kept.0 next.0 fields (c.args.number - c.loop.counter) (omega (arith, c.loop-test.false)) next.1)
