use Rattle.std.proofs.Common.{◌≡◌, ◌∙◌, ◌+◌, ◌<◌, ◌≤◌, ◌-◌, ℕ, List, Some, ap, arith, drop, length, map, sum_by, sym}
use Rattle.std.specs.Prelude.{slice_get}
use Rattle.std.proofs.lemmas.Option.{slice_get_within}
use Rattle.fq_csv.specs.Sources.{Source as SourceData, layout_of}
use Rattle.fq_language.specs.Plan.{PlanData}
use Rattle.fq_language.specs.View.{source_data}
use Rattle.fq_language.proofs.FileLemmas.{file-here, file-later, file-nowhere, layouts-count, layouts_in}
use Rattle.fq_language.proofs.plans.Plan.source_of.Goals as goal

pub returns-then-left-files-clause-source : goal.returns-then-left-files-clause-source
returns-then-left-files-clause-source c =
    let all : c.args.self.now.sources ≡ map source_data c.as_slice-sources.result.now = ap (λ (p : PlanData). p.sources) (sym c.self.view_is) ∙ ap (map source_data) (sym c.as_slice-sources.ensures.value) in
    let item = c.source-item in
    let few : c.loop-source.left < item.result.files = omega (arith, c.if-left-files.true, c.files.ensures) in
    let here = file-here c.as_slice-sources.result.now c.loop-source.source-index c.loop-source.left item.result c.loop-source-test.true item.is few in
    sym (ap (λ (sources : List SourceData). slice_get (layouts_in sources) c.args.file) all ∙ c.loop-source.invariant ∙ here)

pub returns-then-left-files-clause-few : goal.returns-then-left-files-clause-few
returns-then-left-files-clause-few c =
    let all : c.args.self.now.sources ≡ map source_data c.as_slice-sources.result.now = ap (λ (p : PlanData). p.sources) (sym c.self.view_is) ∙ ap (map source_data) (sym c.as_slice-sources.ensures.value) in
    let item = c.source-item in
    let few : c.loop-source.left < item.result.files = omega (arith, c.if-left-files.true, c.files.ensures) in
    let here = file-here c.as_slice-sources.result.now c.loop-source.source-index c.loop-source.left item.result c.loop-source-test.true item.is few in
    let known : slice_get (layouts_in c.args.self.now.sources) c.args.file ≡ Some (layout_of (source_data item.result)) =
    ap (λ (sources : List SourceData). slice_get (layouts_in sources) c.args.file) all ∙ c.loop-source.invariant ∙ here in
    let within = slice_get_within (layouts_in c.args.self.now.sources) c.args.file (layout_of (source_data item.result)) known in
    let many = layouts-count c.args.self.now.sources in
    let most = c.self.invariant.few_files in
    let same = ap (λ (p : PlanData). sum_by (λ s. s.files) p.sources) c.self.view_is in
    omega (arith, within, many, most, same)

pub loop-source-preserved : goal.loop-source-preserved
loop-source-preserved c =
    let item = c.source-item in
    let past : item.result.files ≤ c.loop-source.left = omega (arith, c.if-left-files.false, c.files.ensures) in
    let later = file-later c.as_slice-sources.result.now c.loop-source.source-index c.loop-source.left item.result c.loop-source-test.true item.is past in
    c.loop-source.invariant
    ∙ later
    ∙ ap (λ (n : ℕ). slice_get (layouts_in (drop (c.loop-source.source-index + 1) (map source_data c.as_slice-sources.result.now))) (c.loop-source.left - n)) (sym c.files-left.ensures)

pub returns-clause-source : goal.returns-clause-source
returns-clause-source c =
    let all : c.args.self.now.sources ≡ map source_data c.as_slice-sources.result.now = ap (λ (p : PlanData). p.sources) (sym c.self.view_is) ∙ ap (map source_data) (sym c.as_slice-sources.ensures.value) in
    let end : c.loop-source.source-index ≡ length c.as_slice-sources.result.now = omega arith in
    sym (ap (λ (sources : List SourceData). slice_get (layouts_in sources) c.args.file) all
    ∙ c.loop-source.invariant
    ∙ ap (λ (n : ℕ). slice_get (layouts_in (drop n (map source_data c.as_slice-sources.result.now))) c.loop-source.left) end
    ∙ file-nowhere c.as_slice-sources.result.now c.loop-source.left)
