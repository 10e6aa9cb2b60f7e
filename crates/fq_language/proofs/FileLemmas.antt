-- Which source a file is of, by how many files each of the sources has.
use Rattle.std.proofs.Common.{◌≡◌, ◌∙◌, ◌<◌, ◌≤◌, ◌+◌, ◌-◌, ◌++◌, ℕ, zero, suc, List, [], ◌∷◌, Some, None, ap, ap₂, arith, drop, flat_map, get_or, length, map, refl, replicate, sum_by, sym}
use Rattle.std.specs.Prelude.{slice_get}
use Rattle.std.proofs.Math.Seq.{drop-cons}
use Rattle.std.proofs.lemmas.List.{drop-map, drop_all, length-append, length-map, length-replicate}
use Rattle.std.proofs.lemmas.List.Sums.{sum_by-cons}
use Rattle.fq_csv.specs.declared.cells.layouts.Layout.{Layout}
use Rattle.fq_csv.specs.Sources.{Source as SourceData, layout_of}
use Rattle.fq_language.specs.View.{source_data}
use Rattle.fq_language.specs.declared.plans.Source.{Source}

-- how each file of some sources is read, in order
abbrev pub layouts_in : List SourceData → List Layout
layouts_in sources = flat_map (λ s. replicate s.files (layout_of s)) sources

at-one : {X : Type 0} (n i : ℕ) (x : X) (more : List X) → i < n → slice_get (replicate n x ++ more) i ≡ Some x
at-one zero i x more lt = absurd (omega (arith, lt))
at-one (suc n) zero x more lt = refl
at-one (suc n) (suc i) x more lt = at-one n i x more (omega (arith, lt))

past-all : {X : Type 0} (n i : ℕ) (x : X) (more : List X) → n ≤ i → slice_get (replicate n x ++ more) i ≡ slice_get more (i - n)
past-all zero i x more le = ap (slice_get more) (let e : i ≡ i - 0 = omega arith in e)
past-all (suc n) zero x more le = absurd (omega (arith, le))
past-all (suc n) (suc i) x more le = past-all n i x more (omega (arith, le)) ∙ ap (slice_get more) (let e : i - n ≡ suc i - suc n = omega arith in e)

module _ (sources : List Source) (i left : ℕ) (s : Source) (within : i < length sources) (is : s ≡ get_or sources i s) where
  abbrev here : SourceData
  here = source_data s

  left-from : drop i (map source_data sources) ≡ here ∷ drop (i + 1) (map source_data sources)
  left-from =
      drop-map source_data i sources
      ∙ ap (map source_data) (drop-cons sources i s within ∙ ap (λ (x : Source). x ∷ drop (suc i) sources) (sym is))
      ∙ ap (λ ss. here ∷ ss) (sym (drop-map source_data (suc i) sources) ∙ ap (λ n. drop n (map source_data sources)) (let e : suc i ≡ i + 1 = omega arith in e))

  -- the file is of this source
  pub file-here : left < here.files → slice_get (layouts_in (drop i (map source_data sources))) left ≡ Some (layout_of here)
  file-here lt = ap (λ ss. slice_get (layouts_in ss) left) left-from ∙ at-one here.files left (layout_of here) (layouts_in (drop (i + 1) (map source_data sources))) lt

  -- or of a later one
  pub file-later : here.files ≤ left →
      slice_get (layouts_in (drop i (map source_data sources))) left ≡ slice_get (layouts_in (drop (i + 1) (map source_data sources))) (left - here.files)
  file-later le = ap (λ ss. slice_get (layouts_in ss) left) left-from ∙ past-all here.files left (layout_of here) (layouts_in (drop (i + 1) (map source_data sources))) le

-- or of none
pub file-nowhere : (sources : List Source) (left : ℕ) → slice_get (layouts_in (drop (length sources) (map source_data sources))) left ≡ None
file-nowhere sources left =
    ap (λ ss. slice_get (layouts_in ss) left)
    (drop_all (length sources) (map source_data sources) (let e = length-map sources source_data in omega (arith, e)))

-- as many as the sources have files
pub layouts-count : (sources : List SourceData) → length (layouts_in sources) ≡ sum_by (λ s. s.files) sources
layouts-count [] = refl
layouts-count (s ∷ sources) =
    length-append (replicate s.files (layout_of s)) (layouts_in sources)
    ∙ ap₂ ◌+◌ (length-replicate s.files (layout_of s)) (layouts-count sources)
    ∙ sym (sum_by-cons (λ (t : SourceData). t.files) s sources)
