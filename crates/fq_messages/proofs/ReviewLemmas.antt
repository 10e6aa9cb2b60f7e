-- What a check has judged of files, one after another.
use Rattle.std.proofs.Common.{◌≡◌, ◌∙◌, ◌+◌, ◌<◌, ◌≤◌, ℕ, zero, suc, Bool, List, [], ◌∷◌, Option, Some, None, ap, ap₂, arith, get_or, length, map, refl, sym, take}
use Rattle.std.specs.Prelude.{◌&&◌, slice_get}
use Rattle.std.proofs.Math.Seq.{take_all}
use Rattle.std.proofs.lemmas.List.{length-map}
use Rattle.fq_csv.specs.declared.cells.layouts.Layout.{Layout}
use Rattle.fq_language.specs.Plan.{PlanData, file_layouts, files_wanted}
use Rattle.fq_language.proofs.FileLemmas.{layouts-count}
use Rattle.fq_plan.specs.Noted.{noted_layout, noted_layouts}
use Rattle.fq_notation.specs.Notation.{Named}
use Rattle.fq_review.specs.Checked.{are_clean, is_clean}
use Rattle.fq_review.proofs.CheckLemmas.{and-assoc, clean-more}

-- the bytes of a name among names whose bytes are told
told-at : {N : Type 0} (f : List ℕ → Option (List ℕ)) (text : N → List ℕ) (names : List N) (inputs : List (List ℕ)) (i : ℕ) (d : N) → map f (map text names) ≡ map Some inputs →
    i < length names → (bytes : List ℕ) × (slice_get inputs i ≡ Some bytes) × (f (text (get_or names i d)) ≡ Some bytes)
told-at f text [] inputs i d tell lt = absurd (omega (arith, lt))
told-at f text (n ∷ names) [] i d tell lt = absurd (cc)
told-at f text (n ∷ names) (b ∷ inputs) zero d tell lt = (b, refl, (cc))
told-at f text (n ∷ names) (b ∷ inputs) (suc i) d tell lt = told-at f text names inputs i d (cc) (omega (arith, lt))

-- one more file is judged, by its own layout
pub next-clean : {N : Type 0} (f : List ℕ → Option (List ℕ)) (text : N → List ℕ) (names : List N) (inputs : List (List ℕ)) (layouts : List Layout) (i number : ℕ) (d : N) (layout : Layout)
    (first old new : Bool) → map f (map text names) ≡ map Some inputs → i < length names → number ≡ i → slice_get layouts number ≡ Some layout →
    ((bytes : List ℕ) → f (text (get_or names i d)) ≡ Some bytes → new ≡ (old && is_clean number layout bytes)) →
    old ≡ (first && are_clean (take i layouts) (take i inputs)) → new ≡ (first && are_clean (take (i + 1) layouts) (take (i + 1) inputs))
next-clean f text names inputs layouts i number d layout first old new tell lt same at judged before =
    let told = told-at f text names inputs i d tell lt in
    judged told.0 told.2
    ∙ ap₂ ◌&&◌ before (ap (λ n. is_clean n layout told.0) (let e : number ≡ 0 + i = omega (arith, same) in e))
    ∙ and-assoc first (are_clean (take i layouts) (take i inputs)) (is_clean (0 + i) layout told.0)
    ∙ ap (λ b. first && b) (sym (clean-more 0 i layouts inputs layout told.0 (ap (slice_get layouts) (sym same) ∙ at) told.1))

none-past : {X : Type 0} (xs : List X) (i : ℕ) → slice_get xs i ≡ None → length xs ≤ i
none-past [] i none = omega arith
none-past (x ∷ xs) zero none = absurd (cc)
none-past (x ∷ xs) (suc i) none = let rest = none-past xs i none in omega (arith, rest)

-- as many files as the plan wants were judged
pub all-clean : (named : List Named) (plan : PlanData) (inputs : List (List ℕ)) (i : ℕ) → length inputs ≡ files_wanted plan → length inputs ≤ i →
    are_clean (take i (noted_layouts named plan)) (take i inputs) ≡ are_clean (noted_layouts named plan) inputs
all-clean named plan inputs i counted enough =
    ap₂ are_clean
    (take_all i (noted_layouts named plan) (let e = layouts-count plan.sources in omega (arith, e, length-map (file_layouts plan) (noted_layout named), counted, enough)))
    (take_all i inputs enough)

-- or there is no layout left
pub past-layouts : (plan : PlanData) (inputs : List (List ℕ)) (i : ℕ) → length inputs ≡ files_wanted plan → slice_get (file_layouts plan) i ≡ None → length inputs ≤ i
past-layouts plan inputs i counted none =
    let past = none-past (file_layouts plan) i none in
    let many = layouts-count plan.sources in
    omega (arith, past, many, counted)

-- as many names as files
pub as-many : {N : Type 0} (f : List ℕ → Option (List ℕ)) (text : N → List ℕ) (names : List N) (inputs : List (List ℕ)) → map f (map text names) ≡ map Some inputs → length names ≡ length inputs
as-many f text [] [] tell = refl
as-many f text [] (b ∷ inputs) tell = absurd (cc)
as-many f text (n ∷ names) [] tell = absurd (cc)
as-many f text (n ∷ names) (b ∷ inputs) tell = ap suc (as-many f text names inputs (cc))
