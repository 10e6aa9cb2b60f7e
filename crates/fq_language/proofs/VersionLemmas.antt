-- A plan of the first version is the same plan in the second.
use Rattle.std.proofs.Common.{◌≡◌, ◌∙◌, ℕ, Bool, true, false, List, [], ◌∷◌, Option, Some, None, option_map, length, refl, ap, sym, All}
use Rattle.std.specs.Prelude.{◌&&◌, codes, nat_le, sum_by, if◌then◌else◌}
use Rattle.serde_json.specs.Data.{Data, Items, no_items, item}
use Rattle.serde_json.specs.Find.{get, as_array}
use Rattle.fq_column.specs.Frame.{Fields}
use Rattle.fq_language.specs.Parts.{given, only_if, items_as, each_of, member, has_members, whole_from_to, pair_of, name_of, with_length, word}
use Rattle.fq_language.specs.Plan.{PlanStep, PlanData}
use Rattle.fq_csv.specs.Sources.{Source}
use Rattle.fq_language.specs.Spelling.{kinds, names, plan_of, source_of, source_with, step_of, version_of}
use Rattle.fq_language.specs.Versions.{IsNextVersion, IsOldStep}
use Rattle.fq_language.specs.declared.plans.Version.{Version}
use Rattle.fq_language.specs.declared.plans.Version.TheVariants.{One, Two}
use Rattle.fq_language.proofs.LimitLemmas.{given-some, items_as-all}
use Rattle.fq_language.proofs.StepVersionLemmas.{old-step}
use Rattle.fq_language.specs.declared.plans.TheConstants.{MAX_NULL_VALUES, MAX_SOURCES}
use Rattle.fq_csv.specs.declared.sources.TheConstants.{MAX_FILES}
use Rattle.fq_expr.specs.declared.fronts.TheConstants.{MAX_STEPS}

-- ---- sources

without-nulls : (d : Data) (s : Source) → source_with (Some []) d ≡ Some s → s.nulls ≡ []
without-nulls d s e =
    let columns : Data → Option Fields = each_of (pair_of name_of (word kinds)) in
    let made : ℕ → Fields → Option Source = λ files fields. Some (record { files = files; fields = fields; nulls = []; notations = []; projection = [] }) in
    let n = given-some (member (codes "files") (whole_from_to 1 MAX_FILES) d) (λ files. given (member (codes "columns") columns d) (made files)) s (sym e) in
    let c = given-some (member (codes "columns") columns d) (made n.0) s n.2 in
    ap (λ (o : Option Source). elim o [ None ↦ [] | Some t ↦ t.nulls ]) c.2

-- a source of the first version is the same in the second, and has no text that is null
old-source : (d : Data) (s : Source) → source_of One d ≡ Some s → (source_of Two d ≡ Some s) × (s.nulls ≡ [])
old-source d s e = go (has_members 2 d) e
  where
    later : Option Source
    later = only_if (has_members 3 d) (source_with (with_length 0 MAX_NULL_VALUES (member (codes "null_values") names d)) d)

    go : (b : Bool) → only_if b (source_with (Some []) d) ≡ Some s → ((if b then source_with (Some []) d else later) ≡ Some s) × (s.nulls ≡ [])
    go true q = (q, without-nulls d s q)
    go false q = absurd (cc q)

-- ---- lists of sources

module _ {X : Type 0} (f g : Data → Option X) (h : (d : Data) (x : X) → f d ≡ Some x → g d ≡ Some x) where
  items-both : (ds : Items) (xs : List X) → items_as f ds ≡ Some xs → items_as g ds ≡ Some xs
  items-both no_items xs e = e
  items-both (item d ds) xs e = first (items-both ds) (f d) refl e
    where
      rest : ((ys : List X) → items_as f ds ≡ Some ys → items_as g ds ≡ Some ys) → (x : X) → f d ≡ Some x → (o : Option (List X)) → items_as f ds ≡ o → option_map (λ ys. x ∷ ys) o ≡ Some xs → items_as g (item d ds) ≡ Some xs
      rest both x q None p r = absurd (cc r)
      rest both x q (Some ys) p r =
          ap (λ o. given o (λ y. option_map (λ ys. y ∷ ys) (items_as g ds))) (h d x q) ∙ ap (option_map (λ ys. x ∷ ys)) (both ys p) ∙ r

      first : ((ys : List X) → items_as f ds ≡ Some ys → items_as g ds ≡ Some ys) → (o : Option X) → f d ≡ o → given o (λ x. option_map (λ ys. x ∷ ys) (items_as f ds)) ≡ Some xs → items_as g (item d ds) ≡ Some xs
      first both None q r = absurd (cc r)
      first both (Some x) q r = rest both x q (items_as f ds) refl r

  array-both : (o : Option Items) (xs : List X) → given o (items_as f) ≡ Some xs → given o (items_as g) ≡ Some xs
  array-both None xs e = absurd (cc e)
  array-both (Some ds) xs e = items-both ds xs e

  each-both : (o : Option Data) (xs : List X) → given o (each_of f) ≡ Some xs → given o (each_of g) ≡ Some xs
  each-both None xs e = absurd (cc e)
  each-both (Some d) xs e = array-both (as_array d) xs e

abbrev no-nulls : Source → Type 0
no-nulls s = s.nulls ≡ []

none-of : (o : Option Data) (ss : List Source) → given o (each_of (source_of One)) ≡ Some ss → All no-nulls ss
none-of None ss e = absurd (cc e)
none-of (Some d) ss e = go (as_array d) e
  where
    go : (o : Option Items) → given o (items_as (source_of One)) ≡ Some ss → All no-nulls ss
    go None q = absurd (cc q)
    go (Some ds) q = items_as-all (source_of One) no-nulls (λ x s r. (old-source x s (sym r)).1) ds ss (sym q)

old-steps : (o : Option Data) (ss : List PlanStep) → given o (each_of (step_of One)) ≡ Some ss → All IsOldStep ss
old-steps None ss e = absurd (cc e)
old-steps (Some d) ss e = go (as_array d) e
  where
    go : (o : Option Items) → given o (items_as (step_of One)) ≡ Some ss → All IsOldStep ss
    go None q = absurd (cc q)
    go (Some ds) q = items_as-all (step_of One) IsOldStep (λ x s r. (old-step s x (sym r)).1) ds ss (sym q)

-- ---- plans

-- the plan of these sources and steps
abbrev plan_with : Option (List Source) → Option (List PlanStep) → Option PlanData
plan_with sources steps =
    given (with_length 1 MAX_SOURCES sources) (λ ss.
    given (with_length 0 MAX_STEPS steps) (λ ts.
    only_if (nat_le (sum_by (λ s. s.files) ss) MAX_FILES) (Some (record { sources = ss; steps = ts; notations = [] }))))

parts-are : (o : Option (List Source)) (steps : Option (List PlanStep)) (p : PlanData) → plan_with o steps ≡ Some p → (o ≡ Some p.sources) × (steps ≡ Some p.steps)
parts-are None steps p e = absurd (cc e)
parts-are (Some ss) None p e = go (nat_le 1 (length ss) && nat_le (length ss) MAX_SOURCES) e
  where
    go : (b : Bool) → given (only_if b (Some ss)) (λ rs. let none : Option PlanData = None in none) ≡ Some p → (◌≡◌ {A = Option (List Source)} (Some ss) (Some p.sources)) × (◌≡◌ {A = Option (List PlanStep)} None (Some p.steps))
    go true q = absurd (cc q)
    go false q = absurd (cc q)
parts-are (Some ss) (Some ts) p e = go (nat_le 1 (length ss) && nat_le (length ss) MAX_SOURCES) (nat_le 0 (length ts) && nat_le (length ts) MAX_STEPS) (nat_le (sum_by (λ s. s.files) ss) MAX_FILES) e
  where
    made : PlanData
    made = record { sources = ss; steps = ts; notations = [] }

    Are : Type 0
    Are = (◌≡◌ {A = Option (List Source)} (Some ss) (Some p.sources)) × (◌≡◌ {A = Option (List PlanStep)} (Some ts) (Some p.steps))

    go : (a b c : Bool) → given (only_if a (Some ss)) (λ rs. given (only_if b (Some ts)) (λ us. only_if (nat_le (sum_by (λ s. s.files) rs) MAX_FILES) (Some (let q : PlanData = record { sources = rs; steps = us; notations = [] } in q)))) ≡ Some p → Are
    go false b c q = absurd (cc q)
    go true false c q = absurd (cc q)
    go true true c q = files (nat_le (sum_by (λ s. s.files) ss) MAX_FILES) q
      where
        files : (b : Bool) → only_if b (Some made) ≡ Some p → Are
        files true r = (ap (λ (o : Option PlanData). elim o [ None ↦ None | Some q ↦ Some q.sources ]) r, ap (λ (o : Option PlanData). elim o [ None ↦ None | Some q ↦ Some q.steps ]) r)
        files false r = absurd (cc r)

-- what a value spells, by its version
by-version : (d : Data) (v : Version) → member (codes "version") version_of d ≡ Some v
    → plan_of d ≡ only_if (has_members 3 d) (plan_with (given (get (codes "sources") d) (each_of (source_of v))) (given (get (codes "steps") d) (each_of (step_of v))))
by-version d v e =
    ap (λ o. only_if (has_members 3 d) (given o (λ v. plan_with (given (get (codes "sources") d) (each_of (source_of v))) (given (get (codes "steps") d) (each_of (step_of v)))))) e

pub next-version : (former latter : Data) (p : PlanData) → IsNextVersion former latter → plan_of former ≡ Some p → (plan_of latter ≡ Some p) × All (λ s. s.nulls ≡ []) p.sources × All IsOldStep p.steps
next-version former latter p next e = go (has_members 3 former) refl (sym (by-version former One next.one) ∙ e)
  where
    given_sources : Version → Option (List Source)
    given_sources v = given (get (codes "sources") former) (each_of (source_of v))

    given_steps : Version → Option (List PlanStep)
    given_steps v = given (get (codes "steps") former) (each_of (step_of v))

    go : (b : Bool) → has_members 3 former ≡ b → only_if b (plan_with (given_sources One) (given_steps One)) ≡ Some p → (plan_of latter ≡ Some p) × All (λ s. s.nulls ≡ []) p.sources × All IsOldStep p.steps
    go false h q = absurd (cc q)
    go true h q =
        let found = parts-are (given_sources One) (given_steps One) p q in
        let sources : given_sources Two ≡ Some p.sources = each-both (source_of One) (source_of Two) (λ d s r. (old-source d s r).0) (get (codes "sources") former) p.sources found.0 in
        let steps : given_steps Two ≡ Some p.steps = each-both (step_of One) (step_of Two) (λ d s r. (old-step s d r).0) (get (codes "steps") former) p.steps found.1 in
        let there : has_members 3 latter ≡ true = next.members 3 ∙ h in (
          by-version latter Two next.two
              ∙ (λ i. only_if (there i) (plan_with (given (next.sources i) (each_of (source_of Two))) (given (next.steps i) (each_of (step_of Two)))))
              ∙ (λ i. plan_with ((sources ∙ sym found.0) i) ((steps ∙ sym found.1) i))
              ∙ q,
          none-of (get (codes "sources") former) p.sources found.0,
          old-steps (get (codes "steps") former) p.steps found.1,
        )
