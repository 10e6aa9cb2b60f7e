-- A step of the first version is the same step in the second, and one that the first version has.
use Rattle.std.proofs.Common.{◌≡◌, ◌∙◌, ◌⊎◌, ℤ, Bool, true, false, List, [], ◌∷◌, Option, Some, None, option_map, refl, ap, subst, inl, inr, if◌then◌else◌}
use Rattle.std.specs.Prelude.{codes}
use Rattle.serde_json.specs.Data.{Data}
use Rattle.serde_json.specs.Find.{as_bool, as_str, get}
use Rattle.fq_column.specs.Frame.{Name, same_name}
use Rattle.fq_expr.specs.Expression as expr
use Rattle.fq_ops.specs.declared.joins.How.{How}
use Rattle.fq_ops.specs.declared.joins.How.TheVariants.{Inner, Left, Semi, Anti}
use Rattle.fq_language.specs.Parts.{given, only_if, whole, name_of, word, under, each_of, member, has_members, only_member, one_member}
use Rattle.fq_language.specs.Plan.{PlanStep, row_wise, join, group_by, rolling_sum}
use Rattle.fq_language.specs.Spelling.{aggregate, expression, group_of, hows, join_of, join_with, names, outputs, roll_of, roll_with, step_of}
use Rattle.fq_language.specs.Versions.{IsOldStep}
use Rattle.fq_language.specs.declared.plans.Version.{Version}
use Rattle.fq_language.specs.declared.plans.Version.TheVariants.{One, Two}

abbrev Reader : Type 0
Reader = Data → Option PlanStep

-- the readers of steps before and after the join
abbrev filter_of : Reader
filter_of d = option_map (λ e. row_wise (expr.filter_by e)) (expression d)

abbrev with_columns_of : Reader
with_columns_of d = option_map (λ items. row_wise (expr.with_columns items)) (outputs d)

abbrev select_of : Reader
select_of d = option_map (λ items. row_wise (expr.select items)) (outputs d)

abbrev after_join : List (Name × Reader)
after_join = (codes "group_by", group_of) ∷ (codes "rolling_sum", roll_of) ∷ []

abbrev join_from : Version → List (Name × Reader)
join_from v = (codes "join", join_of v) ∷ after_join

abbrev select_from : Version → List (Name × Reader)
select_from v = (codes "select", select_of) ∷ join_from v

abbrev columns_from : Version → List (Name × Reader)
columns_from v = (codes "with_columns", with_columns_of) ∷ select_from v

-- ---- joins

-- a word of the first version is one of the second, and of an inner or a left join
how-under : (name : Name) (how : How) → under (hows One) name ≡ Some how → (under (hows Two) name ≡ Some how) × ((how ≡ Inner) ⊎ (how ≡ Left))
how-under name how e = go (same_name name (codes "inner")) (same_name name (codes "left")) (under ((codes "semi", Semi) ∷ (codes "anti", Anti) ∷ []) name) e
  where
    chosen : Bool → Bool → Option How → Option How
    chosen a b more = if a then Some Inner else (if b then Some Left else more)

    go : (a b : Bool) (more : Option How) → chosen a b None ≡ Some how → (chosen a b more ≡ Some how) × ((how ≡ Inner) ⊎ (how ≡ Left))
    go true b more q = (q, inl (let h : how ≡ Inner = cc q in h))
    go false true more q = (q, inr (let h : how ≡ Left = cc q in h))
    go false false more q = absurd (cc q)

how-spelled : (o : Option Data) (how : How) → given o (word (hows One)) ≡ Some how → (given o (word (hows Two)) ≡ Some how) × ((how ≡ Inner) ⊎ (how ≡ Left))
how-spelled None how e = absurd (cc e)
how-spelled (Some d) how e = text (as_str d) e
  where
    text : (o : Option Name) → given o (under (hows One)) ≡ Some how → (given o (under (hows Two)) ≡ Some how) × ((how ≡ Inner) ⊎ (how ≡ Left))
    text None q = absurd (cc q)
    text (Some name) q = how-under name how q

-- a join without equal nulls is the same in both versions
join-same : (d : Data) (s : PlanStep) → join_with One (Some false) d ≡ Some s → (join_with Two (Some false) d ≡ Some s) × IsOldStep s
join-same d s e = at_source (member (codes "source") whole d) e
  where
    made : ℤ → List Name → Option How → Option PlanStep
    made source on o = given o (λ how. Some (join source on how false))

    at : Option How → Option ℤ → Option PlanStep
    at how o = given o (λ source. given (member (codes "on") names d) (λ on. made source on how))

    old : Option How
    old = member (codes "how") (word (hows One)) d

    new : Option How
    new = member (codes "how") (word (hows Two)) d

    with_how : (source : ℤ) (on : List Name) (o : Option How) → old ≡ o → made source on o ≡ Some s → (made source on new ≡ Some s) × IsOldStep s
    with_how source on None f q = absurd (cc q)
    with_how source on (Some how) f q =
        let found = how-spelled (get (codes "how") d) how f in
        let same : join source on how false ≡ s = cc q in
        (ap (made source on) found.0 ∙ q, subst IsOldStep same (found.1, refl))

    at_on : (source : ℤ) (o : Option (List Name)) → given o (λ on. made source on old) ≡ Some s → (given o (λ on. made source on new) ≡ Some s) × IsOldStep s
    at_on source None q = absurd (cc q)
    at_on source (Some on) q = with_how source on old refl q

    at_source : (o : Option ℤ) → at old o ≡ Some s → (at new o ≡ Some s) × IsOldStep s
    at_source None q = absurd (cc q)
    at_source (Some source) q = at_on source (member (codes "on") names d) q

join-old : (d : Data) (s : PlanStep) → join_of One d ≡ Some s → (join_of Two d ≡ Some s) × IsOldStep s
join-old d s e = go (has_members 3 d) e
  where
    later : Option PlanStep
    later = only_if (has_members 4 d) (join_with Two (member (codes "nulls_equal") as_bool d) d)

    go : (b : Bool) → only_if b (join_with One (Some false) d) ≡ Some s → ((if b then join_with Two (Some false) d else later) ≡ Some s) × IsOldStep s
    go true q = join-same d s q
    go false q = absurd (cc q)

-- ---- the other steps

module _ (s : PlanStep) where
  made-old : {X : Type 0} (g : X → PlanStep) → ((x : X) → IsOldStep (g x)) → (o : Option X) → option_map g o ≡ Some s → IsOldStep s
  made-old g h None e = absurd (cc e)
  made-old g h (Some x) e = let same : g x ≡ s = cc e in subst IsOldStep same (h x)

  through : {X : Type 0} (o : Option X) (f : X → Option PlanStep) → ((x : X) → f x ≡ Some s → IsOldStep s) → given o f ≡ Some s → IsOldStep s
  through None f h e = absurd (cc e)
  through (Some x) f h e = h x e

  where_true : (b : Bool) (o : Option PlanStep) → (o ≡ Some s → IsOldStep s) → only_if b o ≡ Some s → IsOldStep s
  where_true true o h e = h e
  where_true false o h e = absurd (cc e)

  either : (b : Bool) (o p : Option PlanStep) → (o ≡ Some s → IsOldStep s) → (p ≡ Some s → IsOldStep s) → (if b then o else p) ≡ Some s → IsOldStep s
  either true o p h k e = h e
  either false o p h k e = k e

  group-old : (d : Data) → group_of d ≡ Some s → IsOldStep s
  group-old d = where_true (has_members 2 d) _
      (through (member (codes "keys") names d) _ (λ keys.
      through (member (codes "aggs") (each_of aggregate) d) (λ aggs. Some (group_by keys aggs)) (λ aggs e. let same : group_by keys aggs ≡ s = cc e in subst IsOldStep same tt)))

  roll-with_old : (samples : Name) (d : Data) → roll_with samples d ≡ Some s → IsOldStep s
  roll-with_old samples d =
      through (member (codes "column") name_of d) _ (λ column.
      through (member (codes "window") whole d) _ (λ window.
      through (member samples whole d) _ (λ m.
      through (member (codes "name") name_of d) (λ name. Some (rolling_sum column window m name)) (λ name e. let same : rolling_sum column window m name ≡ s = cc e in subst IsOldStep same tt))))

  roll-old : (d : Data) → roll_of d ≡ Some s → IsOldStep s
  roll-old d = either (has_members 3 d) _ _ (roll-with_old (codes "window") d) (where_true (has_members 4 d) _ (roll-with_old (codes "min_samples") d))

  -- a step that is not read by the reader of this name
  module _ (d : Data) where
    past : (name : Name) (f : Reader) (old new : List (Name × Reader)) → ((inner : Data) → f inner ≡ Some s → IsOldStep s) →
        (one_member old d ≡ Some s → (one_member new d ≡ Some s) × IsOldStep s) →
        one_member ((name, f) ∷ old) d ≡ Some s → (one_member ((name, f) ∷ new) d ≡ Some s) × IsOldStep s
    past name f old new here more e = go (only_member name d) e
      where
        go : (o : Option Data) → (elim o as (λ _. Option PlanStep) [ None ↦ one_member old d | Some inner ↦ f inner ]) ≡ Some s →
            ((elim o as (λ _. Option PlanStep) [ None ↦ one_member new d | Some inner ↦ f inner ]) ≡ Some s) × IsOldStep s
        go None q = more q
        go (Some inner) q = (q, here inner q)

    after-old : one_member after_join d ≡ Some s → (one_member after_join d ≡ Some s) × IsOldStep s
    after-old = past (codes "group_by") group_of ((codes "rolling_sum", roll_of) ∷ []) ((codes "rolling_sum", roll_of) ∷ []) group-old (past (codes "rolling_sum") roll_of [] [] roll-old (λ e. absurd (cc e)))

    from-join : one_member (join_from One) d ≡ Some s → (one_member (join_from Two) d ≡ Some s) × IsOldStep s
    from-join e = go (only_member (codes "join") d) e
      where
        go : (o : Option Data) → (elim o as (λ _. Option PlanStep) [ None ↦ one_member after_join d | Some inner ↦ join_of One inner ]) ≡ Some s →
            ((elim o as (λ _. Option PlanStep) [ None ↦ one_member after_join d | Some inner ↦ join_of Two inner ]) ≡ Some s) × IsOldStep s
        go None q = after-old q
        go (Some inner) q = join-old inner s q

    pub old-step : step_of One d ≡ Some s → (step_of Two d ≡ Some s) × IsOldStep s
    old-step =
        past (codes "filter") filter_of (columns_from One) (columns_from Two) (λ inner. made-old (λ e. row_wise (expr.filter_by e)) (λ e. tt) (expression inner))
        (past (codes "with_columns") with_columns_of (select_from One) (select_from Two) (λ inner. made-old (λ (items : List expr.Item). row_wise (expr.with_columns items)) (λ items. tt) (outputs inner))
        (past (codes "select") select_of (join_from One) (join_from Two) (λ inner. made-old (λ (items : List expr.Item). row_wise (expr.select items)) (λ items. tt) (outputs inner)) from-join))
