-- What the hub knows of the feeds.
use Rattle.std.proofs.Common.{◌≡◌, ◌≤◌, ℕ, zero, suc, ◌+◌, List, [], ◌∷◌, ◌++◌, map, length, set, refl, sym, subst, ap, ◌∙◌, arith, Some, true, cond, inl, inr}
use Rattle.std.proofs.lemmas.List.{append-nil}
use Rattle.std.proofs.lemmas.Bool.{true≢false}
use Rattle.std.specs.List.{slice_get}
use Rattle.std.specs.Prelude.{All}
use mathlib.Core.List.{IsPrefix}
use Rattle.fq_lanes.specs.Beside.{Each}
use Rattle.fq_lanes.specs.Numbering.{item_at}
use Rattle.fq_lanes.specs.Inlet.{GaveOne, Gave, DrainsOne, left_in, opened}
use Rattle.fq_lanes.proofs.BesideLemmas.{get_prefix}
use Rattle.fq_lanes.proofs.LedgerLemmas.{bool_cases}
use Rattle.fq_lanes.specs.declared.inlet.Inlet.{Inlet}

module _ {F X : Type 0} where
  pub gave_get : (gives : F → List X → Type 0) (is_open may_fail : F → Type 0) (most : F → ℕ) (fs : List F) (items : List (List X)) (ns : List (Inlet F)) (i : ℕ) (n : Inlet F)
      → Gave gives is_open may_fail most fs items ns → slice_get ns i ≡ Some n
      → (f : F) × (xs : List X) × (slice_get fs i ≡ Some f) × (slice_get items i ≡ Some xs) × GaveOne gives is_open may_fail most f xs n
  gave_get gives is_open may_fail most [] [] [] i n h e = let bad : ⊥ = cc in absurd bad
  gave_get gives is_open may_fail most [] [] (m ∷ ns) i n h e = absurd h
  gave_get gives is_open may_fail most [] (xs ∷ items) ns i n h e = absurd h
  gave_get gives is_open may_fail most (f ∷ fs) [] ns i n h e = absurd h
  gave_get gives is_open may_fail most (f ∷ fs) (xs ∷ items) [] i n h e = absurd h
  gave_get gives is_open may_fail most (f ∷ fs) (xs ∷ items) (m ∷ ns) zero n h e =
      let same : m ≡ n = cc in (f, xs, refl, refl, subst (λ z. GaveOne gives is_open may_fail most f xs z) same h.0)
  gave_get gives is_open may_fail most (f ∷ fs) (xs ∷ items) (m ∷ ns) (suc i) n h e = gave_get gives is_open may_fail most fs items ns i n h.1 e

  -- one feed gave something, or ended
  pub gave_set : (gives : F → List X → Type 0) (is_open may_fail : F → Type 0) (most : F → ℕ) (fs : List F) (items : List (List X)) (ns : List (Inlet F)) (i : ℕ) (f : F) (xs : List X) (n : Inlet F)
      → Gave gives is_open may_fail most fs items ns → slice_get fs i ≡ Some f → GaveOne gives is_open may_fail most f xs n
      → Gave gives is_open may_fail most fs (set items i xs) (set ns i n)
  gave_set gives is_open may_fail most [] [] [] i f xs n h e k = let bad : ⊥ = cc in absurd bad
  gave_set gives is_open may_fail most [] [] (m ∷ ns) i f xs n h e k = absurd h
  gave_set gives is_open may_fail most [] (ys ∷ items) ns i f xs n h e k = absurd h
  gave_set gives is_open may_fail most (g ∷ fs) [] ns i f xs n h e k = absurd h
  gave_set gives is_open may_fail most (g ∷ fs) (ys ∷ items) [] i f xs n h e k = absurd h
  gave_set gives is_open may_fail most (g ∷ fs) (ys ∷ items) (m ∷ ns) zero f xs n h e k =
      let same : g ≡ f = cc in (subst (λ z. GaveOne gives is_open may_fail most z xs n) (sym same) k, h.1)
  gave_set gives is_open may_fail most (g ∷ fs) (ys ∷ items) (m ∷ ns) (suc i) f xs n h e k = (h.0, gave_set gives is_open may_fail most fs items ns i f xs n h.1 e k)

  pub gave_sizes : (gives : F → List X → Type 0) (is_open may_fail : F → Type 0) (most : F → ℕ) (fs : List F) (items : List (List X)) (ns : List (Inlet F))
      → Gave gives is_open may_fail most fs items ns → (length items ≡ length fs) × (length ns ≡ length fs)
  gave_sizes gives is_open may_fail most [] [] [] h = (refl, refl)
  gave_sizes gives is_open may_fail most [] [] (m ∷ ns) h = absurd h
  gave_sizes gives is_open may_fail most [] (xs ∷ items) ns h = absurd h
  gave_sizes gives is_open may_fail most (f ∷ fs) [] ns h = absurd h
  gave_sizes gives is_open may_fail most (f ∷ fs) (xs ∷ items) [] h = absurd h
  gave_sizes gives is_open may_fail most (f ∷ fs) (xs ∷ items) (m ∷ ns) h =
      let rest = gave_sizes gives is_open may_fail most fs items ns h.1 in (omega (arith, rest.0), omega (arith, rest.1))

  -- if each feed has ended, the items are all that the feeds gave
  pub gave_all : (gives : F → List X → Type 0) (is_open may_fail : F → Type 0) (most : F → ℕ) (fs : List F) (items : List (List X)) (ns : List (Inlet F))
      → Gave gives is_open may_fail most fs items ns → ((i : ℕ) (n : Inlet F) → slice_get ns i ≡ Some n → n.ended ≡ true) → Each gives fs items
  gave_all gives is_open may_fail most [] [] [] h e = tt
  gave_all gives is_open may_fail most [] [] (m ∷ ns) h e = absurd h
  gave_all gives is_open may_fail most [] (xs ∷ items) ns h e = absurd h
  gave_all gives is_open may_fail most (f ∷ fs) [] ns h e = absurd h
  gave_all gives is_open may_fail most (f ∷ fs) (xs ∷ items) [] h e = absurd h
  gave_all gives is_open may_fail most (f ∷ fs) (xs ∷ items) (m ∷ ns) h e =
      (h.0.whole (e zero m refl), gave_all gives is_open may_fail most fs items ns h.1 (λ i n at. e (suc i) n at))

  -- these lists go on from what was given, and those of ended feeds are the same
  abbrev pub GoesOn : List (List X) → List (List X) → List (Inlet F) → Type 0
  GoesOn [] [] [] = Unit {0}
  GoesOn [] [] (n ∷ ns) = ⊥
  GoesOn [] (ys ∷ all) ns = ⊥
  GoesOn (xs ∷ items) [] ns = ⊥
  GoesOn (xs ∷ items) (ys ∷ all) [] = ⊥
  GoesOn (xs ∷ items) (ys ∷ all) (n ∷ ns) = IsPrefix xs ys × (n.ended ≡ true → ys ≡ xs) × GoesOn items all ns

  -- what the feeds gave goes on to something
  pub gave_rest : (gives : F → List X → Type 0) (is_open may_fail : F → Type 0) (most : F → ℕ) (fs : List F) (items : List (List X)) (ns : List (Inlet F))
      → ((f : F) → (xs : List X) × gives f xs) → Gave gives is_open may_fail most fs items ns
      → (all : List (List X)) × Each gives fs all × GoesOn items all ns
  gave_rest gives is_open may_fail most [] [] [] some h = ([], tt, tt)
  gave_rest gives is_open may_fail most [] [] (m ∷ ns) some h = absurd h
  gave_rest gives is_open may_fail most [] (xs ∷ items) ns some h = absurd h
  gave_rest gives is_open may_fail most (f ∷ fs) [] ns some h = absurd h
  gave_rest gives is_open may_fail most (f ∷ fs) (xs ∷ items) [] some h = absurd h
  gave_rest gives is_open may_fail most (f ∷ fs) (xs ∷ items) (m ∷ ns) some h =
      let rest = gave_rest gives is_open may_fail most fs items ns some h.1 in
      elim (bool_cases m.ended) [
        | inl ended ↦ (xs ∷ rest.0, (h.0.whole ended, rest.1), (([], append-nil xs), (λ _. refl), rest.2))
        | inr going ↦
            let ys = some m.feed in
            ((xs ++ ys.0) ∷ rest.0, (h.0.leads going ys.0 ys.1, rest.1), ((ys.0, refl), (λ e. absurd (true≢false (sym e ∙ going))), rest.2))
      ]

  pub goes_on_item : (items all : List (List X)) (ns : List (Inlet F)) (f s : ℕ) (x : X) → GoesOn items all ns → item_at items f s ≡ Some x → item_at all f s ≡ Some x
  goes_on_item [] all ns f s x h e = let bad : ⊥ = cc in absurd bad
  goes_on_item (xs ∷ items) [] ns f s x h e = absurd h
  goes_on_item (xs ∷ items) (ys ∷ all) [] f s x h e = absurd h
  goes_on_item (xs ∷ items) (ys ∷ all) (n ∷ ns) zero s x h e = get_prefix xs ys s x h.0 e
  goes_on_item (xs ∷ items) (ys ∷ all) (n ∷ ns) (suc f) s x h e = goes_on_item items all ns f s x h.2 e

  -- the list of an ended feed
  pub goes_on_ended : (items all : List (List X)) (ns : List (Inlet F)) (i : ℕ) (ys : List X) → GoesOn items all ns → slice_get all i ≡ Some ys
      → (n : Inlet F) × (xs : List X) × (slice_get ns i ≡ Some n) × (slice_get items i ≡ Some xs) × IsPrefix xs ys × (n.ended ≡ true → ys ≡ xs)
  goes_on_ended items [] ns i ys h e = let bad : ⊥ = cc in absurd bad
  goes_on_ended [] (zs ∷ all) ns i ys h e = absurd h
  goes_on_ended (xs ∷ items) (zs ∷ all) [] i ys h e = absurd h
  goes_on_ended (xs ∷ items) (zs ∷ all) (n ∷ ns) zero ys h e =
      let same : zs ≡ ys = cc in (n, xs, refl, refl, subst (λ l. IsPrefix xs l) same h.0, λ ended. sym same ∙ h.1 ended)
  goes_on_ended (xs ∷ items) (zs ∷ all) (n ∷ ns) (suc i) ys h e = goes_on_ended items all ns i ys h.2 e

  -- so the feeds may be drained
  pub gave_drains : (gives : F → List X → Type 0) (is_open may_fail : F → Type 0) (most : F → ℕ) (fs : List F) (items : List (List X)) (ns : List (Inlet F))
      → Gave gives is_open may_fail most fs items ns → Each (DrainsOne is_open may_fail) fs ns
  gave_drains gives is_open may_fail most [] [] [] h = tt
  gave_drains gives is_open may_fail most [] [] (m ∷ ns) h = absurd h
  gave_drains gives is_open may_fail most [] (xs ∷ items) ns h = absurd h
  gave_drains gives is_open may_fail most (f ∷ fs) [] ns h = absurd h
  gave_drains gives is_open may_fail most (f ∷ fs) (xs ∷ items) [] h = absurd h
  gave_drains gives is_open may_fail most (f ∷ fs) (xs ∷ items) (m ∷ ns) h =
      ((λ going. (h.0.opens going, h.0.fails going)), gave_drains gives is_open may_fail most fs items ns h.1)

  -- the feeds as they are handed in
  pub gave_none : (gives : F → List X → Type 0) (is_open may_fail : F → Type 0) (most : F → ℕ) (fs : List F)
      → ((f : F) → is_open f → most f ≤ 2147483648) → All is_open fs → Gave gives is_open may_fail most fs (map (λ _. []) fs) (map opened fs)
  gave_none gives is_open may_fail most [] few h = tt
  gave_none gives is_open may_fail most (f ∷ fs) few h = (
    record {
      count = refl;
      opens = λ _. h zero f (omega arith);
      room = λ _. let room = few f (h zero f (omega arith)) in omega (arith, room);
      leads = λ _ ys g. g;
      fails = λ _ m. m;
      whole = λ e. let bad : ⊥ = cc in absurd bad;
    },
    gave_none gives is_open may_fail most fs few (λ k d lt. h (suc k) d (omega arith)),
  )

  pub some_lists : (gives : F → List X → Type 0) (fs : List F) → ((f : F) → (xs : List X) × gives f xs) → (all : List (List X)) × Each gives fs all
  some_lists gives [] some = ([], tt)
  some_lists gives (f ∷ fs) some = let rest = some_lists gives fs some in let xs = some f in (xs.0 ∷ rest.0, (xs.1, rest.1))

module _ {F : Type 0} where
  -- one feed has ended
  pub drains_set : (is_open may_fail : F → Type 0) (fs : List F) (ns : List (Inlet F)) (i : ℕ) (n : Inlet F)
      → Each (DrainsOne is_open may_fail) fs ns → n.ended ≡ true → Each (DrainsOne is_open may_fail) fs (set ns i n)
  drains_set is_open may_fail [] [] i n h e = tt
  drains_set is_open may_fail [] (m ∷ ns) i n h e = absurd h
  drains_set is_open may_fail (f ∷ fs) [] i n h e = absurd h
  drains_set is_open may_fail (f ∷ fs) (m ∷ ns) zero n h e = ((λ going. absurd (true≢false (sym e ∙ going))), h.1)
  drains_set is_open may_fail (f ∷ fs) (m ∷ ns) (suc i) n h e = (h.0, drains_set is_open may_fail fs ns i n h.1 e)

  pub drains_get : (is_open may_fail : F → Type 0) (fs : List F) (ns : List (Inlet F)) (i : ℕ) (n : Inlet F)
      → Each (DrainsOne is_open may_fail) fs ns → slice_get ns i ≡ Some n → (f : F) × (slice_get fs i ≡ Some f) × DrainsOne is_open may_fail f n
  drains_get is_open may_fail [] [] i n h e = let bad : ⊥ = cc in absurd bad
  drains_get is_open may_fail [] (m ∷ ns) i n h e = absurd h
  drains_get is_open may_fail (f ∷ fs) [] i n h e = absurd h
  drains_get is_open may_fail (f ∷ fs) (m ∷ ns) zero n h e = let same : m ≡ n = cc in (f, refl, subst (λ z. DrainsOne is_open may_fail f z) same h.0)
  drains_get is_open may_fail (f ∷ fs) (m ∷ ns) (suc i) n h e = drains_get is_open may_fail fs ns i n h.1 e

  pub left_set : (most : F → ℕ) (ns : List (Inlet F)) (i : ℕ) (n n' : Inlet F) → slice_get ns i ≡ Some n
      → left_in most (set ns i n') + cond n.ended 0 (most n.feed) ≡ left_in most ns + cond n'.ended 0 (most n'.feed)
  left_set most [] i n n' e = let bad : ⊥ = cc in absurd bad
  left_set most (m ∷ ns) zero n n' e =
      let same : m ≡ n = cc in let t : cond m.ended 0 (most m.feed) ≡ cond n.ended 0 (most n.feed) = ap (λ z. cond {A = ℕ} z.ended 0 (most z.feed)) same in omega (arith, t)
  left_set most (m ∷ ns) (suc i) n n' e = let rest = left_set most ns i n n' e in omega (arith, rest)
