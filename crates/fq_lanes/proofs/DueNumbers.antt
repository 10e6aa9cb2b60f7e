-- The numbers of what is due.
use Rattle.std.proofs.Common.{◌≡◌, ℕ, zero, suc, ◌+◌, ◌<◌, List, [], ◌∷◌, ◌++◌, length, ap, sym, subst, ◌∙◌, refl, arith, Option, Some, None, Bool, true, false, cond}
use Rattle.std.proofs.lemmas.List.{append-nil, map-append}
use Rattle.std.specs.List.{slice_get}
use mathlib.Core.List.{IsPrefix}
use Rattle.fq_lanes.specs.Numbering.{numbered_file, numbered, numbers, AllNumbered}
use Rattle.fq_lanes.specs.Due.{offer_at, ready_step, ready_from, ready, is_complete, due_from}
use Rattle.fq_lanes.proofs.NumberingLemmas.{all_numbered_append}
use Rattle.fq_lanes.proofs.DuePrefixLemmas.{prefix_cons, prefix_longer, prefix_behind}
use Rattle.fq_lanes.specs.declared.events.Event.{Event}

module _ {T : Type 0} where
  -- what holds of each accepted offer holds of each item that is due
  pub ready_holds_step : (Q : ℕ → ℕ → T → Type 0) (es : List (Event T)) (f s : ℕ) (found : Option T) (rest : List (ℕ × ℕ × T))
      → ((x : T) → found ≡ Some x → Q f s x) → AllNumbered Q rest → AllNumbered Q (ready_step found f s rest)
  ready_holds_step Q es f s None rest h k = tt
  ready_holds_step Q es f s (Some x) rest h k = (h x refl, k)

  pub ready_due_holds : (Q : ℕ → ℕ → T → Type 0) (es : List (Event T)) (f s most : ℕ)
      → ((g r : ℕ) (x : T) → offer_at es g r ≡ Some x → Q g r x) → AllNumbered Q (ready_from es f s most)
  ready_due_holds Q es f s zero h = tt
  ready_due_holds Q es f s (suc most) h =
      ready_holds_step Q es f s (offer_at es f s) (ready_from es f (suc s) most) (h f s) (ready_due_holds Q es f (suc s) most h)

  pub next_files : (Q : ℕ → ℕ → T → Type 0) (b : Bool) (rest : List (ℕ × ℕ × T)) → AllNumbered Q rest → AllNumbered Q (cond b rest [])
  next_files Q true rest h = h
  next_files Q false rest h = tt

  pub due_holds : (Q : ℕ → ℕ → T → Type 0) (es : List (Event T)) (f files : ℕ)
      → ((g r : ℕ) (x : T) → offer_at es g r ≡ Some x → Q g r x) → AllNumbered Q (due_from es f files)
  due_holds Q es f zero h = tt
  due_holds Q es f (suc files) h =
      all_numbered_append Q (ready es f) _ (ready_due_holds Q es f zero (length es) h)
      (next_files Q (is_complete es f) (due_from es (suc f) files) (due_holds Q es (suc f) files h))

module _ {T X : Type 0} where
  -- what is ready has the numbers from s on
  pub ready_numbers_step : (f s : ℕ) (found : Option T) (rest : List (ℕ × ℕ × T)) (xs : List X)
      → ((ys : List X) → length rest ≡ length ys → numbers rest ≡ numbers (numbered_file f (suc s) ys))
      → length (ready_step found f s rest) ≡ length xs → numbers (ready_step found f s rest) ≡ numbers (numbered_file f s xs)
  ready_numbers_step f s None rest [] h e = refl
  ready_numbers_step f s None rest (x ∷ xs) h e = absurd (omega arith)
  ready_numbers_step f s (Some y) rest [] h e = absurd (omega arith)
  ready_numbers_step f s (Some y) rest (x ∷ xs) h e = ap (λ ns. (f, s) ∷ ns) (h xs (omega arith))

  pub ready_numbers : (es : List (Event T)) (f s most : ℕ) (xs : List X)
      → length (ready_from es f s most) ≡ length xs → numbers (ready_from es f s most) ≡ numbers (numbered_file f s xs)
  ready_numbers es f s zero [] e = refl
  ready_numbers es f s zero (x ∷ xs) e = absurd (omega arith)
  ready_numbers es f s (suc most) xs e =
      ready_numbers_step f s (offer_at es f s) (ready_from es f (suc s) most) xs (ready_numbers es f (suc s) most) e

  -- if each file is complete and as many of its items are ready as it has, due has the items' numbers
  pub due_numbers : (es : List (Event T)) (f : ℕ) (items : List (List X))
      → ((i : ℕ) (xs : List X) → slice_get items i ≡ Some xs → (is_complete es (f + i) ≡ true) × (length (ready es (f + i)) ≡ length xs))
      → numbers (due_from es f (length items)) ≡ numbers (numbered f items)
  due_numbers es f [] h = refl
  due_numbers es f (xs ∷ items) h =
      let e : f + zero ≡ f = omega arith in
      let here : (is_complete es f ≡ true) × (length (ready es f) ≡ length xs) =
      subst (λ n. (is_complete es n ≡ true) × (length (ready es n) ≡ length xs)) e (h zero xs refl) in
      let rest : numbers (due_from es (suc f) (length items)) ≡ numbers (numbered (suc f) items) =
      due_numbers es (suc f) items (λ i ys at. let e : f + suc i ≡ suc f + i = omega arith in
      subst (λ n. (is_complete es n ≡ true) × (length (ready es n) ≡ length ys)) e (h (suc i) ys at)) in
      map-append (λ q. (q.0, q.1)) (ready es f) (cond (is_complete es f) (due_from es (suc f) (length items)) [])
      ∙ ap (λ b. numbers (ready es f) ++ numbers (cond b (due_from es (suc f) (length items)) [])) here.0
      ∙ ap (λ ns. ns ++ numbers (due_from es (suc f) (length items))) (ready_numbers es f zero (length es) xs here.1)
      ∙ ap (λ ns. numbers (numbered_file f zero xs) ++ ns) rest
      ∙ sym (map-append (λ q. (q.0, q.1)) (numbered_file f zero xs) (numbered (suc f) items))

module _ {T X : Type 0} where
  ready_begins_step : (f s : ℕ) (found : Option T) (rest : List (ℕ × ℕ × T)) (xs : List X)
      → ((y : T) → found ≡ Some y → s < s + length xs)
      → ((ys : List X) → length xs ≡ suc (length ys) → IsPrefix (numbers rest) (numbers (numbered_file f (suc s) ys)))
      → IsPrefix (numbers (ready_step found f s rest)) (numbers (numbered_file f s xs))
  ready_begins_step f s None rest xs h k = (numbers (numbered_file f s xs), refl)
  ready_begins_step f s (Some y) rest [] h k = let low : s < s + zero = h y refl in absurd (omega arith)
  ready_begins_step f s (Some y) rest (x ∷ xs) h k = prefix_cons (f, s) (numbers rest) (numbers (numbered_file f (suc s) xs)) (k xs refl)

  pub ready_begins : (es : List (Event T)) (f s most : ℕ) (xs : List X)
      → ((r : ℕ) (y : T) → offer_at es f r ≡ Some y → r < s + length xs)
      → IsPrefix (numbers (ready_from es f s most)) (numbers (numbered_file f s xs))
  ready_begins es f s zero xs h = (numbers (numbered_file f s xs), refl)
  ready_begins es f s (suc most) xs h =
      ready_begins_step f s (offer_at es f s) (ready_from es f (suc s) most) xs (h s)
      (λ ys e. ready_begins es f (suc s) most ys (λ r y at. let b = h r y at in omega (arith, b, e)))

  due_step : (es : List (Event T)) (f : ℕ) (b : Bool) (rest : List (ℕ × ℕ × T)) (xs : List X) (items : List (List X))
      → ((r : ℕ) (y : T) → offer_at es f r ≡ Some y → r < length xs)
      → (b ≡ true → length (ready es f) ≡ length xs)
      → IsPrefix (numbers rest) (numbers (numbered (suc f) items))
      → IsPrefix (numbers (ready es f ++ cond b rest [])) (numbers (numbered f (xs ∷ items)))
  due_step es f true rest xs items h k p =
      let same = ready_numbers es f zero (length es) xs (k refl) in
      subst (λ l. IsPrefix l (numbers (numbered f (xs ∷ items)))) (sym (map-append (λ q. (q.0, q.1)) (ready es f) rest ∙ ap (λ ns. ns ++ numbers rest) same))
      (subst (λ l. IsPrefix (numbers (numbered_file f zero xs) ++ numbers rest) l) (sym (map-append (λ q. (q.0, q.1)) (numbered_file f zero xs) (numbered (suc f) items)))
      (prefix_behind (numbers (numbered_file f zero xs)) (numbers rest) (numbers (numbered (suc f) items)) p))
  due_step es f false rest xs items h k p =
      let begins = ready_begins es f zero (length es) xs (λ r y at. let b = h r y at in omega (arith, b)) in
      subst (λ l. IsPrefix (numbers l) (numbers (numbered f (xs ∷ items)))) (sym (append-nil (ready es f)))
      (subst (λ l. IsPrefix (numbers (ready es f)) l) (sym (map-append (λ q. (q.0, q.1)) (numbered_file f zero xs) (numbered (suc f) items)))
      (prefix_longer (numbers (ready es f)) (numbers (numbered_file f zero xs)) (numbers (numbered (suc f) items)) begins))

  -- what is due begins the items, if each offer is of one of its file's items, and all items of a complete file are ready
  pub due_begins : (es : List (Event T)) (f : ℕ) (items : List (List X))
      → ((i : ℕ) (xs : List X) → slice_get items i ≡ Some xs → ((r : ℕ) (y : T) → offer_at es (f + i) r ≡ Some y → r < length xs) × (is_complete es (f + i) ≡ true → length (ready es (f + i)) ≡ length xs))
      → IsPrefix (numbers (due_from es f (length items))) (numbers (numbered f items))
  due_begins es f [] h = ([], refl)
  due_begins es f (xs ∷ items) h =
      let e : f + zero ≡ f = omega arith in
      let here : ((r : ℕ) (y : T) → offer_at es f r ≡ Some y → r < length xs) × (is_complete es f ≡ true → length (ready es f) ≡ length xs) =
      subst (λ n. ((r : ℕ) (y : T) → offer_at es n r ≡ Some y → r < length xs) × (is_complete es n ≡ true → length (ready es n) ≡ length xs)) e (h zero xs refl) in
      due_step es f (is_complete es f) (due_from es (suc f) (length items)) xs items here.0 here.1
      (due_begins es (suc f) items (λ i ys at. let e : f + suc i ≡ suc f + i = omega arith in
      subst (λ n. ((r : ℕ) (y : T) → offer_at es n r ≡ Some y → r < length ys) × (is_complete es n ≡ true → length (ready es n) ≡ length ys)) e (h (suc i) ys at)))
