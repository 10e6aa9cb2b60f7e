-- The engine's books stay balanced, so no event is refused, and in the end everything is due.
use Rattle.std.proofs.Common.{◌≡◌, ◌==◌, ◌&&◌, ◌≤◌, ◌<◌, ℕ, zero, suc, ◌+◌, List, [], ◌∷◌, ◌++◌, length, set, refl, sym, subst, ap, ◌∙◌, arith, Option, Some, None, Bool, true, false, cond, nat_le, ◌||◌, inl, inr, ◌⊎◌}
use Rattle.std.specs.List.{slice_get}
use Rattle.std.specs.Option.{is_some}
use Rattle.std.proofs.lemmas.Bool.{eqb-true, eq-eqb, ne_eqb, cases_lt, leb-true, true≢false}
use Rattle.fq_lanes.specs.Due.{due, offer_at, close_at, ready, is_closed_at, is_complete}
use Rattle.fq_lanes.specs.Refusals.{refusal, offers_from}
use Rattle.fq_lanes.specs.Numbering.{item_at, numbered, numbers}
use Rattle.fq_lanes.specs.Ledger.{one_if, times, offered, given, none_waits, Books, OffersWorked}
use Rattle.fq_lanes.proofs.EventLemmas.{or_else, or_else_none, close_at_append}
use Rattle.fq_lanes.proofs.BesideLemmas.{get_in, get_within, get_last, get_set_other}
use Rattle.fq_lanes.proofs.NumberingLemmas.{item_file, file_item, item_set_other, item_set_same}
use Rattle.fq_lanes.proofs.SinkRefusalLemmas.{accepts_free}
use Rattle.fq_lanes.proofs.SinkLemmas.{refusal_within}
use Rattle.fq_lanes.proofs.DueNumbers.{due_numbers}
use Rattle.fq_lanes.proofs.CountingLemmas.{enough, full_ready}
use Rattle.fq_lanes.specs.declared.events.Event.{Event}
use Rattle.fq_lanes.specs.declared.events.Event.TheVariants.{Offer, Close}
use Rattle.fq_lanes.specs.declared.events.Why.{Why}
use Rattle.fq_lanes.specs.declared.events.Why.TheVariants.{Closed, Short}

pub bool_cases : (b : Bool) → (b ≡ true) ⊎ (b ≡ false)
bool_cases true = inl refl
bool_cases false = inr refl

pub one_self : (f s : ℕ) → one_if f s f s ≡ 1
one_self f s = ap (λ b. cond (b && (s == s)) 1 0) (eq-eqb f f refl) ∙ ap (λ b. cond (true && b) 1 0) (eq-eqb s s refl)

pub times_append : (f s : ℕ) (xs ys : List (ℕ × ℕ)) → times f s (xs ++ ys) ≡ times f s xs + times f s ys
times_append f s [] ys = omega arith
times_append f s (p ∷ xs) ys = omega (arith, times_append f s xs ys)

suc_eqb_go : (m n : ℕ) (b : Bool) → (b ≡ true → m ≡ n) → (b ≡ false → m ≡ n → ⊥) → (suc m == suc n) ≡ b
suc_eqb_go m n true h k = eq-eqb (suc m) (suc n) (ap suc (h refl))
suc_eqb_go m n false h k = ne_eqb (suc m) (suc n) (λ e. k refl (omega (arith, e)))

suc_eqb : (m n : ℕ) → (suc m == suc n) ≡ (m == n)
suc_eqb m n = suc_eqb_go m n (m == n) (eqb-true m n) (λ no e. true≢false (sym (eq-eqb m n e) ∙ no))

some_one : {A : Type 0} (o : Option A) → 1 ≤ cond (is_some o) 1 0 → (x : A) × (o ≡ Some x)
some_one None le = absurd (omega arith)
some_one (Some x) le = (x, refl)

one_most : {A : Type 0} (o : Option A) → cond (is_some o) 1 0 ≤ 1
one_most None = omega arith
one_most (Some x) = omega arith

module _ {A : Type 0} where
  pub get_past : (xs : List A) (s : ℕ) → length xs ≤ s → slice_get xs s ≡ None
  get_past [] s le = refl
  get_past (x ∷ xs) zero le = absurd (omega arith)
  get_past (x ∷ xs) (suc s) le = get_past xs s (omega arith)

  push_count : (xs : List A) (x : A) (s : ℕ) → cond (is_some (slice_get (xs ++ x ∷ []) s)) 1 0 ≡ cond (is_some (slice_get xs s)) 1 0 + cond (length xs == s) 1 0
  push_count [] x zero = refl
  push_count [] x (suc s) =
      let other : (length {A = A} [] == suc s) ≡ false = ne_eqb 0 (suc s) (λ e. omega (arith, e)) in
      let none : cond (length {A = A} [] == suc s) 1 0 ≡ 0 = ap (λ b. cond {A = ℕ} b 1 0) other in
      omega (arith, none)
  push_count (y ∷ xs) x zero =
      let other : (length (y ∷ xs) == 0) ≡ false = ne_eqb (length (y ∷ xs)) 0 (λ e. omega (arith, e)) in
      let none : cond (length (y ∷ xs) == 0) 1 0 ≡ 0 = ap (λ b. cond {A = ℕ} b 1 0) other in
      omega (arith, none)
  push_count (y ∷ xs) x (suc s) =
      let rest = push_count xs x s in
      let same : cond (length (y ∷ xs) == suc s) 1 0 ≡ cond (length xs == s) 1 0 = ap (λ b. cond {A = ℕ} b 1 0) (suc_eqb (length xs) s) in
      omega (arith, rest, same)

module _ {X : Type 0} where
  -- one more item of a file
  given_push : (items : List (List X)) (f : ℕ) (xs : List X) (x : X) (g s : ℕ) → slice_get items f ≡ Some xs
      → given (set items f (xs ++ x ∷ [])) g s ≡ given items g s + one_if g s f (length xs)
  given_push items f xs x g s at =
      elim (bool_cases (f == g)) [
        | inl same ↦
            let here : f ≡ g = eqb-true f g same in
            let new : given (set items f (xs ++ x ∷ [])) g s ≡ cond (is_some (slice_get (xs ++ x ∷ []) s)) 1 0 =
            ap (λ o. cond {A = ℕ} (is_some o) 1 0) (ap (λ n. item_at (set items f (xs ++ x ∷ [])) n s) (sym here) ∙ item_set_same items f s (xs ++ x ∷ []) (get_within items f xs at)) in
            let old : given items g s ≡ cond (is_some (slice_get xs s)) 1 0 =
            ap (λ o. cond {A = ℕ} (is_some o) 1 0) (ap (λ n. item_at items n s) (sym here) ∙ file_item items f s xs at) in
            let one : one_if g s f (length xs) ≡ cond (length xs == s) 1 0 = ap (λ b. cond {A = ℕ} (b && (length xs == s)) 1 0) same in
            let push = push_count xs x s in
            omega (arith, new, old, one, push)
        | inr other ↦
            let ne : g ≡ f → ⊥ = λ e. true≢false (sym (eq-eqb f g (sym e)) ∙ other) in
            let new : given (set items f (xs ++ x ∷ [])) g s ≡ given items g s = ap (λ o. cond {A = ℕ} (is_some o) 1 0) (item_set_other items f g s (xs ++ x ∷ []) ne) in
            let one : one_if g s f (length xs) ≡ 0 = ap (λ b. cond {A = ℕ} (b && (length xs == s)) 1 0) other in
            omega (arith, new, one)
      ]

  pub item_push : (items : List (List X)) (f : ℕ) (xs : List X) (x : X) → slice_get items f ≡ Some xs → item_at (set items f (xs ++ x ∷ [])) f (length xs) ≡ Some x
  item_push items f xs x at = item_set_same items f (length xs) (xs ++ x ∷ []) (get_within items f xs at) ∙ get_last xs x

both_off : (a b : Bool) → (a ≡ true → b ≡ true → ⊥) → (a && b) ≡ false
both_off true true h = absurd (h refl refl)
both_off true false h = refl
both_off false b h = refl

close_step : (closed : Option ℕ) (from : Bool) → closed ≡ None → from ≡ false → ◌≡◌ {A = Option Why} (cond (is_some closed) (Some Closed) (cond from (Some Short) None)) None
close_step None false e h = refl
close_step None true e h = let bad : ⊥ = cc in absurd bad
close_step (Some n) from e h = let bad : ⊥ = cc in absurd bad

close_found : (c : Option ℕ) (b : Bool) (n m : ℕ) (P : Type 0) → or_else c (cond b (Some n) None) ≡ Some m → (c ≡ Some m → P) → (b ≡ true → n ≡ m → P) → P
close_found None true n m P e h k = k refl (cc)
close_found None false n m P e h k = let bad : ⊥ = cc in absurd bad
close_found (Some q) b n m P e h k = h e

module _ {O : Type 0} where
  pub offered_append : (f s : ℕ) (es : List (Event O)) (a b : ℕ) (o : O) → offered f s (es ++ Offer a b o ∷ []) ≡ offered f s es + one_if f s a b
  offered_append f s [] a b o = omega arith
  offered_append f s (Offer c d x ∷ es) a b o = omega (arith, offered_append f s es a b o)
  offered_append f s (Close c n ∷ es) a b o = offered_append f s es a b o

  pub offered_close : (f s : ℕ) (es : List (Event O)) (a n : ℕ) → offered f s (es ++ Close a n ∷ []) ≡ offered f s es
  offered_close f s [] a n = refl
  offered_close f s (Offer c d x ∷ es) a n = omega (arith, offered_close f s es a n)
  offered_close f s (Close c m ∷ es) a n = offered_close f s es a n

  none_step : (a b : Bool) (x : O) (n : ℕ) (rest : Option O) → cond (a && b) 1 0 + n ≡ 0 → (n ≡ 0 → rest ≡ None) → cond (a && b) (Some x) rest ≡ None
  none_step true true x n rest e h = absurd (omega arith)
  none_step true false x n rest e h = h (omega arith)
  none_step false true x n rest e h = h (omega arith)
  none_step false false x n rest e h = h (omega arith)

  -- what was never offered is not found
  pub never_offered : (f s : ℕ) (es : List (Event O)) → offered f s es ≡ 0 → offer_at es f s ≡ None
  never_offered f s [] e = refl
  never_offered f s (Offer a b x ∷ es) e = none_step (a == f) (b == s) x (offered f s es) (offer_at es f s) e (never_offered f s es)
  never_offered f s (Close a n ∷ es) e = never_offered f s es e

  some_step : (a b : Bool) (x : O) (n : ℕ) (rest : Option O) → 1 ≤ cond (a && b) 1 0 + n → (1 ≤ n → (y : O) × (rest ≡ Some y)) → (y : O) × (cond (a && b) (Some x) rest ≡ Some y)
  some_step true true x n rest e h = (x, refl)
  some_step true false x n rest e h = h (omega arith)
  some_step false true x n rest e h = h (omega arith)
  some_step false false x n rest e h = h (omega arith)

  -- what was offered is found
  pub once_offered : (f s : ℕ) (es : List (Event O)) → 1 ≤ offered f s es → (y : O) × (offer_at es f s ≡ Some y)
  once_offered f s [] e = absurd (omega arith)
  once_offered f s (Offer a b x ∷ es) e = some_step (a == f) (b == s) x (offered f s es) (offer_at es f s) e (once_offered f s es)
  once_offered f s (Close a n ∷ es) e = once_offered f s es e

  found_by : (a b : Bool) (x : O) (rest : Option O) (y : O) → cond (a && b) (Some x) rest ≡ Some y → ((a ≡ true) × (b ≡ true) × (x ≡ y)) ⊎ (rest ≡ Some y)
  found_by true true x rest y e = let same : x ≡ y = cc in inl (refl, refl, same)
  found_by true false x rest y e = inr e
  found_by false true x rest y e = inr e
  found_by false false x rest y e = inr e

  found_first : (a b : Bool) (x : O) (rest rest' : Option O) (y : O) (P : Type 0)
      → cond (a && b) (Some x) rest' ≡ Some y → (rest' ≡ Some y → (rest ≡ Some y) ⊎ P) → (cond (a && b) (Some x) rest ≡ Some y) ⊎ P
  found_first true true x rest rest' y P e h = inl e
  found_first true false x rest rest' y P e h = h e
  found_first false true x rest rest' y P e h = h e
  found_first false false x rest rest' y P e h = h e

  -- what is found in the longer list was there before, or is the new offer
  pub offer_found : (es : List (Event O)) (f s : ℕ) (o : O) (g r : ℕ) (y : O)
      → offer_at (es ++ Offer f s o ∷ []) g r ≡ Some y → (offer_at es g r ≡ Some y) ⊎ ((f ≡ g) × (s ≡ r) × (o ≡ y))
  offer_found [] f s o g r y e =
      elim (found_by (f == g) (s == r) o None y e) [ inl h ↦ inr (eqb-true f g h.0, eqb-true s r h.1, h.2) | inr h ↦ let bad : ⊥ = cc in absurd bad ]
  offer_found (Offer a b x ∷ es) f s o g r y e =
      found_first (a == g) (b == r) x (offer_at es g r) (offer_at (es ++ Offer f s o ∷ []) g r) y ((f ≡ g) × (s ≡ r) × (o ≡ y)) e (offer_found es f s o g r y)
  offer_found (Close a n ∷ es) f s o g r y e = offer_found es f s o g r y e

  -- if no item from serial n on was offered, a close at n is not short
  no_offers_from : (f n : ℕ) (es : List (Event O)) → ((s : ℕ) → n ≤ s → offered f s es ≡ 0) → offers_from es f n ≡ false
  no_offers_from f n [] h = refl
  no_offers_from f n (Offer g r x ∷ es) h =
      let here : ((g == f) && nat_le n r) ≡ false = both_off (g == f) (nat_le n r) (λ p q.
      let e = h r (leb-true n r q) in
      let one : one_if f r g r ≡ 1 = ap (λ b. cond {A = ℕ} (b && (r == r)) 1 0) p ∙ ap (λ b. cond {A = ℕ} (true && b) 1 0) (eq-eqb r r refl) in
      omega (arith, e, one)) in
      ap (λ b. b || offers_from es f n) here ∙ no_offers_from f n es (λ s le. let e = h s le in omega (arith, e))
  no_offers_from f n (Close g m ∷ es) h = no_offers_from f n es h

module _ {X O : Type 0} where
  -- what was offered is an item
  pub offer_item : (items : List (List X)) (waiting : ℕ → ℕ → ℕ) (events : List (Event O)) (f s : ℕ) (o : O)
      → Books items waiting events → offer_at events f s ≡ Some o → (x : X) × (item_at items f s ≡ Some x)
  offer_item items waiting events f s o b e =
      some_one (item_at items f s) (elim (cases_lt 0 (offered f s events)) [
        | inl lt ↦ let all = b.balanced f s in omega (arith, all, lt)
        | inr le ↦ let none = never_offered f s events (omega arith) in let bad : ⊥ = cc in absurd bad
      ])

  -- the work on an item that waits is accepted
  pub books_offer : (items : List (List X)) (waiting waiting' : ℕ → ℕ → ℕ) (events : List (Event O)) (f s : ℕ) (o : O)
      → Books items waiting events → 1 ≤ waiting f s → ((g r : ℕ) → waiting' g r + one_if g r f s ≡ waiting g r)
      → (refusal (length items) events (Offer f s o) ≡ None) × Books items waiting' (events ++ Offer f s o ∷ [])
  books_offer items waiting waiting' events f s o b le less =
      let all = b.balanced f s in
      let most = one_most (item_at items f s) in
      let found = some_one (item_at items f s) (omega (arith, all, le)) in
      let file = item_file items f s found.0 found.1 in
      let within = get_within items f file.0 file.1 in
      let below = get_within file.0 s found.0 file.2 in
      let fresh = never_offered f s events (omega (arith, all, le, most)) in (
        accepts_free (length items) events f s o within
            (λ closed. let c = b.closes f closed.0 closed.1 in
            let same : c.0 ≡ file.0 = let p = c.1 in let q = file.1 in cc in
            let size : length c.0 ≡ length file.0 = ap length same in
            omega (arith, below, c.2, size, closed.2))
            (λ double. let bad : ⊥ = let p = double.1 in cc in bad),
        record {
          balanced = λ g r. let was = b.balanced g r in let more = offered_append g r events f s o in let moved = less g r in omega (arith, was, more, moved);
          closes = λ g n e. b.closes g n (sym (close_at_append events (Offer f s o ∷ []) g ∙ or_else_none (close_at events g)) ∙ e);
        },
      )

  -- a close at a file's number of items is accepted
  pub books_close : (items : List (List X)) (waiting : ℕ → ℕ → ℕ) (events : List (Event O)) (f : ℕ) (xs : List X)
      → Books items waiting events → close_at events f ≡ None → slice_get items f ≡ Some xs
      → (refusal (length items) events (Close f (length xs)) ≡ None) × Books items waiting (events ++ Close f (length xs) ∷ [])
  books_close items waiting events f xs b unclosed at =
      let within = get_within items f xs at in
      let none : (s : ℕ) → length xs ≤ s → offered f s events ≡ 0 = λ s le.
      let all = b.balanced f s in
      let past : given items f s ≡ 0 = ap (λ o. cond {A = ℕ} (is_some o) 1 0) (file_item items f s xs at ∙ get_past xs s le) in
      omega (arith, all, past) in (
        refusal_within (length items) events (Close f (length xs)) within ∙ close_step (close_at events f) (offers_from events f (length xs)) unclosed (no_offers_from f (length xs) events none),
        record {
          balanced = λ g r. let was = b.balanced g r in let same = offered_close g r events f (length xs) in omega (arith, was, same);
          closes = λ g n e. close_found (close_at events g) (f == g) (length xs) n ((ys : List X) × (slice_get items g ≡ Some ys) × (n ≡ length ys)) (sym (close_at_append events (Close f (length xs) ∷ []) g) ∙ e)
              (λ old. b.closes g n old)
              (λ here same. (xs, subst (λ k. slice_get items k ≡ Some xs) (eqb-true f g here) at, sym same));
        },
      )

  -- one more item was read, and waits
  pub books_item : (items : List (List X)) (waiting waiting' : ℕ → ℕ → ℕ) (events : List (Event O)) (f : ℕ) (xs : List X) (x : X)
      → Books items waiting events → close_at events f ≡ None → slice_get items f ≡ Some xs → ((g r : ℕ) → waiting' g r ≡ waiting g r + one_if g r f (length xs))
      → Books (set items f (xs ++ x ∷ [])) waiting' events
  books_item items waiting waiting' events f xs x b unclosed at more = record {
    balanced = λ g r. let was = b.balanced g r in let moved = more g r in let now = given_push items f xs x g r at in omega (arith, was, moved, now);
    closes = λ g n e.
        let c = b.closes g n e in
        let ne : g ≡ f → ⊥ = λ same. let e' : close_at events f ≡ Some n = ap (close_at events) (sym same) ∙ e in let bad : ⊥ = cc in bad in
        (c.0, get_set_other items f g (xs ++ x ∷ []) ne ∙ c.1, c.2);
  }

  -- an offer of the work on an item
  pub offers_more : (works : ℕ → X → O → Type 0) (items : List (List X)) (events : List (Event O)) (f s : ℕ) (x : X) (o : O)
      → OffersWorked works items events → item_at items f s ≡ Some x → works f x o → OffersWorked works items (events ++ Offer f s o ∷ [])
  offers_more works items events f s x o h at work g r y e =
      elim (offer_found events f s o g r y e) [
        | inl old ↦ h g r y old
        | inr same ↦ (
          x,
          ap (λ n. item_at items n r) (sym same.0) ∙ ap (λ n. item_at items f n) (sym same.1) ∙ at,
          subst (λ n. works n x y) same.0 (subst (λ z. works f x z) same.2 work),
        )
      ]

  -- if nothing waits, all items of a file are ready
  pub books_ready : (items : List (List X)) (events : List (Event O)) (i : ℕ) (xs : List X) → Books items none_waits events → slice_get items i ≡ Some xs → length (ready events i) ≡ length xs
  books_ready items events i xs b at =
      let each : (s : ℕ) → s < length xs → 1 ≤ offered i s events = λ s lt.
      let all = b.balanced i s in
      let x = get_in xs s lt in
      let one : given items i s ≡ 1 = ap (λ o. cond {A = ℕ} (is_some o) 1 0) (file_item items i s xs at ∙ x.1) in
      omega (arith, all, one) in
      let past : offer_at events i (length xs) ≡ None = never_offered i (length xs) events (
      let all = b.balanced i (length xs) in
      let none : given items i (length xs) ≡ 0 = ap (λ o. cond {A = ℕ} (is_some o) 1 0) (file_item items i (length xs) xs at ∙ get_past xs (length xs) (omega arith)) in
      omega (arith, all, none)) in
      let z : zero + length xs ≡ length xs = omega arith in
      full_ready events i zero (length xs) (length events) (enough (length xs) i events each) (λ r a lt. once_offered i r events (each r (omega arith)))
      (subst (λ n. offer_at events i n ≡ None) (sym z) past)

  -- and a file that is closed is complete
  pub books_complete : (items : List (List X)) (events : List (Event O)) (i : ℕ) (xs : List X) → Books items none_waits events → slice_get items i ≡ Some xs → close_at events i ≡ Some (length xs)
      → is_complete events i ≡ true
  books_complete items events i xs b at close =
      ap (λ c. is_closed_at c (length (ready events i))) close ∙ eq-eqb (length xs) (length (ready events i)) (sym (books_ready items events i xs b at))

  -- if nothing waits and each file is closed, everything is due
  pub books_settle : (items : List (List X)) (events : List (Event O)) → Books items none_waits events
      → ((i : ℕ) (xs : List X) → slice_get items i ≡ Some xs → close_at events i ≡ Some (length xs))
      → numbers (due events (length items)) ≡ numbers (numbered zero items)
  books_settle items events b closed =
      due_numbers events zero items (λ i xs at.
      let here : zero + i ≡ i = omega arith in
      subst (λ n. (is_complete events n ≡ true) × (length (ready events n) ≡ length xs)) (sym here) (books_complete items events i xs b at (closed i xs at), books_ready items events i xs b at))
