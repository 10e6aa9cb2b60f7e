-- What is ready of a file, by what was taken of it.
use Rattle.std.proofs.Common.{◌≡◌, ◌==◌, ◌≤◌, ◌<◌, ℕ, zero, suc, ◌+◌, List, [], ◌∷◌, ◌++◌, length, refl, sym, subst, ap, ◌∙◌, arith, Option, Some, None, true, cond}
use Rattle.std.specs.Option.{is_some}
use Rattle.std.specs.List.{slice_get}
use Rattle.std.proofs.lemmas.Bool.{eq-eqb, ne_eqb}
use Rattle.fq_lanes.specs.Due.{offer_at, close_at, offer_count, ready_step, ready_from, ready, is_closed_at, is_complete, handed_count}
use Rattle.fq_lanes.specs.FileFacts.{FileFacts}
use Rattle.fq_lanes.proofs.EventLemmas.{offer_count_within}
use Rattle.fq_lanes.proofs.FileLemmas.{none_past_top}
use Rattle.fq_lanes.proofs.DuePrefixLemmas.{closed_with, ready_stops}
use Rattle.fq_lanes.specs.declared.events.Event.{Event}

handed_nil : (T : Type 0) (g t : ℕ) → handed_count {T = T} g t [] ≡ 0
handed_nil T g zero = refl
handed_nil T g (suc t) = refl

module _ {T : Type 0} where
  step_some : (f s n k : ℕ) (found : Option T) (rest : List (ℕ × ℕ × T)) (o : Option (ℕ × ℕ × T)) → is_some found ≡ true → slice_get rest k ≡ o → slice_get (ready_step found f s rest) (suc k) ≡ o
  step_some f s n k None rest o e h = let bad : ⊥ = cc in absurd bad
  step_some f s n k (Some x) rest o e h = h

  step_first : (f s : ℕ) (found : Option T) (rest : List (ℕ × ℕ × T)) (y : T) → found ≡ Some y → slice_get (ready_step found f s rest) zero ≡ Some (f, s, y)
  step_first f s None rest y e = let bad : ⊥ = cc in absurd bad
  step_first f s (Some x) rest y e = let same : x ≡ y = cc in ap (λ z. Some (f, s, z)) same

  step_longer : (f s k : ℕ) (found : Option T) (rest : List (ℕ × ℕ × T)) → is_some found ≡ true → k ≤ length rest → suc k ≤ length (ready_step found f s rest)
  step_longer f s k None rest e le = let bad : ⊥ = cc in absurd bad
  step_longer f s k (Some x) rest e le = omega arith

  -- if each serial from s on is offered, item k of what is ready is that of serial s + k
  pub ready_item : (es : List (Event T)) (f s k most r : ℕ) (y : T) → r ≡ s + k → k < most
      → ((q : ℕ) → s ≤ q → q < r → is_some (offer_at es f q) ≡ true) → offer_at es f r ≡ Some y → slice_get (ready_from es f s most) k ≡ Some (f, r, y)
  ready_item es f s k zero r y at lt h e = absurd (omega arith)
  ready_item es f s zero (suc most) r y at lt h e =
      let same : r ≡ s = omega arith in
      step_first f s (offer_at es f s) (ready_from es f (suc s) most) y (subst (λ q. offer_at es f q ≡ Some y) same e)
      ∙ ap (λ q. Some (f, q, y)) (sym same)
  ready_item es f s (suc k) (suc most) r y at lt h e =
      step_some f s zero k (offer_at es f s) (ready_from es f (suc s) most) (Some (f, r, y)) (h s (omega arith) (omega arith))
      (ready_item es f (suc s) k most r y (omega arith) (omega arith) (λ q a b. h q (omega arith) b) e)

  pub ready_reaches : (es : List (Event T)) (f s k most : ℕ) → k ≤ most
      → ((q : ℕ) → s ≤ q → q < s + k → is_some (offer_at es f q) ≡ true) → k ≤ length (ready_from es f s most)
  ready_reaches es f s zero most le h = omega arith
  ready_reaches es f s (suc k) zero le h = absurd (omega arith)
  ready_reaches es f s (suc k) (suc most) le h =
      step_longer f s k (offer_at es f s) (ready_from es f (suc s) most) (h s (omega arith) (omega arith))
      (ready_reaches es f (suc s) k most (omega arith) (λ q a b. h q (omega arith) (omega arith)))

  -- at least as many items are ready as were taken
  pub taken_within : (found : ℕ → Option T) (count taken top : ℕ) (closed : Option ℕ) (es : List (Event T)) (f : ℕ)
      → FileFacts found count taken top closed es f → taken ≤ length (ready es f)
  taken_within found count taken top closed es f k =
      let within = offer_count_within es f in
      ready_reaches es f zero taken (length es) (omega (arith, within, k.number)) (λ q a b. k.gone q (omega arith))

  -- and just as many if the next one was not offered
  pub taken_all : (found : ℕ → Option T) (count taken top : ℕ) (closed : Option ℕ) (es : List (Event T)) (f : ℕ)
      → FileFacts found count taken top closed es f → offer_at es f taken ≡ None → length (ready es f) ≡ taken
  taken_all found count taken top closed es f k none =
      let low = taken_within found count taken top closed es f k in
      let z : taken ≡ zero + taken = omega arith in
      let high = ready_stops es f zero taken (length es) (subst (λ q. offer_at es f q ≡ None) z none) in
      omega (arith, low, high)

  pub complete_is : (found : ℕ → Option T) (count taken top : ℕ) (closed : Option ℕ) (es : List (Event T)) (f : ℕ)
      → FileFacts found count taken top closed es f → offer_at es f taken ≡ None → is_complete es f ≡ is_closed_at closed taken
  complete_is found count taken top closed es f k none =
      ap (λ n. is_closed_at (close_at es f) n) (taken_all found count taken top closed es f k none) ∙ ap (λ c. is_closed_at c taken) k.closing

  -- a file that was handed out whole
  pub drained : (found : ℕ → Option T) (count taken top : ℕ) (closed : Option ℕ) (es : List (Event T)) (f : ℕ)
      → FileFacts found count taken top closed es f → is_closed_at closed taken ≡ true → (is_complete es f ≡ true) × (length (ready es f) ≡ taken)
  drained found count taken top closed es f k e =
      let at = closed_with closed taken e in
      let short = k.short at.0 at.1 in
      let none = none_past_top found count taken top closed es f taken k (omega (arith, short, at.2)) in
      (complete_is found count taken top closed es f k none ∙ e, taken_all found count taken top closed es f k none)

  -- the next of the ready items
  pub next_item : (found : ℕ → Option T) (count taken top : ℕ) (closed : Option ℕ) (es : List (Event T)) (f : ℕ) (y : T)
      → FileFacts found count taken top closed es f → offer_at es f taken ≡ Some y → taken < offer_count es f → slice_get (ready es f) taken ≡ Some (f, taken, y)
  next_item found count taken top closed es f y k e lt =
      let within = offer_count_within es f in
      ready_item es f zero taken (length es) taken y (omega arith) (omega (arith, within, lt)) (λ q a b. k.gone q b) e

  -- what is ready of a file has items of this file only
  handed_step : (f s t : ℕ) (found : Option T) (rest : List (ℕ × ℕ × T)) → ((u : ℕ) → u ≤ length rest → handed_count f u rest ≡ u) → t ≤ length (ready_step found f s rest) → handed_count f t (ready_step found f s rest) ≡ t
  handed_step f s zero found rest h le = refl
  handed_step f s (suc t) None rest h le = absurd (omega arith)
  handed_step f s (suc t) (Some x) rest h le =
      let rest_is = h t (omega arith) in
      let here : cond (f == f) 1 0 ≡ 1 = ap (λ b. cond {A = ℕ} b 1 0) (eq-eqb f f refl) in
      omega (arith, rest_is, here)

  pub handed_ready : (es : List (Event T)) (f s most t : ℕ) → t ≤ length (ready_from es f s most) → handed_count f t (ready_from es f s most) ≡ t
  handed_ready es f s zero zero le = refl
  handed_ready es f s zero (suc t) le = absurd (omega arith)
  handed_ready es f s (suc most) t le = handed_step f s t (offer_at es f s) (ready_from es f (suc s) most) (λ u. handed_ready es f (suc s) most u) le

  other_step : (f g s t : ℕ) (found : Option T) (rest : List (ℕ × ℕ × T)) → (f ≡ g → ⊥) → ((u : ℕ) → handed_count g u rest ≡ 0) → handed_count g t (ready_step found f s rest) ≡ 0
  other_step f g s zero found rest ne h = refl
  other_step f g s (suc t) None rest ne h = refl
  other_step f g s (suc t) (Some x) rest ne h =
      let rest_is = h t in
      let here : cond (f == g) 1 0 ≡ 0 = ap (λ b. cond {A = ℕ} b 1 0) (ne_eqb f g ne) in
      omega (arith, rest_is, here)

  pub handed_other : (es : List (Event T)) (f g s most t : ℕ) → (f ≡ g → ⊥) → handed_count g t (ready_from es f s most) ≡ 0
  handed_other es f g s zero t ne = handed_nil T g t
  handed_other es f g s (suc most) t ne = other_step f g s t (offer_at es f s) (ready_from es f (suc s) most) ne (λ u. handed_other es f g (suc s) most u ne)

  -- over lists joined
  pub handed_front : (g t : ℕ) (xs ys : List (ℕ × ℕ × T)) → t ≤ length xs → handed_count g t (xs ++ ys) ≡ handed_count g t xs
  handed_front g zero xs ys le = refl
  handed_front g (suc t) [] ys le = absurd (omega arith)
  handed_front g (suc t) (x ∷ xs) ys le = ap (λ n. cond (x.0 == g) 1 0 + n) (handed_front g t xs ys (omega arith))

  pub handed_both : (g t u k : ℕ) (xs ys : List (ℕ × ℕ × T)) → length xs ≡ k → u ≡ k + t → handed_count g u (xs ++ ys) ≡ handed_count g k xs + handed_count g t ys
  handed_both g t u zero [] ys len e = let same : u ≡ t = omega arith in ap (λ n. handed_count g n ys) same ∙ (omega arith)
  handed_both g t u (suc k) [] ys len e = absurd (omega arith)
  handed_both g t u zero (x ∷ xs) ys len e = absurd (omega arith)
  handed_both g t zero (suc k) (x ∷ xs) ys len e = absurd (omega arith)
  handed_both g t (suc u) (suc k) (x ∷ xs) ys len e =
      let rest = handed_both g t u k xs ys (omega arith) (omega arith) in omega (arith, rest)

  pub get_front : (xs ys : List (ℕ × ℕ × T)) (i : ℕ) (y : ℕ × ℕ × T) → slice_get xs i ≡ Some y → slice_get (xs ++ ys) i ≡ Some y
  get_front [] ys i y e = let bad : ⊥ = cc in absurd bad
  get_front (x ∷ xs) ys zero y e = e
  get_front (x ∷ xs) ys (suc i) y e = get_front xs ys i y e

  pub get_behind : (xs ys : List (ℕ × ℕ × T)) (i j k : ℕ) → length xs ≡ k → j ≡ k + i → slice_get (xs ++ ys) j ≡ slice_get ys i
  get_behind [] ys i j k len e = let same : j ≡ i = omega arith in ap (slice_get ys) same
  get_behind (x ∷ xs) ys i zero k len e = absurd (omega arith)
  get_behind (x ∷ xs) ys i (suc j) zero len e = absurd (omega arith)
  get_behind (x ∷ xs) ys i (suc j) (suc k) len e = get_behind xs ys i j k (omega arith) (omega arith)
