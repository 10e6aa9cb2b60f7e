-- A sink's files, one after another.
use Rattle.std.proofs.Common.{◌≡◌, ◌==◌, ◌&&◌, ◌≤◌, ◌<◌, ℕ, zero, suc, ◌+◌, List, [], ◌∷◌, ◌++◌, length, set, length-append, refl, sym, subst, ap, ◌∙◌, arith, Option, Some, None, Bool, true, false, cond}
use Rattle.std.specs.List.{slice_get, list_all}
use Rattle.std.proofs.lemmas.Bool.{eq-eqb}
use Rattle.std.proofs.lemmas.List.{append-nil}
use Rattle.fq_lanes.specs.Due.{offer_at, close_at, offer_count, ready, is_closed_at, is_complete, due_from, handed_count, all_finished}
use Rattle.fq_lanes.specs.FileState.{FileFollows}
use Rattle.fq_lanes.specs.Slots.{found_in, held_in}
use Rattle.fq_lanes.specs.Sink.{taken_by, waiting_of, is_finished_file, Fresh, Staged}
use Rattle.fq_lanes.proofs.DuePrefixLemmas.{closed_with}
use Rattle.fq_lanes.proofs.ReadyLemmas.{taken_within, taken_all, complete_is, drained, next_item, handed_ready, handed_other, handed_front, handed_both, get_front, get_behind}
use Rattle.fq_lanes.specs.declared.events.Event.{Event}
use Rattle.fq_lanes.specs.declared.file_state.FileState.{FileState}

still_closed : (closed closed' : Option ℕ) (taken taken' : ℕ) → ((n : ℕ) → closed ≡ Some n → closed' ≡ Some n) → taken' ≡ taken → is_closed_at closed taken ≡ true → is_closed_at closed' taken' ≡ true
still_closed closed closed' taken taken' k t e =
    let at = closed_with closed taken e in
    ap (λ c. is_closed_at c taken') (k at.0 at.1) ∙ ap (λ n. at.0 == n) t ∙ eq-eqb at.0 taken (sym at.2)

module _ {T : Type 0} where
  fresh_get : (xs : List (FileState T)) (es : List (Event T)) (f g k : ℕ) (x : FileState T) → Fresh xs es f → slice_get xs g ≡ Some x → k ≡ f + g → FileFollows x es k × (x.taken ≡ 0)
  fresh_get [] es f g k x h e at = let bad : ⊥ = cc in absurd bad
  fresh_get (y ∷ xs) es f zero k x h e at =
      let same : y ≡ x = cc in let here : k ≡ f = omega arith in
      subst (λ z. FileFollows z es k × (z.taken ≡ 0)) same (subst (λ n. FileFollows y es n × (y.taken ≡ 0)) (sym here) (h.0, h.1))
  fresh_get (y ∷ xs) es f (suc g) k x h e at = fresh_get xs es (suc f) g k x h.2 e (omega arith)

  pub staged_get : (at : ℕ) (xs : List (FileState T)) (es : List (Event T)) (f g k : ℕ) (x : FileState T) → Staged at xs es f → slice_get xs g ≡ Some x → k ≡ f + g → FileFollows x es k
  staged_get at [] es f g k x h e is = let bad : ⊥ = cc in absurd bad
  staged_get zero (y ∷ xs) es f zero k x h e is =
      let same : y ≡ x = cc in let here : k ≡ f = omega arith in
      subst (λ z. FileFollows z es k) same (subst (λ n. FileFollows y es n) (sym here) h.0)
  staged_get zero (y ∷ xs) es f (suc g) k x h e is = (fresh_get xs es (suc f) g k x h.1 e (omega arith)).0
  staged_get (suc at) (y ∷ xs) es f zero k x h e is =
      let same : y ≡ x = cc in let here : k ≡ f = omega arith in
      subst (λ z. FileFollows z es k) same (subst (λ n. FileFollows y es n) (sym here) h.0)
  staged_get (suc at) (y ∷ xs) es f (suc g) k x h e is = staged_get at xs es (suc f) g k x h.2 e (omega arith)

  pub fresh_taken : (xs : List (FileState T)) (es : List (Event T)) (f : ℕ) → Fresh xs es f → taken_by xs ≡ 0
  fresh_taken [] es f h = refl
  fresh_taken (x ∷ xs) es f h = let rest = fresh_taken xs es (suc f) h.2 in omega (arith, h.1, rest)

  pub fresh_staged : (xs : List (FileState T)) (es : List (Event T)) (f : ℕ) → Fresh xs es f → Staged zero xs es f
  fresh_staged [] es f h = refl
  fresh_staged (x ∷ xs) es f h = (h.0, h.2)

  pub fresh_push : (xs : List (FileState T)) (x : FileState T) (es : List (Event T)) (f : ℕ) → Fresh xs es f → ((g : ℕ) → FileFollows x es g) → x.taken ≡ 0 → Fresh (xs ++ x ∷ []) es f
  fresh_push [] x es f h k e = (k f, e, tt)
  fresh_push (y ∷ xs) x es f h k e = (h.0, h.1, fresh_push xs x es (suc f) h.2 k e)

  fresh_on : (xs : List (FileState T)) (es es' : List (Event T)) (f k : ℕ) → k < f → ((h : ℕ) (y : FileState T) → (h ≡ k → ⊥) → FileFollows y es h → FileFollows y es' h) → Fresh xs es f → Fresh xs es' f
  fresh_on [] es es' f k lt o h = tt
  fresh_on (x ∷ xs) es es' f k lt o h = (o f x (λ e. omega (arith, e, lt)) h.0, h.1, fresh_on xs es es' (suc f) k (omega arith) o h.2)

  fresh_set : (xs : List (FileState T)) (es es' : List (Event T)) (f g k : ℕ) (x x' : FileState T) → Fresh xs es f → slice_get xs g ≡ Some x → k ≡ f + g
      → FileFollows x' es' k → x'.taken ≡ x.taken → ((h : ℕ) (y : FileState T) → (h ≡ k → ⊥) → FileFollows y es h → FileFollows y es' h) → Fresh (set xs g x') es' f
  fresh_set [] es es' f g k x x' h e is new t o = tt
  fresh_set (y ∷ xs) es es' f zero k x x' h e is new t o =
      let same : y ≡ x = cc in let here : k ≡ f = omega arith in
      (subst (λ n. FileFollows x' es' n) here new, t ∙ ap (λ z. z.taken) (sym same) ∙ h.1, fresh_on xs es es' (suc f) k (omega arith) o h.2)
  fresh_set (y ∷ xs) es es' f (suc g) k x x' h e is new t o =
      (o f y (λ e. omega (arith, e, is)) h.0, h.1, fresh_set xs es es' (suc f) g k x x' h.2 e (omega arith) new t o)

  staged_on : (at : ℕ) (xs : List (FileState T)) (es es' : List (Event T)) (f k : ℕ) → k < f → ((h : ℕ) (y : FileState T) → (h ≡ k → ⊥) → FileFollows y es h → FileFollows y es' h) → Staged at xs es f → Staged at xs es' f
  staged_on at [] es es' f k lt o h = h
  staged_on zero (x ∷ xs) es es' f k lt o h = (o f x (λ e. omega (arith, e, lt)) h.0, fresh_on xs es es' (suc f) k (omega arith) o h.1)
  staged_on (suc at) (x ∷ xs) es es' f k lt o h = (o f x (λ e. omega (arith, e, lt)) h.0, h.1, staged_on at xs es es' (suc f) k (omega arith) o h.2)

  -- one file is told of an event
  pub staged_set : (at : ℕ) (xs : List (FileState T)) (es es' : List (Event T)) (f g k : ℕ) (x x' : FileState T) → Staged at xs es f → slice_get xs g ≡ Some x → k ≡ f + g
      → FileFollows x' es' k → x'.taken ≡ x.taken → ((n : ℕ) → x.closed ≡ Some n → x'.closed ≡ Some n)
      → ((h : ℕ) (y : FileState T) → (h ≡ k → ⊥) → FileFollows y es h → FileFollows y es' h) → Staged at (set xs g x') es' f
  staged_set at [] es es' f g k x x' h e is new t c o = let bad : ⊥ = cc in absurd bad
  staged_set zero (y ∷ xs) es es' f zero k x x' h e is new t c o =
      let here : k ≡ f = omega arith in
      (subst (λ n. FileFollows x' es' n) here new, fresh_on xs es es' (suc f) k (omega arith) o h.1)
  staged_set zero (y ∷ xs) es es' f (suc g) k x x' h e is new t c o =
      (o f y (λ e. omega (arith, e, is)) h.0, fresh_set xs es es' (suc f) g k x x' h.1 e (omega arith) new t o)
  staged_set (suc at) (y ∷ xs) es es' f zero k x x' h e is new t c o =
      let same : y ≡ x = cc in let here : k ≡ f = omega arith in (
        subst (λ n. FileFollows x' es' n) here new,
        still_closed x.closed x'.closed x.taken x'.taken c t (subst (λ z. is_closed_at z.closed z.taken ≡ true) same h.1),
        staged_on at xs es es' (suc f) k (omega arith) o h.2,
      )
  staged_set (suc at) (y ∷ xs) es es' f (suc g) k x x' h e is new t c o =
      (o f y (λ e. omega (arith, e, is)) h.0, h.1, staged_set at xs es es' (suc f) g k x x' h.2 e (omega arith) new t c o)

  -- the next file hands out an item, or none
  pub staged_next : (at : ℕ) (xs : List (FileState T)) (es : List (Event T)) (f k : ℕ) (x x' : FileState T) → Staged at xs es f → slice_get xs at ≡ Some x → k ≡ f + at
      → FileFollows x' es k → Staged at (set xs at x') es f
  staged_next at [] es f k x x' h e is new = let bad : ⊥ = cc in absurd bad
  staged_next zero (y ∷ xs) es f k x x' h e is new = let here : k ≡ f = omega arith in (subst (λ n. FileFollows x' es n) here new, h.1)
  staged_next (suc at) (y ∷ xs) es f k x x' h e is new = (h.0, h.1, staged_next at xs es (suc f) k x x' h.2 e (omega arith) new)

  pub taken_set : (xs : List (FileState T)) (g : ℕ) (x x' : FileState T) → slice_get xs g ≡ Some x → taken_by (set xs g x') + x.taken ≡ taken_by xs + x'.taken
  taken_set [] g x x' e = let bad : ⊥ = cc in absurd bad
  taken_set (y ∷ xs) zero x x' e = let same : y ≡ x = cc in let t : y.taken ≡ x.taken = ap (λ z. z.taken) same in omega (arith, t)
  taken_set (y ∷ xs) (suc g) x x' e = let rest = taken_set xs g x x' e in omega (arith, rest)

  pub held_set : (xs : List (FileState T)) (g : ℕ) (x x' : FileState T) → slice_get xs g ≡ Some x → waiting_of (set xs g x') + held_in x.slots.items ≡ waiting_of xs + held_in x'.slots.items
  held_set [] g x x' e = let bad : ⊥ = cc in absurd bad
  held_set (y ∷ xs) zero x x' e = let same : y ≡ x = cc in let t : held_in y.slots.items ≡ held_in x.slots.items = ap (λ z. held_in z.slots.items) same in omega (arith, t)
  held_set (y ∷ xs) (suc g) x x' e = let rest = held_set xs g x x' e in omega (arith, rest)

  -- a file that was handed out whole is passed
  pub staged_pass : (at : ℕ) (xs : List (FileState T)) (es : List (Event T)) (f : ℕ) (x : FileState T) → Staged at xs es f → slice_get xs at ≡ Some x → is_closed_at x.closed x.taken ≡ true → Staged (suc at) xs es f
  staged_pass at [] es f x h e d = let bad : ⊥ = cc in absurd bad
  staged_pass zero (y ∷ xs) es f x h e d =
      let same : x ≡ y = cc in (h.0, subst (λ z. is_closed_at z.closed z.taken ≡ true) same d, fresh_staged xs es (suc f) h.1)
  staged_pass (suc at) (y ∷ xs) es f x h e d = (h.0, h.1, staged_pass at xs es (suc f) x h.2 e d)

  file_drained : (x : FileState T) (es : List (Event T)) (f : ℕ) → FileFollows x es f → is_closed_at x.closed x.taken ≡ true → (is_complete es f ≡ true) × (length (ready es f) ≡ x.taken)
  file_drained x es f k e = drained (found_in x.slots.items x.taken) (held_in x.slots.items) x.taken x.top x.closed es f k e

  whole_rest : (b : Bool) (xs ys : List (ℕ × ℕ × T)) → b ≡ true → xs ++ cond b ys [] ≡ xs ++ ys
  whole_rest b xs ys e = ap (λ c. xs ++ cond c ys []) e

  -- the next file's next item is the next that is due
  pub due_next : (at : ℕ) (xs : List (FileState T)) (es : List (Event T)) (f k : ℕ) (x : FileState T) (y : T) → Staged at xs es f → slice_get xs at ≡ Some x → k ≡ f + at
      → offer_at es k x.taken ≡ Some y → x.taken < offer_count es k → slice_get (due_from es f (length xs)) (taken_by xs) ≡ Some (k, x.taken, y)
  due_next at [] es f k x y h e is o lt = let bad : ⊥ = cc in absurd bad
  due_next zero (z ∷ xs) es f k x y h e is o lt =
      let same : x ≡ z = cc in let here : k ≡ f = omega arith in
      let none = fresh_taken xs es (suc f) h.1 in
      let total : x.taken ≡ z.taken + taken_by xs = let t : x.taken ≡ z.taken = ap (λ w. w.taken) same in omega (arith, none, t) in
      let holds : FileFollows x es f = subst (λ w. FileFollows w es f) (sym same) h.0 in
      ap (slice_get (due_from es f (length (z ∷ xs)))) (sym total)
      ∙ get_front (ready es f) (cond (is_complete es f) (due_from es (suc f) (length xs)) []) x.taken (f, x.taken, y)
      (next_item (found_in x.slots.items x.taken) (held_in x.slots.items) x.taken x.top x.closed es f y holds
      (subst (λ n. offer_at es n x.taken ≡ Some y) here o) (subst (λ n. x.taken < offer_count es n) here lt))
      ∙ ap (λ n. Some (n, x.taken, y)) (sym here)
  due_next (suc at) (z ∷ xs) es f k x y h e is o lt =
      let d = file_drained z es f h.0 h.1 in
      ap (λ l. slice_get l (z.taken + taken_by xs)) (whole_rest (is_complete es f) (ready es f) (due_from es (suc f) (length xs)) d.0)
      ∙ get_behind (ready es f) (due_from es (suc f) (length xs)) (taken_by xs) (z.taken + taken_by xs) z.taken d.1 refl
      ∙ due_next at xs es (suc f) k x y h.2 e (omega arith) o lt

  -- nothing more is due if the next file is stuck
  pub due_stuck : (at : ℕ) (xs : List (FileState T)) (es : List (Event T)) (f k : ℕ) (x : FileState T) → Staged at xs es f → slice_get xs at ≡ Some x → k ≡ f + at
      → offer_at es k x.taken ≡ None → is_closed_at x.closed x.taken ≡ false → taken_by xs ≡ length (due_from es f (length xs))
  due_stuck at [] es f k x h e is o c = let bad : ⊥ = cc in absurd bad
  due_stuck zero (z ∷ xs) es f k x h e is o c =
      let same : x ≡ z = cc in let here : k ≡ f = omega arith in
      let none = fresh_taken xs es (suc f) h.1 in
      let t : x.taken ≡ z.taken = ap (λ w. w.taken) same in
      let holds : FileFollows x es f = subst (λ w. FileFollows w es f) (sym same) h.0 in
      let o' : offer_at es f x.taken ≡ None = subst (λ n. offer_at es n x.taken ≡ None) here o in
      let len = taken_all (found_in x.slots.items x.taken) (held_in x.slots.items) x.taken x.top x.closed es f holds o' in
      let open' : is_complete es f ≡ false = complete_is (found_in x.slots.items x.taken) (held_in x.slots.items) x.taken x.top x.closed es f holds o' ∙ c in
      let all : due_from es f (length (z ∷ xs)) ≡ ready es f = ap (λ b. ready es f ++ cond b (due_from es (suc f) (length xs)) []) open' ∙ append-nil (ready es f) in
      let sizes : length (due_from es f (length (z ∷ xs))) ≡ length (ready es f) = ap length all in
      omega (arith, none, t, len, sizes)
  due_stuck (suc at) (z ∷ xs) es f k x h e is o c =
      let d = file_drained z es f h.0 h.1 in
      let rest = due_stuck at xs es (suc f) k x h.2 e (omega arith) o c in
      let sizes : length (due_from es f (length (z ∷ xs))) ≡ length (ready es f) + length (due_from es (suc f) (length xs)) =
      ap length (whole_rest (is_complete es f) (ready es f) (due_from es (suc f) (length xs)) d.0) ∙ length-append (ready es f) (due_from es (suc f) (length xs)) in
      omega (arith, d.1, rest, sizes)

  -- nor if each file was handed out whole
  pub due_ended : (at : ℕ) (xs : List (FileState T)) (es : List (Event T)) (f : ℕ) → Staged at xs es f → length xs ≤ at → taken_by xs ≡ length (due_from es f (length xs))
  due_ended at [] es f h le = refl
  due_ended zero (z ∷ xs) es f h le = absurd (omega arith)
  due_ended (suc at) (z ∷ xs) es f h le =
      let d = file_drained z es f h.0 h.1 in
      let rest = due_ended at xs es (suc f) h.2 (omega arith) in
      let sizes : length (due_from es f (length (z ∷ xs))) ≡ length (ready es f) + length (due_from es (suc f) (length xs)) =
      ap length (whole_rest (is_complete es f) (ready es f) (due_from es (suc f) (length xs)) d.0) ∙ length-append (ready es f) (due_from es (suc f) (length xs)) in
      omega (arith, d.1, rest, sizes)

  file_taken_within : (x : FileState T) (es : List (Event T)) (f : ℕ) → FileFollows x es f → x.taken ≤ length (ready es f)
  file_taken_within x es f k = taken_within (found_in x.slots.items x.taken) (held_in x.slots.items) x.taken x.top x.closed es f k

  -- no item of a lower file is among those due from f on
  handed_joined : (g t : ℕ) (xs ys : List (ℕ × ℕ × T)) → ((u : ℕ) → handed_count g u xs ≡ 0) → ((u : ℕ) → handed_count g u ys ≡ 0) → handed_count g t (xs ++ ys) ≡ 0
  handed_joined g t [] ys h k = k t
  handed_joined g zero (x ∷ xs) ys h k = refl
  handed_joined g (suc t) (x ∷ xs) ys h k =
      let first : cond (x.0 == g) 1 0 + handed_count g zero xs ≡ 0 = h 1 in
      let rest = handed_joined g t xs ys (λ u. let e : cond (x.0 == g) 1 0 + handed_count g u xs ≡ 0 = h (suc u) in omega (arith, e)) k in
      let z : handed_count g zero xs ≡ 0 = refl in
      omega (arith, first, rest, z)

  pub handed_cond : (g t : ℕ) (b : Bool) (ys : List (ℕ × ℕ × T)) → ((u : ℕ) → handed_count g u ys ≡ 0) → handed_count g t (cond b ys []) ≡ 0
  handed_cond g t true ys h = h t
  handed_cond g zero false ys h = refl
  handed_cond g (suc t) false ys h = refl

  pub handed_later : (es : List (Event T)) (f files g t : ℕ) → g < f → handed_count g t (due_from es f files) ≡ 0
  handed_later es f zero g zero lt = refl
  handed_later es f zero g (suc t) lt = refl
  handed_later es f (suc files) g t lt =
      handed_joined g t (ready es f) (cond (is_complete es f) (due_from es (suc f) files) [])
      (λ u. handed_other es f g zero (length es) u (λ e. omega (arith, e, lt)))
      (λ u. handed_cond g u (is_complete es f) (due_from es (suc f) files) (λ v. handed_later es (suc f) files g v (omega arith)))

  -- what was handed out of each file
  pub handed_is : (at : ℕ) (xs : List (FileState T)) (es : List (Event T)) (f g k : ℕ) (x : FileState T) → Staged at xs es f → slice_get xs g ≡ Some x → k ≡ f + g
      → handed_count k (taken_by xs) (due_from es f (length xs)) ≡ x.taken
  handed_is at [] es f g k x h e is = let bad : ⊥ = cc in absurd bad
  handed_is zero (z ∷ xs) es f zero k x h e is =
      let same : x ≡ z = cc in let here : k ≡ f = omega arith in
      let t : x.taken ≡ z.taken = ap (λ w. w.taken) same in
      let none = fresh_taken xs es (suc f) h.1 in
      let total : z.taken + taken_by xs ≡ z.taken = omega (arith, none) in
      let within = file_taken_within z es f h.0 in
      ap (λ n. handed_count n (z.taken + taken_by xs) (due_from es f (length (z ∷ xs)))) here
      ∙ ap (λ n. handed_count f n (due_from es f (length (z ∷ xs)))) total
      ∙ handed_front f z.taken (ready es f) (cond (is_complete es f) (due_from es (suc f) (length xs)) []) within
      ∙ handed_ready es f zero (length es) z.taken within ∙ sym t
  handed_is zero (z ∷ xs) es f (suc g) k x h e is =
      let none = fresh_taken xs es (suc f) h.1 in
      let total : z.taken + taken_by xs ≡ z.taken = omega (arith, none) in
      let within = file_taken_within z es f h.0 in
      let zero_taken = (fresh_get xs es (suc f) g k x h.1 e (omega arith)).1 in
      ap (λ n. handed_count k n (due_from es f (length (z ∷ xs)))) total
      ∙ handed_front k z.taken (ready es f) (cond (is_complete es f) (due_from es (suc f) (length xs)) []) within
      ∙ handed_other es f k zero (length es) z.taken (λ e. omega (arith, e, is)) ∙ sym zero_taken
  handed_is (suc at) (z ∷ xs) es f zero k x h e is =
      let same : x ≡ z = cc in let here : k ≡ f = omega arith in
      let t : x.taken ≡ z.taken = ap (λ w. w.taken) same in
      let d = file_drained z es f h.0 h.1 in
      let both = handed_both f (taken_by xs) (z.taken + taken_by xs) z.taken (ready es f) (due_from es (suc f) (length xs)) d.1 refl in
      let own = handed_ready es f zero (length es) z.taken (file_taken_within z es f h.0) in
      let rest = handed_later es (suc f) (length xs) f (taken_by xs) (omega arith) in
      ap (λ n. handed_count n (z.taken + taken_by xs) (due_from es f (length (z ∷ xs)))) here
      ∙ ap (handed_count f (z.taken + taken_by xs)) (whole_rest (is_complete es f) (ready es f) (due_from es (suc f) (length xs)) d.0)
      ∙ omega (arith, both, own, rest, t)
  handed_is (suc at) (z ∷ xs) es f (suc g) k x h e is =
      let d = file_drained z es f h.0 h.1 in
      let both = handed_both k (taken_by xs) (z.taken + taken_by xs) z.taken (ready es f) (due_from es (suc f) (length xs)) d.1 refl in
      let own = handed_other es f k zero (length es) z.taken (λ e. omega (arith, e, is)) in
      let rest = handed_is at xs es (suc f) g k x h.2 e (omega arith) in
      ap (handed_count k (z.taken + taken_by xs)) (whole_rest (is_complete es f) (ready es f) (due_from es (suc f) (length xs)) d.0)
      ∙ omega (arith, both, own, rest)

  whole_file : (x : FileState T) (es : List (Event T)) (f : ℕ) → FileFollows x es f → is_closed_at (close_at es f) (offer_count es f) ≡ is_finished_file x
  whole_file x es f k = ap (λ c. is_closed_at c (offer_count es f)) k.closing ∙ ap (λ n. is_closed_at x.closed n) k.number

  fresh_whole : (xs : List (FileState T)) (es : List (Event T)) (f : ℕ) → Fresh xs es f → all_finished es f (length xs) ≡ list_all (λ x. is_finished_file x) xs
  fresh_whole [] es f h = refl
  fresh_whole (x ∷ xs) es f h = ap (λ b. b && all_finished es (suc f) (length xs)) (whole_file x es f h.0) ∙ ap (λ b. is_finished_file x && b) (fresh_whole xs es (suc f) h.2)

  pub staged_whole : (at : ℕ) (xs : List (FileState T)) (es : List (Event T)) (f : ℕ) → Staged at xs es f → all_finished es f (length xs) ≡ list_all (λ x. is_finished_file x) xs
  staged_whole at [] es f h = refl
  staged_whole zero (x ∷ xs) es f h = ap (λ b. b && all_finished es (suc f) (length xs)) (whole_file x es f h.0) ∙ ap (λ b. is_finished_file x && b) (fresh_whole xs es (suc f) h.1)
  staged_whole (suc at) (x ∷ xs) es f h = ap (λ b. b && all_finished es (suc f) (length xs)) (whole_file x es f h.0) ∙ ap (λ b. is_finished_file x && b) (staged_whole at xs es (suc f) h.2)
