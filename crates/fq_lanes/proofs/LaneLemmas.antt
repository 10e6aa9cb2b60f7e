-- Lists of lanes, of which one grows at a time.
use Rattle.std.proofs.Common.{◌≡◌, ℕ, zero, suc, List, [], ◌∷◌, ◌++◌, map, set, refl, sym, subst, ap, ◌∙◌, arith, Option, Some, None, Result, MatchOption}
use Rattle.std.proofs.lemmas.List.{map-set}
use Rattle.std.specs.List.{slice_get}
use mathlib.Core.List.{IsPrefix}
use Rattle.fq_lanes.specs.Numbering.{item_at}
use Rattle.fq_lanes.specs.HubView.{items_of, end_told, FeedView, WorkerView, Grows, WorkerGrows, told_in, items_in, Tells}
use Rattle.fq_lanes.proofs.BesideLemmas.{prefix_same, prefix_then, get_prefix}
use Rattle.fq_lanes.proofs.NumberingLemmas.{item_file, file_item}
use Rattle.fq_lanes.specs.declared.faults.FeedFault.{FeedFault}
use Rattle.fq_lanes.specs.declared.faults.Memory.{Memory}
use Rattle.fq_lanes.specs.declared.messages.FromFeed.{FromFeed}
use Rattle.fq_lanes.specs.declared.messages.FromFeed.TheVariants.{Item, End}

module _ {A : Type 0} where
  pub prefix_by : (old new more : List A) → new ≡ old ++ more → IsPrefix old new
  prefix_by old new more e = (more, sym e)

  pub prefix_is : (old new : List A) → new ≡ old → IsPrefix old new
  prefix_is old new e = subst (λ l. IsPrefix old l) (sym e) (prefix_same old)

  -- at a place of the list with one place written
  pub set_cases : (xs : List A) (i k : ℕ) (x y : A) (P : Type 0) → slice_get (set xs i x) k ≡ Some y
      → (k ≡ i → x ≡ y → P) → ((k ≡ i → ⊥) → slice_get xs k ≡ Some y → P) → P
  set_cases [] i k x y P e here there = let bad : ⊥ = cc in absurd bad
  set_cases (z ∷ xs) zero zero x y P e here there = let same : x ≡ y = cc in here refl same
  set_cases (z ∷ xs) zero (suc k) x y P e here there = there (λ p. omega (arith, p)) e
  set_cases (z ∷ xs) (suc i) zero x y P e here there = there (λ p. omega (arith, p)) e
  set_cases (z ∷ xs) (suc i) (suc k) x y P e here there = set_cases xs i k x y P e (λ p q. here (ap suc p) q) (λ ne q. there (λ p. ne (omega (arith, p))) q)

  pub grows_same : (R : A → A → Type 0) (xs : List A) → ((x : A) → R x x) → Grows R xs xs
  grows_same R xs same i x e = (x, e, same x)

  pub grows_then : (R : A → A → Type 0) (xs ys zs : List A) → ((x y z : A) → R x y → R y z → R x z) → Grows R xs ys → Grows R ys zs → Grows R xs zs
  grows_then R xs ys zs trans g h i x e =
      let y = g i x e in
      let z = h i y.0 y.1 in
      (z.0, z.1, trans x y.0 z.0 y.2 z.2)

  pub grows_set : (R : A → A → Type 0) (xs : List A) (i : ℕ) (old new : A) → ((x : A) → R x x) → slice_get xs i ≡ Some old → R old new → Grows R xs (set xs i new)
  grows_set R [] i old new same at h k x e = let bad : ⊥ = cc in absurd bad
  grows_set R (y ∷ xs) zero old new same at h zero x e =
      let is : old ≡ x = cc in (new, refl, subst (λ z. R z new) is h)
  grows_set R (y ∷ xs) zero old new same at h (suc k) x e = (x, e, same x)
  grows_set R (y ∷ xs) (suc i) old new same at h zero x e = (x, e, same x)
  grows_set R (y ∷ xs) (suc i) old new same at h (suc k) x e = grows_set R xs i old new same at h k x e

module _ {A B : Type 0} where
  pub get_map : (f : A → B) (xs : List A) (i : ℕ) (x : A) → slice_get xs i ≡ Some x → slice_get (map f xs) i ≡ Some (f x)
  get_map f [] i x e = let bad : ⊥ = cc in absurd bad
  get_map f (y ∷ xs) zero x e = let same : y ≡ x = cc in ap (λ z. Some (f z)) same
  get_map f (y ∷ xs) (suc i) x e = get_map f xs i x e

  pub get_of_map : (f : A → B) (xs : List A) (i : ℕ) (y : B) → slice_get (map f xs) i ≡ Some y → (x : A) × (slice_get xs i ≡ Some x) × (f x ≡ y)
  get_of_map f [] i y e = let bad : ⊥ = cc in absurd bad
  get_of_map f (x ∷ xs) zero y e = let same : f x ≡ y = cc in (x, refl, same)
  get_of_map f (x ∷ xs) (suc i) y e = get_of_map f xs i y e

module _ {X : Type 0} where
  -- one item more
  pub told_item : (told : List (FromFeed X)) (x : X) → end_told told ≡ None → (items_of (told ++ Item x ∷ []) ≡ items_of told ++ x ∷ []) × (end_told (told ++ Item x ∷ []) ≡ None)
  told_item [] x e = (refl, refl)
  told_item (Item y ∷ told) x e = let rest = told_item told x e in (ap (λ l. y ∷ l) rest.0, rest.1)
  told_item (End d ∷ told) x e = let bad : ⊥ = cc in absurd bad

  -- the end
  pub told_end : (told : List (FromFeed X)) (d : Option FeedFault) → end_told told ≡ None → (items_of (told ++ End d ∷ []) ≡ items_of told) × (end_told (told ++ End d ∷ []) ≡ Some d)
  told_end [] d e = (refl, refl)
  told_end (Item y ∷ told) d e = let rest = told_end told d e in (ap (λ l. y ∷ l) rest.0, rest.1)
  told_end (End c ∷ told) d e = let bad : ⊥ = cc in absurd bad

  -- past the end nothing counts
  pub ended_stays : (told more : List (FromFeed X)) (d : Option FeedFault) → end_told told ≡ Some d → (items_of (told ++ more) ≡ items_of told) × (end_told (told ++ more) ≡ Some d)
  ended_stays [] more d e = let bad : ⊥ = cc in absurd bad
  ended_stays (Item y ∷ told) more d e = let rest = ended_stays told more d e in (ap (λ l. y ∷ l) rest.0, rest.1)
  ended_stays (End c ∷ told) more d e = (refl, e)

  pub ended_grows : (told told' : List (FromFeed X)) (d : Option FeedFault) → IsPrefix told told' → end_told told ≡ Some d → (items_of told' ≡ items_of told) × (end_told told' ≡ Some d)
  ended_grows told told' d (more, p) e = subst (λ l. (items_of l ≡ items_of told) × (end_told l ≡ Some d)) p (ended_stays told more d e)

  items_append : (told more : List (FromFeed X)) → IsPrefix (items_of told) (items_of (told ++ more))
  items_append [] more = (items_of more, refl)
  items_append (Item y ∷ told) more = let rest = items_append told more in (rest.0, ap (λ l. y ∷ l) rest.1)
  items_append (End c ∷ told) more = ([], refl)

  pub items_grow : (told told' : List (FromFeed X)) → IsPrefix told told' → IsPrefix (items_of told) (items_of told')
  items_grow told told' (more, p) = subst (λ l. IsPrefix (items_of told) (items_of l)) p (items_append told more)

  pub tells_grows : (told told' : List (FromFeed X)) (t : FromFeed X) → IsPrefix told told' → Tells told t → Tells told' t
  tells_grows told told' t p (i, at) = (i, get_prefix told told' i t p at)

  -- an item that was taken stands where it stood
  pub item_grows : (messages tolds' : List (List (FromFeed X))) (f s : ℕ) (x : X) → Grows IsPrefix messages tolds' → item_at (items_in messages) f s ≡ Some x → item_at (items_in tolds') f s ≡ Some x
  item_grows messages tolds' f s x g e =
      let file = item_file (items_in messages) f s x e in
      let told = get_of_map items_of messages f file.0 file.1 in
      let now = g f told.0 told.1 in
      let here : slice_get (items_of told.0) s ≡ Some x = ap (λ l. slice_get l s) told.2 ∙ file.2 in
      file_item (items_in tolds') f s (items_of now.0) (get_map items_of tolds' f now.0 now.1) ∙ get_prefix (items_of told.0) (items_of now.0) s x (items_grow told.0 now.0 now.2) here

  pub told_in_set : (vs : List (FeedView X)) (f : ℕ) (v : FeedView X) → told_in (set vs f v) ≡ set (told_in vs) f v.told
  told_in_set vs f v = map-set (λ (u : FeedView X). u.told) vs f v

  pub items_in_set : (vs : List (FeedView X)) (f : ℕ) (v : FeedView X) → items_in (told_in (set vs f v)) ≡ set (items_in (told_in vs)) f (items_of v.told)
  items_in_set vs f v = ap items_in (told_in_set vs f v) ∙ map-set items_of (told_in vs) f v.told

  -- one lane grows
  pub told_in_grows : (vs : List (FeedView X)) (f : ℕ) (v v' : FeedView X) → slice_get vs f ≡ Some v → IsPrefix v.told v'.told → Grows IsPrefix (told_in vs) (told_in (set vs f v'))
  told_in_grows vs f v v' at p =
      subst (λ l. Grows IsPrefix (told_in vs) l) (sym (told_in_set vs f v'))
      (grows_set IsPrefix (told_in vs) f v.told v'.told prefix_same (get_map (λ (u : FeedView X). u.told) vs f v at) p)

  pub tolds_same : (messages : List (List (FromFeed X))) → Grows IsPrefix messages messages
  tolds_same messages = grows_same IsPrefix messages prefix_same

  pub tolds_then : (a b c : List (List (FromFeed X))) → Grows IsPrefix a b → Grows IsPrefix b c → Grows IsPrefix a c
  tolds_then a b c g h = grows_then IsPrefix a b c prefix_then g h

module _ {X O : Type 0} where
  pub worker_same : (d : WorkerView X O) → WorkerGrows d d
  worker_same d = (prefix_same d.jobs, prefix_same d.answers)

  pub worker_then : (a b c : WorkerView X O) → WorkerGrows a b → WorkerGrows b c → WorkerGrows a c
  worker_then a b c g h = (prefix_then a.jobs b.jobs c.jobs g.0 h.0, prefix_then a.answers b.answers c.answers g.1 h.1)

  pub workers_same : (ds : List (WorkerView X O)) → Grows WorkerGrows ds ds
  workers_same ds = grows_same WorkerGrows ds worker_same

  pub workers_then : (a b c : List (WorkerView X O)) → Grows WorkerGrows a b → Grows WorkerGrows b c → Grows WorkerGrows a c
  workers_then a b c g h = grows_then WorkerGrows a b c worker_then g h

  pub workers_set : (ds : List (WorkerView X O)) (w : ℕ) (d d' : WorkerView X O) → slice_get ds w ≡ Some d → WorkerGrows d d' → Grows WorkerGrows ds (set ds w d')
  workers_set ds w d d' at g = grows_set WorkerGrows ds w d d' worker_same at g

  -- nothing was received, or an answer
  pub worker_received : (got : Option ((ℕ × ℕ) × Result O Memory)) (d d' : WorkerView X O) → d'.jobs ≡ d.jobs
      → MatchOption got ((d'.answers ≡ d.answers) × (d'.outstanding ≡ d.outstanding)) (λ r. (d'.answers ≡ d.answers ++ r.1 ∷ []) × (d.outstanding ≡ r.0 ∷ d'.outstanding))
      → WorkerGrows d d'
  worker_received None d d' e h = (prefix_is d.jobs d'.jobs e, prefix_is d.answers d'.answers h.0)
  worker_received (Some r) d d' e h = (prefix_is d.jobs d'.jobs e, prefix_by d.answers d'.answers (r.1 ∷ []) h.0)
