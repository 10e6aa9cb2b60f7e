-- In every schedule no event is refused, and in the end all the work is due.
use Rattle.std.proofs.Common.{◌≡◌, ◌==◌, ◌&&◌, ◌≤◌, ◌<◌, ℕ, zero, suc, ◌+◌, List, [], ◌∷◌, ◌++◌, map, length, set, refl, sym, subst, ap, ◌∙◌, arith, Option, Some, None, Bool, true, false, cond, append_assoc, sum_by, flat_map, All, IsPermutation}
use Rattle.std.specs.List.{slice_get}
use Rattle.std.specs.Option.{is_some}
use Rattle.std.proofs.lemmas.Bool.{eq-eqb, ne_eqb}
use Rattle.std.proofs.lemmas.List.{append-nil}
use Rattle.std.proofs.lemmas.List.Sorted.{All-permutation, sum_by-IsPermutation}
use Rattle.std.proofs.lemmas.List.Sums.{sum_by-cons}
use Rattle.fq_lanes.specs.Due.{due, offer_at, close_at}
use Rattle.fq_lanes.specs.Refusals.{refusal, refused_of, AcceptedAfter, Accepted}
use Rattle.fq_lanes.specs.Beside.{Each}
use Rattle.fq_lanes.specs.Numbering.{item_at, numbered_file, numbered, numbers, AllNumbered}
use Rattle.fq_lanes.specs.Engine.{IsWorked}
use Rattle.fq_lanes.specs.Ledger.{one_if, times, offered, given, none_waits, Books, OffersWorked}
use Rattle.fq_lanes.specs.Schedule.{AreEmpty, IsMerge, offers_for, worked_items, closes_from, IsSchedule}
use Rattle.fq_lanes.proofs.EventLemmas.{or_else_none, offer_at_append}
use Rattle.fq_lanes.proofs.DueNumbers.{due_holds}
use Rattle.fq_lanes.proofs.LedgerLemmas.{one_self, books_offer, books_close, books_settle, offers_more}
use Rattle.fq_lanes.proofs.BesideLemmas.{get_within}
use Rattle.fq_lanes.proofs.NumberingLemmas.{items_all, each_worked}
use Rattle.fq_lanes.proofs.FileWindowLemmas.{none_refused}
use Rattle.fq_lanes.specs.declared.events.Event.{Event}
use Rattle.fq_lanes.specs.declared.events.Event.TheVariants.{Offer, Close}

-- a sum over lists
module _ {A : Type 0} where
  abbrev total : (List A → ℕ) → List (List A) → ℕ
  total m [] = 0
  total m (l ∷ lists) = m l + total m lists

  total_set : (m : List A → ℕ) (lists : List (List A)) (i : ℕ) (old new : List A) → slice_get lists i ≡ Some old → total m (set lists i new) + m old ≡ total m lists + m new
  total_set m [] i old new e = let bad : ⊥ = cc in absurd bad
  total_set m (l ∷ lists) zero old new e = let same : m l ≡ m old = let is : l ≡ old = cc in ap m is in omega (arith, same)
  total_set m (l ∷ lists) (suc i) old new e = let rest = total_set m lists i old new e in omega (arith, rest)

  total_empty : (m : List A → ℕ) (lists : List (List A)) → m [] ≡ 0 → AreEmpty lists → total m lists ≡ 0
  total_empty m [] z h = refl
  total_empty m (l ∷ lists) z h = let here : m l ≡ m [] = ap m h.0 in let rest = total_empty m lists z h.1 in omega (arith, here, rest, z)

  total_append : (m : List A → ℕ) (xs ys : List (List A)) → total m (xs ++ ys) ≡ total m xs + total m ys
  total_append m [] ys = omega arith
  total_append m (l ∷ xs) ys = let rest = total_append m xs ys in omega (arith, rest)

  abbrev AllIn : (A → Type 0) → List A → Type 0
  AllIn P [] = Unit {0}
  AllIn P (x ∷ xs) = P x × AllIn P xs

  abbrev AllLists : (A → Type 0) → List (List A) → Type 0
  AllLists P [] = Unit {0}
  AllLists P (l ∷ lists) = AllIn P l × AllLists P lists

  all_get : (P : A → Type 0) (lists : List (List A)) (i : ℕ) (l : List A) → AllLists P lists → slice_get lists i ≡ Some l → AllIn P l
  all_get P [] i l h e = let bad : ⊥ = cc in absurd bad
  all_get P (k ∷ lists) zero l h e = let same : k ≡ l = cc in subst (AllIn P) same h.0
  all_get P (k ∷ lists) (suc i) l h e = all_get P lists i l h.1 e

  all_set : (P : A → Type 0) (lists : List (List A)) (i : ℕ) (l : List A) → AllLists P lists → AllIn P l → AllLists P (set lists i l)
  all_set P [] i l h k = tt
  all_set P (m ∷ lists) zero l h k = (k, h.1)
  all_set P (m ∷ lists) (suc i) l h k = (h.0, all_set P lists i l h.1 k)

  all_lists_append : (P : A → Type 0) (xs ys : List (List A)) → AllLists P xs → AllLists P ys → AllLists P (xs ++ ys)
  all_lists_append P [] ys h k = k
  all_lists_append P (l ∷ xs) ys h k = (h.0, all_lists_append P xs ys h.1 k)

none_closed : (b : Bool) (n m : ℕ) (rest : Option ℕ) → cond b 1 0 + n ≡ 0 → (n ≡ 0 → rest ≡ None) → cond b (Some m) rest ≡ None
none_closed true n m rest e h = absurd (omega arith)
none_closed false n m rest e h = h (omega arith)

some_closed : (b : Bool) (n m : ℕ) (rest : Option ℕ) → 1 ≤ cond b 1 0 + n → (1 ≤ n → (k : ℕ) × (rest ≡ Some k)) → (k : ℕ) × (cond b (Some m) rest ≡ Some k)
some_closed true n m rest e h = (m, refl)
some_closed false n m rest e h = h (omega arith)

-- closes are counted as offers are
module _ {O : Type 0} where
  abbrev closed : ℕ → List (Event O) → ℕ
  closed f [] = 0
  closed f (Offer g s x ∷ es) = closed f es
  closed f (Close g n ∷ es) = cond (g == f) 1 0 + closed f es

  closed_append : (f : ℕ) (es ds : List (Event O)) → closed f (es ++ ds) ≡ closed f es + closed f ds
  closed_append f [] ds = omega arith
  closed_append f (Offer g s x ∷ es) ds = closed_append f es ds
  closed_append f (Close g n ∷ es) ds = let rest = closed_append f es ds in omega (arith, rest)

  never_closed : (f : ℕ) (es : List (Event O)) → closed f es ≡ 0 → close_at es f ≡ None
  never_closed f [] e = refl
  never_closed f (Offer g s x ∷ es) e = never_closed f es e
  never_closed f (Close g n ∷ es) e = none_closed (g == f) (closed f es) n (close_at es f) e (never_closed f es)

  once_closed : (f : ℕ) (es : List (Event O)) → 1 ≤ closed f es → (n : ℕ) × (close_at es f ≡ Some n)
  once_closed f [] e = absurd (omega arith)
  once_closed f (Offer g s x ∷ es) e = once_closed f es e
  once_closed f (Close g n ∷ es) e = some_closed (g == f) (closed f es) n (close_at es f) e (once_closed f es)

module _ {X O : Type 0} where
  -- an offer of the work on an item, or a close at a file's number of items
  abbrev EventFits : (ℕ → X → O → Type 0) → List (List X) → Event O → Type 0
  EventFits works items (Offer f s o) = (x : X) × (item_at items f s ≡ Some x) × works f x o
  EventFits works items (Close f n) = (xs : List X) × (slice_get items f ≡ Some xs) × (n ≡ length xs)

  -- these events were told, and those of the lists still come
  record Coming (works : ℕ → X → O → Type 0) (items : List (List X)) (lists : List (List (Event O))) (before : List (Event O)) : Type 0 where
    books : Books items (λ f s. total (offered f s) lists) before
    worked : OffersWorked works items before
    fits : AllLists (EventFits works items) lists
    closing : (f : ℕ) → f < length items → total (closed f) lists + closed f before ≡ 1

  books_same : (items : List (List X)) (waiting waiting' : ℕ → ℕ → ℕ) (events : List (Event O)) → ((f s : ℕ) → waiting' f s ≡ waiting f s) → Books items waiting events → Books items waiting' events
  books_same items waiting waiting' events same b = record { balanced = λ f s. let all = b.balanced f s in let here = same f s in omega (arith, all, here); closes = b.closes }

  offers_close : (works : ℕ → X → O → Type 0) (items : List (List X)) (events : List (Event O)) (f n : ℕ) → OffersWorked works items events → OffersWorked works items (events ++ Close f n ∷ [])
  offers_close works items events f n h g s o e = h g s o (sym (offer_at_append events (Close f n ∷ []) g s ∙ or_else_none (offer_at events g s)) ∙ e)

  -- the next event is accepted
  coming_step : (works : ℕ → X → O → Type 0) (items : List (List X)) (lists : List (List (Event O))) (before : List (Event O)) (i : ℕ) (e : Event O) (rest : List (Event O))
      → Coming works items lists before → slice_get lists i ≡ Some (e ∷ rest) → (refusal (length items) before e ≡ None) × Coming works items (set lists i rest) (before ++ e ∷ [])
  coming_step works items lists before i (Offer f s o) rest c at =
      let moved : (g r : ℕ) → total (offered g r) (set lists i rest) + one_if g r f s ≡ total (offered g r) lists =
      λ g r. let all = total_set (offered g r) lists i (Offer f s o ∷ rest) rest at in omega (arith, all) in
      let one = one_self f s in
      let here = moved f s in
      let all = books_offer items (λ g r. total (offered g r) lists) (λ g r. total (offered g r) (set lists i rest)) before f s o c.books (omega (arith, here, one)) moved in
      let fit = all_get (EventFits works items) lists i (Offer f s o ∷ rest) c.fits at in (
        all.0,
        record {
          books = all.1;
          worked = offers_more works items before f s fit.0.0 o c.worked fit.0.1 fit.0.2;
          fits = all_set (EventFits works items) lists i rest c.fits fit.1;
          closing = λ g lt.
              let was = c.closing g lt in
              let move = total_set (closed g) lists i (Offer f s o ∷ rest) rest at in
              let more = closed_append g before (Offer f s o ∷ []) in
              omega (arith, was, move, more);
        },
      )
  coming_step works items lists before i (Close f n) rest c at =
      let fit = all_get (EventFits works items) lists i (Close f n ∷ rest) c.fits at in
      let xs = fit.0.0 in
      let within = get_within items f xs fit.0.1 in
      let self : ◌≡◌ {A = ℕ} (cond (f == f) 1 0) 1 = ap (λ b. cond {A = ℕ} b 1 0) (eq-eqb f f refl) in
      let was = c.closing f within in
      let move = total_set (closed f) lists i (Close f n ∷ rest) rest at in
      let unclosed : close_at before f ≡ None = never_closed f before (omega (arith, was, move, self)) in
      let all = books_close items (λ g r. total (offered g r) lists) before f xs c.books unclosed fit.0.1 in (
        subst (λ k. refusal (length items) before (Close f k) ≡ None) (sym fit.0.2) all.0,
        record {
          books = books_same items (λ g r. total (offered g r) lists) (λ g r. total (offered g r) (set lists i rest)) (before ++ Close f n ∷ [])
              (λ g r. let same = total_set (offered g r) lists i (Close f n ∷ rest) rest at in omega (arith, same))
              (subst (λ k. Books items (λ g r. total (offered g r) lists) (before ++ Close f k ∷ [])) (sym fit.0.2) all.1);
          worked = offers_close works items before f n c.worked;
          fits = all_set (EventFits works items) lists i rest c.fits fit.1;
          closing = λ g lt.
              let was = c.closing g lt in
              let move = total_set (closed g) lists i (Close f n ∷ rest) rest at in
              let more = closed_append g before (Close f n ∷ []) in
              omega (arith, was, move, more);
        },
      )

  -- so are all, and then nothing comes
  coming_all : (works : ℕ → X → O → Type 0) (items : List (List X)) (lists : List (List (Event O))) (before es : List (Event O)) → IsMerge lists es → Coming works items lists before
      → AcceptedAfter (length items) before es × ((ended : List (List (Event O))) × AreEmpty ended × Coming works items ended (before ++ es))
  coming_all works items lists before [] m c = (tt, (lists, m, subst (λ l. Coming works items lists l) (sym (append-nil before)) c))
  coming_all works items lists before (e ∷ es) (i, rest, at, m) c =
      let step = coming_step works items lists before i e rest c at in
      let all = coming_all works items (set lists i rest) (before ++ e ∷ []) es m step.1 in
      ((step.0, all.0), (all.1.0, all.1.1, subst (λ l. Coming works items all.1.0 l) (append_assoc before (e ∷ []) es) all.1.2))

  -- in the end everything is due
  coming_due : (works : ℕ → X → O → Type 0) (items : List (List X)) (ended : List (List (Event O))) (events : List (Event O)) → AreEmpty ended → Coming works items ended events
      → Each (IsWorked works) (numbered zero items) (due events (length items))
  coming_due works items ended events none c =
      let books : Books items none_waits events = books_same items (λ f s. total (offered f s) ended) none_waits events (λ f s. sym (total_empty (offered f s) ended refl none)) c.books in
      let settled = books_settle items events books (λ i xs at.
      let was = c.closing i (get_within items i xs at) in
      let gone = total_empty (closed i) ended refl none in
      let close = once_closed i events (omega (arith, was, gone)) in
      let file = books.closes i close.0 close.1 in
      let same : file.0 ≡ xs = let p = file.1 in cc in
      close.1 ∙ ap Some (file.2 ∙ ap length same)) in
      each_worked works (λ f s x. item_at items f s ≡ Some x) (λ f s o. (x : X) × (item_at items f s ≡ Some x) × works f x o)
      (λ f s x o at w. let same : w.0 ≡ x = let p = w.1 in cc in subst (λ z. works f z o) same w.2)
      (numbered zero items) (due events (length items)) settled
      (items_all (λ f s x. item_at items f s ≡ Some x) zero items (λ i s x at. let e : i ≡ zero + i = omega arith in ap (λ n. item_at items n s) (sym e) ∙ at))
      (due_holds (λ f s o. (x : X) × (item_at items f s ≡ Some x) × works f x o) events zero (length items) c.worked)

  each_equal : (work : ℕ → X → O) (es : List (ℕ × ℕ × X)) (log : List (ℕ × ℕ × O)) → Each (IsWorked (λ f x o. o ≡ work f x)) es log → log ≡ map (λ e. (e.0, e.1, work e.0 e.2)) es
  each_equal work [] [] h = refl
  each_equal work [] (r ∷ log) h = absurd h
  each_equal work (e ∷ es) [] h = absurd h
  each_equal work (e ∷ es) (r ∷ log) h =
      ap (λ n. (n, r.1, r.2) ∷ log) h.0.0 ∙ ap (λ n. (e.0, n, r.2) ∷ log) h.0.1 ∙ ap (λ o. (e.0, e.1, o) ∷ log) h.0.2 ∙ ap (λ l. (e.0, e.1, work e.0 e.2) ∷ l) (each_equal work es log h.1)

both_differ : (a b : Bool) → b ≡ false → ◌≡◌ {A = ℕ} (cond (a && b) 1 0) 0
both_differ true b e = ap (λ c. cond {A = ℕ} c 1 0) e
both_differ false b e = refl

-- the counts of the numbered items
module _ {X : Type 0} where
  count_joined : (f s : ℕ) (xs ys : List (ℕ × ℕ × X)) → times f s (numbers (xs ++ ys)) ≡ times f s (numbers xs) + times f s (numbers ys)
  count_joined f s [] ys = omega arith
  count_joined f s (x ∷ xs) ys = let rest = count_joined f s xs ys in omega (arith, rest)

  count_file_below : (g t s : ℕ) (xs : List X) → s < t → times g s (numbers (numbered_file g t xs)) ≡ 0
  count_file_below g t s [] lt = refl
  count_file_below g t s (x ∷ xs) lt =
      let here : one_if g s g t ≡ 0 = both_differ (g == g) (t == s) (ne_eqb t s (λ same. omega (arith, same, lt))) in
      let rest = count_file_below g (suc t) s xs (omega arith) in
      omega (arith, here, rest)

  count_file : (g t s k : ℕ) (xs : List X) → s ≡ t + k → times g s (numbers (numbered_file g t xs)) ≡ cond (is_some (slice_get xs k)) 1 0
  count_file g t s k [] e = refl
  count_file g t s zero (x ∷ xs) e =
      let here : one_if g s g t ≡ 1 = let same : s ≡ t = omega arith in ap (λ n. one_if g n g t) same ∙ one_self g t in
      let rest = count_file_below g (suc t) s xs (omega arith) in
      omega (arith, here, rest)
  count_file g t s (suc k) (x ∷ xs) e =
      let other : (t == s) ≡ false = ne_eqb t s (λ same. omega (arith, same, e)) in
      let here : one_if g s g t ≡ 0 = both_differ (g == g) (t == s) other in
      let rest = count_file g (suc t) s k xs (omega arith) in
      omega (arith, here, rest)

  count_other : (f g t s : ℕ) (xs : List X) → (g ≡ f → ⊥) → times f s (numbers (numbered_file g t xs)) ≡ 0
  count_other f g t s [] ne = refl
  count_other f g t s (x ∷ xs) ne =
      let here : one_if f s g t ≡ 0 = ap (λ b. cond {A = ℕ} (b && (t == s)) 1 0) (ne_eqb g f ne) in
      let rest = count_other f g (suc t) s xs ne in
      omega (arith, here, rest)

  count_below : (f g s : ℕ) (items : List (List X)) → f < g → times f s (numbers (numbered g items)) ≡ 0
  count_below f g s [] lt = refl
  count_below f g s (xs ∷ items) lt =
      let joined = count_joined f s (numbered_file g zero xs) (numbered (suc g) items) in
      let here = count_other f g zero s xs (λ e. omega (arith, e, lt)) in
      let rest = count_below f (suc g) s items (omega arith) in
      omega (arith, joined, here, rest)

  count_items : (f g h s : ℕ) (items : List (List X)) → h ≡ g + f → times h s (numbers (numbered g items)) ≡ given items f s
  count_items f g h s [] e = refl
  count_items zero g h s (xs ∷ items) e =
      let joined = count_joined h s (numbered_file g zero xs) (numbered (suc g) items) in
      let same : h ≡ g = omega arith in
      let here : times h s (numbers (numbered_file g zero xs)) ≡ cond (is_some (slice_get xs s)) 1 0 =
      ap (λ n. times n s (numbers (numbered_file g zero xs))) same ∙ count_file g zero s s xs (omega arith) in
      let rest = count_below h (suc g) s items (omega arith) in
      omega (arith, joined, here, rest)
  count_items (suc f) g h s (xs ∷ items) e =
      let joined = count_joined h s (numbered_file g zero xs) (numbered (suc g) items) in
      let here = count_other h g zero s xs (λ same. omega (arith, same, e)) in
      let rest = count_items f (suc g) h s items (omega arith) in
      omega (arith, joined, here, rest)

  count_sum : (f s : ℕ) (es : List (ℕ × ℕ × X)) → times f s (numbers es) ≡ sum_by (λ e. one_if f s e.0 e.1) es
  count_sum f s [] = refl
  count_sum f s (e ∷ es) = let rest = count_sum f s es in let more = sum_by-cons (λ (d : ℕ × ℕ × X). one_if f s d.0 d.1) e es in omega (arith, rest, more)

  count_dealt : (f s : ℕ) (items : List (List X)) (dealt : List (ℕ × ℕ × X)) → IsPermutation (numbered zero items) dealt → times f s (numbers dealt) ≡ given items f s
  count_dealt f s items dealt p =
      count_sum f s dealt ∙ sum_by-IsPermutation (λ (e : ℕ × ℕ × X). one_if f s e.0 e.1) (numbered zero items) dealt p ∙ sym (count_sum f s (numbered zero items)) ∙ count_items f zero f s items (omega arith)

  abbrev IsItem : List (List X) → (ℕ × ℕ × X) → Type 0
  IsItem items e = item_at items e.0 e.1 ≡ Some e.2

  all_cons : (items : List (List X)) (e : ℕ × ℕ × X) (es : List (ℕ × ℕ × X)) → IsItem items e → All (IsItem items) es → All (IsItem items) (e ∷ es)
  all_cons items e es h k zero d lt = h
  all_cons items e es h k (suc i) d lt = k i d (omega arith)

  all_items : (items : List (List X)) (es : List (ℕ × ℕ × X)) → AllNumbered (λ f s x. item_at items f s ≡ Some x) es → All (IsItem items) es
  all_items items [] h k d lt = absurd (omega arith)
  all_items items (e ∷ es) h zero d lt = h.0
  all_items items (e ∷ es) h (suc k) d lt = all_items items es h.1 k d (omega arith)

  items_dealt : (items : List (List X)) (dealt : List (ℕ × ℕ × X)) → IsPermutation (numbered zero items) dealt → All (IsItem items) dealt
  items_dealt items dealt p =
      All-permutation (IsItem items) (numbered zero items) dealt p (all_items items (numbered zero items)
      (items_all (λ f s x. item_at items f s ≡ Some x) zero items (λ i s x at. let e : i ≡ zero + i = omega arith in ap (λ n. item_at items n s) (sym e) ∙ at)))

  closes_offer : (O : Type 0) (f s g : ℕ) (items : List (List X)) → total (offered {O = O} f s) (closes_from g items) ≡ 0
  closes_offer O f s g [] = refl
  closes_offer O f s g (xs ∷ items) = let rest = closes_offer O f s (suc g) items in omega (arith, rest)

  closes_below : (O : Type 0) (f g : ℕ) (items : List (List X)) → f < g → total (closed {O = O} f) (closes_from g items) ≡ 0
  closes_below O f g [] lt = refl
  closes_below O f g (xs ∷ items) lt =
      let here : ◌≡◌ {A = ℕ} (cond (g == f) 1 0) 0 = ap (λ b. cond {A = ℕ} b 1 0) (ne_eqb g f (λ e. omega (arith, e, lt))) in
      let rest = closes_below O f (suc g) items (omega arith) in
      omega (arith, here, rest)

  closes_count : (O : Type 0) (f g h : ℕ) (items : List (List X)) → h ≡ g + f → f < length items → total (closed {O = O} h) (closes_from g items) ≡ 1
  closes_count O f g h [] e lt = absurd (omega arith)
  closes_count O zero g h (xs ∷ items) e lt =
      let same : g ≡ h = omega arith in
      let here : ◌≡◌ {A = ℕ} (cond (g == h) 1 0) 1 = ap (λ b. cond {A = ℕ} b 1 0) (eq-eqb g h same) in
      let rest = closes_below O h (suc g) items (omega arith) in
      omega (arith, here, rest)
  closes_count O (suc f) g h (xs ∷ items) e lt =
      let here : ◌≡◌ {A = ℕ} (cond (g == h) 1 0) 0 = ap (λ b. cond {A = ℕ} b 1 0) (ne_eqb g h (λ same. omega (arith, same, e))) in
      let rest = closes_count O f (suc g) h items (omega arith) (omega arith) in
      omega (arith, here, rest)

  all_front : (items : List (List X)) (xs ys : List (ℕ × ℕ × X)) → All (IsItem items) (xs ++ ys) → All (IsItem items) xs × All (IsItem items) ys
  all_front items [] ys h = ((λ k d lt. absurd (omega arith)), h)
  all_front items (x ∷ xs) ys h =
      let rest = all_front items xs ys (λ k d lt. h (suc k) d (omega arith)) in (all_cons items x xs (h zero x (omega arith)) rest.0, rest.1)

module _ {X O : Type 0} where
  offers_count : (work : ℕ → X → O) (f s : ℕ) (es : List (ℕ × ℕ × X)) → offered f s (offers_for work es) ≡ times f s (numbers es)
  offers_count work f s [] = refl
  offers_count work f s (e ∷ es) = let rest = offers_count work f s es in omega (arith, rest)

  workers_count : (work : ℕ → X → O) (f s : ℕ) (workers : List (List (ℕ × ℕ × X))) → total (offered f s) (map (offers_for work) workers) ≡ times f s (numbers (flat_map (λ w. w) workers))
  workers_count work f s [] = refl
  workers_count work f s (w ∷ workers) =
      let here = offers_count work f s w in
      let rest = workers_count work f s workers in
      let joined = count_joined f s w (flat_map (λ v. v) workers) in
      omega (arith, here, rest, joined)

  offers_closed : (work : ℕ → X → O) (f : ℕ) (es : List (ℕ × ℕ × X)) → closed f (offers_for work es) ≡ 0
  offers_closed work f [] = refl
  offers_closed work f (e ∷ es) = offers_closed work f es

  workers_closed : (work : ℕ → X → O) (f : ℕ) (workers : List (List (ℕ × ℕ × X))) → total (closed f) (map (offers_for work) workers) ≡ 0
  workers_closed work f [] = refl
  workers_closed work f (w ∷ workers) = let here = offers_closed work f w in let rest = workers_closed work f workers in omega (arith, here, rest)

  offers_fit : (work : ℕ → X → O) (items : List (List X)) (es : List (ℕ × ℕ × X)) → All (IsItem items) es → AllIn (EventFits (λ f x o. o ≡ work f x) items) (offers_for work es)
  offers_fit work items [] h = tt
  offers_fit work items (e ∷ es) h = ((e.2, h zero e (omega arith), refl), offers_fit work items es (λ k d lt. h (suc k) d (omega arith)))

  workers_fit : (work : ℕ → X → O) (items : List (List X)) (workers : List (List (ℕ × ℕ × X))) → All (IsItem items) (flat_map (λ w. w) workers)
      → AllLists (EventFits (λ f x o. o ≡ work f x) items) (map (offers_for work) workers)
  workers_fit work items [] h = tt
  workers_fit work items (w ∷ workers) h = let both = all_front items w (flat_map (λ v. v) workers) h in (offers_fit work items w both.0, workers_fit work items workers both.1)

  closes_fit : (works : ℕ → X → O → Type 0) (items : List (List X)) (g : ℕ) (tail : List (List X)) → ((k : ℕ) (xs : List X) → slice_get tail k ≡ Some xs → slice_get items (g + k) ≡ Some xs)
      → AllLists (EventFits works items) (closes_from g tail)
  closes_fit works items g [] h = tt
  closes_fit works items g (xs ∷ tail) h =
      let here : g + zero ≡ g = omega arith in (
        ((xs, subst (λ n. slice_get items n ≡ Some xs) here (h zero xs refl), refl), tt),
        closes_fit works items (suc g) tail (λ k ys at. let e : g + suc k ≡ suc g + k = omega arith in subst (λ n. slice_get items n ≡ Some ys) e (h (suc k) ys at)),
      )

  -- the law
  pub schedules_settle : (work : ℕ → X → O) (items : List (List X)) (workers : List (List (ℕ × ℕ × X))) (events : List (Event O))
      → IsSchedule work items workers events → Accepted (length items) events × (refused_of (length items) 0 [] events ≡ []) × (due events (length items) ≡ worked_items work items)
  schedules_settle work items workers events s =
      let works : ℕ → X → O → Type 0 = λ f x o. o ≡ work f x in
      let dealt = flat_map (λ w. w) workers in
      let lists : List (List (Event O)) = map (offers_for work) workers ++ closes_from zero items in
      let start : Coming works items lists [] = record {
        books = record {
          balanced = λ f s'.
              let both = total_append (offered f s') (map (offers_for work) workers) (closes_from zero items) in
              let offers = workers_count work f s' workers in
              let none = closes_offer O f s' zero items in
              let all = count_dealt f s' items dealt s.dealt in
              omega (arith, both, offers, none, all);
          closes = λ f n e. let bad : ⊥ = cc in absurd bad;
        };
        worked = λ f s' o e. let bad : ⊥ = cc in absurd bad;
        fits = all_lists_append (EventFits works items) (map (offers_for work) workers) (closes_from zero items)
            (workers_fit work items workers (items_dealt items dealt s.dealt))
            (closes_fit works items zero items (λ k xs at. let e : zero + k ≡ k = omega arith in subst (λ n. slice_get items n ≡ Some xs) (sym e) at));
        closing = λ f lt.
            let both = total_append (closed f) (map (offers_for work) workers) (closes_from zero items) in
            let none = workers_closed work f workers in
            let one = closes_count O f zero f items (omega arith) lt in
            omega (arith, both, none, one);
      } in
      let all = coming_all works items lists [] events s.merged start in
      (all.0, none_refused (length items) 0 [] events all.0 s.near, each_equal work (numbered zero items) (due events (length items)) (coming_due works items all.1.0 events all.1.1 all.1.2))
