-- Which serials a file's window lets through.
use Rattle.std.proofs.Common.{◌≡◌, ◌<◌, ◌≤◌, ◌+◌, ℕ, zero, suc, List, [], ◌∷◌, ◌++◌, length, refl, sym, subst, ap, ◌∙◌, arith, Option, Some, None, Bool, true, false, cond, nat_lt}
use mathlib.Core.List.{IsPrefix}
use Rattle.fq_lanes.specs.Due.{due, due_from, ready, is_complete, handed_count, due_count}
use Rattle.fq_lanes.specs.Refusals.{refusal, refusal_now, refused_of, offer_refusal, offer_refusal_at, after, refused_one, AcceptedAfter, Accepted}
use Rattle.fq_lanes.specs.FileWindow.{IsNear, AreNear, InWindow}
use Rattle.fq_lanes.proofs.DueLemmas.{due_grows}
use Rattle.fq_lanes.proofs.ReadyLemmas.{handed_ready, handed_other}
use Rattle.fq_lanes.proofs.SlotLemmas.{within_window}
use Rattle.fq_lanes.proofs.StagingLemmas.{handed_later, handed_cond}
use Rattle.fq_lanes.specs.declared.events.Why.{Why}
use Rattle.fq_lanes.specs.declared.events.Why.TheVariants.{Stranger}
use Rattle.fq_lanes.specs.declared.events.Event.{Event}
use Rattle.fq_lanes.specs.declared.events.Event.TheVariants.{Offer, Close}

none_too : (b : Bool) (o o' : Option Why) → cond b o (Some Stranger) ≡ None → (o ≡ None → o' ≡ None) → cond b o' (Some Stranger) ≡ None
none_too true o o' e h = h e
none_too false o o' e h = e

module _ {T : Type 0} where
  -- an offer within the window that no other rule refuses
  pub near_accepted : (files : ℕ) (es : List (Event T)) (f s : ℕ) (x : T) → refusal files es (Offer f s x) ≡ None → IsNear es files f s → refusal_now files es (Offer f s x) ≡ None
  near_accepted files es f s x free near =
      none_too (nat_lt f files) (offer_refusal es f s) (offer_refusal_at es f s (due_count es files f)) free (λ e. within_window es f s (due_count es files f) e near)

  -- over lists joined
  handed_all : (f : ℕ) (xs ys : List (ℕ × ℕ × T)) → handed_count f (length (xs ++ ys)) (xs ++ ys) ≡ handed_count f (length xs) xs + handed_count f (length ys) ys
  handed_all f [] ys = omega arith
  handed_all f (x ∷ xs) ys = let rest = handed_all f xs ys in omega (arith, rest)

  handed_prefix : (f : ℕ) (xs ys : List (ℕ × ℕ × T)) → IsPrefix xs ys → handed_count f (length xs) xs ≤ handed_count f (length ys) ys
  handed_prefix f xs ys (zs, e) =
      let all = handed_all f xs zs in
      let same : handed_count f (length (xs ++ zs)) (xs ++ zs) ≡ handed_count f (length ys) ys = ap (λ l. handed_count f (length l) l) e in
      omega (arith, all, same)

  -- what is due of a file grows with each event that is accepted
  pub due_count_grows : (files : ℕ) (es : List (Event T)) (e : Event T) (f : ℕ) → Accepted files (es ++ e ∷ []) → due_count es files f ≤ due_count (es ++ e ∷ []) files f
  due_count_grows files es e f a = handed_prefix f (due es files) (due (es ++ e ∷ []) files) (due_grows files es (e ∷ []) a)

  pub near_on : (files : ℕ) (es es' : List (Event T)) (ps : List (ℕ × ℕ)) → ((f : ℕ) → due_count es files f ≤ due_count es' files f) → AreNear es files ps → AreNear es' files ps
  near_on files es es' [] more h = tt
  near_on files es es' (p ∷ ps) more h = let le = more p.0 in (omega (arith, le, h.0), near_on files es es' ps more h.1)

  pub near_push : (files : ℕ) (es : List (Event T)) (ps : List (ℕ × ℕ)) (p : ℕ × ℕ) → AreNear es files ps → IsNear es files p.0 p.1 → AreNear es files (ps ++ p ∷ [])
  near_push files es [] p h lt = (lt, tt)
  near_push files es (q ∷ ps) p h lt = (h.0, near_push files es ps p h.1 lt)

  -- if the files before it are complete, all that is ready of a file is due
  pub due_ready : (es : List (Event T)) (g files k f : ℕ) → f ≡ g + k → k < files → ((i : ℕ) → i < k → is_complete es (g + i) ≡ true)
      → handed_count f (length (due_from es g files)) (due_from es g files) ≡ length (ready es f)
  due_ready es g zero k f at lt h = absurd (omega arith)
  due_ready es g (suc files) zero f at lt h =
      let here : f ≡ g = omega arith in
      let rest = cond (is_complete es g) (due_from es (suc g) files) [] in
      let all = handed_all g (ready es g) rest in
      let own = handed_ready es g zero (length es) (length (ready es g)) (omega arith) in
      let none = handed_cond g (length rest) (is_complete es g) (due_from es (suc g) files) (λ u. handed_later es (suc g) files g u (omega arith)) in
      ap (λ n. handed_count n (length (due_from es g (suc files))) (due_from es g (suc files))) here ∙ omega (arith, all, own, none) ∙ ap (λ n. length (ready es n)) (sym here)
  due_ready es g (suc files) (suc k) f at lt h =
      let z : g + zero ≡ g = omega arith in
      let whole : is_complete es g ≡ true = subst (λ n. is_complete es n ≡ true) z (h zero (omega arith)) in
      let all = handed_all f (ready es g) (due_from es (suc g) files) in
      let none = handed_other es g f zero (length es) (length (ready es g)) (λ e. omega (arith, e, at)) in
      let rest = due_ready es (suc g) files k f (omega arith) (omega arith) (λ i lt. let e : g + suc i ≡ suc g + i = omega arith in subst (λ n. is_complete es n ≡ true) e (h (suc i) (omega arith))) in
      ap (λ b. let l = ready es g ++ cond b (due_from es (suc g) files) [] in handed_count f (length l) l) whole ∙ omega (arith, all, none, rest)

  -- if no other rule refuses, and each offer is within its file's window, nothing is refused
  pub none_refused : (files number : ℕ) (before es : List (Event T)) → AcceptedAfter files before es → InWindow files before es → refused_of files number before es ≡ []
  none_refused files number before [] a w = refl
  none_refused files number before (Offer f s x ∷ es) a w =
      let free = near_accepted files before f s x a.0 w.0 in
      ap (λ r. refused_one r number (Offer f s x) ++ refused_of files (suc number) (after r before (Offer f s x)) es) free ∙ none_refused files (suc number) (before ++ Offer f s x ∷ []) es a.1 w.1
  none_refused files number before (Close f n ∷ es) a w =
      ap (λ r. refused_one r number (Close f n) ++ refused_of files (suc number) (after r before (Close f n)) es) a.0 ∙ none_refused files (suc number) (before ++ Close f n ∷ []) es a.1 w
