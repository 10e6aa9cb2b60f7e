-- One more event is accepted.
use Rattle.std.proofs.Common.{◌≡◌, ◌≤◌, ◌<◌, ℕ, zero, suc, ◌+◌, List, [], ◌∷◌, ◌++◌, length, set, refl, sym, subst, ap, ◌∙◌, arith, Some, None, true, false, cond, append_assoc, Result, Ok, Err}
use Rattle.std.specs.List.{slice_get}
use Rattle.std.specs.Result.{MatchResult}
use Rattle.std.proofs.Math.ListN.{length-set}
use Rattle.std.proofs.lemmas.Bool.{lt-ltb}
use Rattle.std.proofs.lemmas.List.{append-nil}
use Rattle.fq_lanes.specs.Due.{due, is_closed_at, offer_at, offer_count, handed_count}
use Rattle.fq_lanes.specs.Refusals.{refusal, refusal_at, offer_refusal_at, close_refusal, event_refusal, event_refusal_at, file_of, AcceptedAfter, Accepted}
use Rattle.fq_lanes.specs.FileState.{FileFollows}
use Rattle.fq_lanes.specs.Slots.{found_in, held_in}
use Rattle.fq_lanes.specs.Sink.{Fresh, Staged, SinkFacts}
use Rattle.fq_lanes.proofs.FileLemmas.{keeps_other}
use Rattle.fq_lanes.proofs.SlotLemmas.{no_window}
use Rattle.fq_lanes.proofs.StagingLemmas.{staged_get, staged_set, staged_next, staged_pass, taken_set, fresh_staged, fresh_taken, due_next, due_stuck, due_ended, handed_is}
use Rattle.fq_lanes.specs.declared.events.Why.{Why}
use Rattle.fq_lanes.specs.declared.events.Why.TheVariants.{Stranger}
use Rattle.fq_lanes.specs.declared.events.Event.{Event}
use Rattle.fq_lanes.specs.declared.events.Event.TheVariants.{Offer, Close}
use Rattle.fq_lanes.specs.declared.file_state.FileState.{FileState}

module _ {T : Type 0} where
  pub refusal_within : (files : ℕ) (es : List (Event T)) (e : Event T) → file_of e < files → refusal files es e ≡ event_refusal es e
  refusal_within files es e lt = ap (λ b. cond b (event_refusal es e) (Some Stranger)) (lt-ltb (file_of e) files lt)

  pub accepted_more : (files : ℕ) (before es : List (Event T)) (e : Event T) → AcceptedAfter files before es → refusal files (before ++ es) e ≡ None → AcceptedAfter files before (es ++ e ∷ [])
  accepted_more files before [] e h k = (subst (λ l. refusal files l e ≡ None) (append-nil before) k, tt)
  accepted_more files before (d ∷ es) e h k = (h.0, accepted_more files (before ++ d ∷ []) es e h.1 (subst (λ l. refusal files l e ≡ None) (sym (append_assoc before (d ∷ []) es)) k))

  file_other : (es : List (Event T)) (e : Event T) (f h : ℕ) (y : FileState T) → file_of e ≡ f → (h ≡ f → ⊥) → FileFollows y es h → FileFollows y (es ++ e ∷ []) h
  file_other es e f h y is ne k = keeps_other (found_in y.slots.items y.taken) (held_in y.slots.items) y.taken y.top y.closed es h e k (λ same. ne (sym same ∙ is))

  -- a file accepts an event
  pub stands_event : (files : List (FileState T)) (at : ℕ) (es : List (Event T)) (t f : ℕ) (x x' : FileState T) (e : Event T) → SinkFacts files at es t → slice_get files f ≡ Some x → f < length files
      → file_of e ≡ f → event_refusal es e ≡ None → FileFollows x' (es ++ e ∷ []) f → x'.taken ≡ x.taken → ((n : ℕ) → x.closed ≡ Some n → x'.closed ≡ Some n)
      → (refusal (length files) es e ≡ None) × SinkFacts (set files f x') at (es ++ e ∷ []) t
  stands_event files at es t f x x' e s got lt is free new same kept =
      let within : refusal (length files) es e ≡ None = refusal_within (length files) es e (subst (λ n. n < length files) (sym is) lt) ∙ free in
      let total = taken_set files f x x' got in
      let size : length (set files f x') ≡ length files = length-set files f x' in
      let more : Accepted (length files) (es ++ e ∷ []) = accepted_more (length files) [] es e s.accepted within in (
        within,
        record {
          accepted = subst (λ n. Accepted n (es ++ e ∷ [])) (sym size) more;
          staged = staged_set at files es (es ++ e ∷ []) zero f f x x' s.staged got (omega arith) new same kept (λ h y ne k. file_other es e f h y is ne k);
          total = omega (arith, total, same, s.total);
        },
      )

  -- a file refuses an event
  pub stands_refused : (files : List (FileState T)) (at : ℕ) (es : List (Event T)) (t f : ℕ) (x x' : FileState T) → SinkFacts files at es t → slice_get files f ≡ Some x
      → FileFollows x' es f → x'.taken ≡ x.taken → ((n : ℕ) → x.closed ≡ Some n → x'.closed ≡ Some n) → SinkFacts (set files f x') at es t
  stands_refused files at es t f x x' s got new same kept =
      let total = taken_set files f x x' got in
      record {
        accepted = subst (λ n. Accepted n es) (sym (length-set files f x')) s.accepted;
        staged = staged_set at files es es zero f f x x' s.staged got (omega arith) new same kept (λ h y ne k. k);
        total = omega (arith, total, same, s.total);
      }

  -- the next file hands out d items
  pub stands_next : (files : List (FileState T)) (at : ℕ) (es : List (Event T)) (t d : ℕ) (x x' : FileState T) → SinkFacts files at es t → slice_get files at ≡ Some x
      → FileFollows x' es at → x'.taken ≡ x.taken + d → SinkFacts (set files at x') at es (t + d)
  stands_next files at es t d x x' s got new more =
      let total = taken_set files at x x' got in
      record {
        accepted = subst (λ n. Accepted n es) (sym (length-set files at x')) s.accepted;
        staged = staged_next at files es zero at x x' s.staged got (omega arith) new;
        total = omega (arith, total, more, s.total);
      }

  pub stands_pass : (files : List (FileState T)) (at : ℕ) (es : List (Event T)) (t : ℕ) (x : FileState T) → SinkFacts files at es t → slice_get files at ≡ Some x
      → is_closed_at x.closed x.taken ≡ true → SinkFacts files (at + 1) es t
  stands_pass files at es t x s got done =
      let next : suc at ≡ at + 1 = omega arith in
      record { accepted = s.accepted; staged = subst (λ n. Staged n files es zero) next (staged_pass at files es zero x s.staged got done); total = s.total }

  pub stands_new : (files : List (FileState T)) → Fresh files [] zero → SinkFacts files zero [] zero
  stands_new files h = record { accepted = tt; staged = fresh_staged files [] zero h; total = sym (fresh_taken files [] zero h) }

  pub refusal_at_within : (files : ℕ) (es : List (Event T)) (t : ℕ) (e : Event T) → file_of e < files → refusal_at files es t e ≡ event_refusal_at files es t e
  refusal_at_within files es t e lt = ap (λ b. cond b (event_refusal_at files es t e) (Some Stranger)) (lt-ltb (file_of e) files lt)

  -- how many items of a file were handed out
  pub taken_is : (files : List (FileState T)) (at : ℕ) (es : List (Event T)) (t f : ℕ) (x : FileState T) → SinkFacts files at es t → slice_get files f ≡ Some x
      → handed_count f t (due es (length files)) ≡ x.taken
  taken_is files at es t f x s got = ap (λ n. handed_count f n (due es (length files))) s.total ∙ handed_is at files es zero f f x s.staged got (omega arith)

  -- the sink's answer, by that of a file
  pub offer_answer : (files : List (FileState T)) (at : ℕ) (es : List (Event T)) (t f s : ℕ) (x x' : FileState T) (item : T) (r : Result (Unit {0}) (Why × T)) → SinkFacts files at es t → slice_get files f ≡ Some x → f < length files
      → x'.taken ≡ x.taken → x'.closed ≡ x.closed
      → MatchResult r (λ _. (offer_refusal_at es f s x.taken ≡ None) × FileFollows x' (es ++ Offer f s item ∷ []) f) (λ e. (offer_refusal_at es f s x.taken ≡ Some e.0) × (e.1 ≡ item) × FileFollows x' es f)
      → MatchResult r (λ _. (refusal_at (length files) es t (Offer f s item) ≡ None) × SinkFacts (set files f x') at (es ++ Offer f s item ∷ []) t)
      (λ e. (refusal_at (length files) es t (Offer f s item) ≡ Some e.0) × (e.1 ≡ item) × SinkFacts (set files f x') at es t)
  offer_answer files at es t f s x x' item (Ok _) h got lt same kept m =
      let taken = taken_is files at es t f x h got in (
        refusal_at_within (length files) es t (Offer f s item) lt ∙ ap (offer_refusal_at es f s) taken ∙ m.0,
        (stands_event files at es t f x x' (Offer f s item) h got lt refl (no_window es f s x.taken m.0) m.1 same (λ n e. kept ∙ e)).1,
      )
  offer_answer files at es t f s x x' item (Err e) h got lt same kept m =
      let taken = taken_is files at es t f x h got in
      (refusal_at_within (length files) es t (Offer f s item) lt ∙ ap (offer_refusal_at es f s) taken ∙ m.0, m.1, stands_refused files at es t f x x' h got m.2 same (λ n e. kept ∙ e))

  pub close_answer : (files : List (FileState T)) (at : ℕ) (es : List (Event T)) (t f n : ℕ) (x x' : FileState T) (r : Result (Unit {0}) Why) → SinkFacts files at es t → slice_get files f ≡ Some x → f < length files
      → x'.taken ≡ x.taken → ((m : ℕ) → x.closed ≡ Some m → x'.closed ≡ Some m)
      → MatchResult r (λ _. (close_refusal es f n ≡ None) × FileFollows x' (es ++ Close f n ∷ []) f) (λ e. (close_refusal es f n ≡ Some e) × FileFollows x' es f)
      → MatchResult r (λ _. (refusal_at (length files) es t (Close f n) ≡ None) × SinkFacts (set files f x') at (es ++ Close f n ∷ []) t)
      (λ e. (refusal_at (length files) es t (Close f n) ≡ Some e) × SinkFacts (set files f x') at es t)
  close_answer files at es t f n x x' (Ok _) h got lt same kept m = stands_event files at es t f x x' (Close f n) h got lt refl m.0 m.1 same kept
  close_answer files at es t f n x x' (Err e) h got lt same kept m =
      (refusal_at_within (length files) es t (Close f n) lt ∙ m.0, stands_refused files at es t f x x' h got m.1 same kept)

  pub file_at : (files : List (FileState T)) (at : ℕ) (es : List (Event T)) (t f : ℕ) (x : FileState T) → SinkFacts files at es t → slice_get files f ≡ Some x → FileFollows x es f
  file_at files at es t f x s got = staged_get at files es zero f f x s.staged got (omega arith)

  -- the next item, by that of the next file
  pub next_given : (files : List (FileState T)) (at : ℕ) (es : List (Event T)) (t n r : ℕ) (x x' : FileState T) (y : T) → n ≡ length files → r ≡ x.taken → SinkFacts files at es t → slice_get files at ≡ Some x
      → FileFollows x' es at → x'.taken ≡ x.taken + 1 → offer_at es at x.taken ≡ Some y → x.taken < offer_count es at
      → (slice_get (due es n) t ≡ Some (at, r, y)) × SinkFacts (set files at x') at es (t + 1)
  next_given files at es t n r x x' y size serial s got new more o lt = (
    ap (λ m. slice_get (due es m) t) size ∙ ap (slice_get (due es (length files))) s.total ∙ due_next at files es zero at x y s.staged got (omega arith) o lt ∙ ap (λ q. Some (at, q, y)) (sym serial),
    stands_next files at es t 1 x x' s got new more,
  )

  pub next_stuck : (files : List (FileState T)) (at : ℕ) (es : List (Event T)) (t n : ℕ) (x x' : FileState T) → n ≡ length files → SinkFacts files at es t → slice_get files at ≡ Some x
      → FileFollows x' es at → x'.taken ≡ x.taken → offer_at es at x.taken ≡ None → is_closed_at x.closed x.taken ≡ false
      → (t ≡ length (due es n)) × SinkFacts (set files at x') at es t
  next_stuck files at es t n x x' size s got new same o c =
      let z : t + 0 ≡ t = omega arith in (
        s.total ∙ due_stuck at files es zero at x s.staged got (omega arith) o c ∙ ap (λ m. length (due es m)) (sym size),
        subst (λ m. SinkFacts (set files at x') at es m) z (stands_next files at es t 0 x x' s got new (omega (arith, same))),
      )

  pub next_ended : (files : List (FileState T)) (at : ℕ) (es : List (Event T)) (t n : ℕ) → n ≡ length files → SinkFacts files at es t → length files ≤ at → t ≡ length (due es n)
  next_ended files at es t n size s le = s.total ∙ due_ended at files es zero s.staged le ∙ ap (λ m. length (due es m)) (sym size)

  pub held_is : (files : List (FileState T)) (at : ℕ) (es : List (Event T)) (t f : ℕ) (x : FileState T) → SinkFacts files at es t → slice_get files f ≡ Some x
      → held_in x.slots.items + handed_count f t (due es (length files)) ≡ offer_count es f
  held_is files at es t f x s got =
      let k = staged_get at files es zero f f x s.staged got (omega arith) in
      let taken = ap (λ n. handed_count f n (due es (length files))) s.total ∙ handed_is at files es zero f f x s.staged got (omega arith) in
      omega (arith, k.number, taken)
