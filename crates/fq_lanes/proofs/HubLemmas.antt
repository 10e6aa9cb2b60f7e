-- The hub hands on what is due.
use Rattle.std.proofs.Common.{◌≡◌, ℕ, ◌+◌, List, [], ◌∷◌, ◌++◌, length, length-append, refl, sym, subst, ap, ◌∙◌, arith, Some, inl}
use Rattle.std.proofs.lemmas.List.{map-append}
use Rattle.std.specs.List.{slice_get}
use mathlib.Core.List.{IsPrefix}
use Rattle.fq_lanes.specs.Due.{due}
use Rattle.fq_lanes.specs.Sink.{HasAccepted, file_count}
use Rattle.fq_lanes.specs.TailTaking.{Took}
use Rattle.fq_lanes.specs.Hub.{HandsOn, HandedOn, HasStopped}
use Rattle.fq_lanes.proofs.BesideLemmas.{prefix_same}
use Rattle.fq_lanes.proofs.DuePrefixLemmas.{prefix_equal}
use Rattle.fq_lanes.proofs.DueLemmas.{due_grows, prefix_push}
use Rattle.fq_lanes.specs.declared.events.Event.{Event}
use Rattle.fq_lanes.specs.declared.hub.Hub.{Hub}

module _ {S O : Type 0} where
  pub took_more : (takes : S → ℕ → ℕ → O → S → Type 0) (a m b : S) (es : List (ℕ × ℕ × O)) (e : ℕ × ℕ × O)
      → Took takes a es m → takes m e.0 e.1 e.2 b → Took takes a (es ++ e ∷ []) b
  took_more takes a m b [] e h k = (b, subst (λ z. takes z e.0 e.1 e.2 b) h k, refl)
  took_more takes a m b (d ∷ es) e h k = (h.0, h.1, took_more takes h.0 m b es e h.2 k)

  -- the tail takes the next item
  pub hands_more : (takes : S → ℕ → ℕ → O → S → Type 0) (first : S) (events : List (Event O)) (log : List (ℕ × ℕ × O)) (hub hub' : Hub S O) (q : ℕ × ℕ × O)
      → HandsOn takes first events log hub → file_count hub'.sink ≡ file_count hub.sink
      → slice_get (due events (file_count hub.sink)) (length log) ≡ Some q → HasAccepted hub'.sink events (length log + 1)
      → hub'.trace.items ≡ hub.trace.items ++ (q.0, q.1) ∷ [] → takes hub.tail q.0 q.1 q.2 hub'.tail
      → HandsOn takes first events (log ++ q ∷ []) hub'
  hands_more takes first events log hub hub' q h files got accepted trace took = record {
    accepted = subst (λ n. HasAccepted hub'.sink events n) (sym (length-append log (q ∷ []))) accepted;
    begins = subst (λ n. IsPrefix (log ++ q ∷ []) (due events n)) (sym files) (prefix_push log (due events (file_count hub.sink)) q h.begins got);
    took = took_more takes first hub.tail hub'.tail log q h.took took;
    traced = trace ∙ ap (λ l. l ++ (q.0, q.1) ∷ []) h.traced ∙ sym (map-append (λ e. (e.0, e.1)) log (q ∷ []));
  }

  -- nothing more is due
  pub hands_all : (takes : S → ℕ → ℕ → O → S → Type 0) (first : S) (events : List (Event O)) (log : List (ℕ × ℕ × O)) (hub hub' : Hub S O)
      → HandsOn takes first events log hub → file_count hub'.sink ≡ file_count hub.sink → hub'.tail ≡ hub.tail → hub'.trace.items ≡ hub.trace.items
      → length log ≡ length (due events (file_count hub.sink)) → HasAccepted hub'.sink events (length log) → HandedOn takes first events hub'
  hands_all takes first events log hub hub' h files tail trace size accepted =
      let same : log ≡ due events (file_count hub'.sink) =
      prefix_equal log (due events (file_count hub.sink)) h.begins (omega (arith, size)) ∙ ap (λ n. due events n) (sym files) in
      subst (λ l. HandsOn takes first events l hub') same (record {
        accepted = accepted;
        begins = subst (λ n. IsPrefix log (due events n)) (sym files) h.begins;
        took = subst (λ s. Took takes first log s) (sym tail) h.took;
        traced = trace ∙ h.traced;
      })

  -- one more event is accepted
  pub hands_told : (takes : S → ℕ → ℕ → O → S → Type 0) (first : S) (events : List (Event O)) (e : Event O) (hub hub' : Hub S O)
      → HandedOn takes first events hub → file_count hub'.sink ≡ file_count hub.sink → hub'.tail ≡ hub.tail → hub'.trace.items ≡ hub.trace.items
      → HasAccepted hub'.sink (events ++ e ∷ []) (length (due events (file_count hub.sink)))
      → HandsOn takes first (events ++ e ∷ []) (due events (file_count hub.sink)) hub'
  hands_told takes first events e hub hub' h files tail trace accepted = record {
    accepted = accepted;
    begins = subst (λ n. IsPrefix (due events n) (due (events ++ e ∷ []) (file_count hub'.sink))) files (due_grows (file_count hub'.sink) events (e ∷ []) accepted.accepted);
    took = subst (λ s. Took takes first (due events (file_count hub.sink)) s) (sym tail) h.took;
    traced = trace ∙ h.traced;
  }

  -- the hub may stop once all that is due was handed on
  pub stops_all : (takes : S → ℕ → ℕ → O → S → Type 0) (refuses : S → S → Type 0) (first : S) (events : List (Event O)) (hub : Hub S O)
      → HandedOn takes first events hub → HasStopped takes refuses first events (file_count hub.sink) hub.tail
  stops_all takes refuses first events hub h = (due events (file_count hub.sink), prefix_same (due events (file_count hub.sink)), inl h.took)
