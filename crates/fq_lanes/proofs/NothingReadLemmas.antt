-- Before anything is read.
use Rattle.std.proofs.Common.{◌≡◌, ◌≤◌, ℕ, zero, suc, List, [], ◌∷◌, map, length, refl, sym, subst, ap, arith, Some, None, false, cond, inl}
use Rattle.std.specs.List.{slice_get}
use Rattle.std.specs.Option.{is_some}
use Rattle.std.specs.Prelude.{All}
use Rattle.fq_lanes.specs.Due.{due}
use Rattle.fq_lanes.specs.Sink.{HasAccepted, file_count}
use Rattle.fq_lanes.specs.Beside.{Each}
use Rattle.fq_lanes.specs.Numbering.{item_at}
use Rattle.fq_lanes.specs.Engine.{StopsEarly}
use Rattle.fq_lanes.specs.Hub.{HandsOn}
use Rattle.fq_lanes.specs.Inlet.{DrainsOne, opened}
use Rattle.fq_lanes.specs.Ledger.{OffersWorked}
use Rattle.fq_lanes.specs.Round.{InRound}
use Rattle.fq_lanes.proofs.InletLemmas.{gave_none, some_lists}
use Rattle.fq_lanes.specs.declared.hub.Hub.{Hub}
use Rattle.fq_lanes.specs.declared.inlet.Inlet.{Inlet}

pub none_due : (O : Type 0) (files : ℕ) → due {T = O} [] files ≡ []
none_due O zero = refl
none_due O (suc files) = refl

none_read : (X : Type 0) (F : Type 0) (feeds : List F) (f s : ℕ) → item_at {A = X} (map (λ _. []) feeds) f s ≡ None
none_read X F [] f s = refl
none_read X F (feed ∷ feeds) zero s = refl
none_read X F (feed ∷ feeds) (suc f) s = none_read X F feeds f s

module _ {F : Type 0} where
  none_ended : (feeds : List F) (i : ℕ) (n : Inlet F) → slice_get (map opened feeds) i ≡ Some n → n.ended ≡ false
  none_ended [] i n e = let bad : ⊥ = cc in absurd bad
  none_ended (feed ∷ feeds) zero n e = let same : opened feed ≡ n = cc in ap (λ m. m.ended) (sym same)
  none_ended (feed ∷ feeds) (suc i) n e = none_ended feeds i n e

  -- what is not ended may be drained
  pub drains_open : (is_open may_fail : F → Type 0) (feeds : List F) (ns : List (Inlet F)) → Each (DrainsOne is_open may_fail) feeds ns → All (λ n. n.ended ≡ false → is_open n.feed) ns
  drains_open is_open may_fail [] [] h k d lt = absurd (omega arith)
  drains_open is_open may_fail [] (n ∷ ns) h k d lt = absurd h
  drains_open is_open may_fail (f ∷ feeds) [] h k d lt = absurd h
  drains_open is_open may_fail (f ∷ feeds) (n ∷ ns) h zero d lt = λ going. (h.0 going).0
  drains_open is_open may_fail (f ∷ feeds) (n ∷ ns) h (suc k) d lt = drains_open is_open may_fail feeds ns h.1 k d (omega arith)

module _ {X O : Type 0} where
  pub no_offers : (works : ℕ → X → O → Type 0) (items : List (List X)) → OffersWorked works items []
  no_offers works items f s o e = let bad : ⊥ = cc in absurd bad

module _ {F X S O : Type 0} where
  -- the first round
  pub begins : (gives : F → List X → Type 0) (is_open may_fail : F → Type 0) (most : F → ℕ) (takes : S → ℕ → ℕ → O → S → Type 0) (feeds : List F) (ns : List (Inlet F)) (hub : Hub S O)
      → ((f : F) → is_open f → most f ≤ 2147483648) → All is_open feeds → ns ≡ map opened feeds → HasAccepted hub.sink [] 0 → file_count hub.sink ≡ length feeds → hub.trace.items ≡ []
      → InRound gives is_open may_fail most takes feeds hub.tail (map (λ _. []) feeds) [] ns hub []
  begins gives is_open may_fail most takes feeds ns hub few opens is accepted files trace =
      let none : due {T = O} [] (file_count hub.sink) ≡ [] = none_due O (file_count hub.sink) in
      let handed : HandsOn takes hub.tail [] [] hub = record { accepted = accepted; begins = (due [] (file_count hub.sink), refl); took = refl; traced = trace } in
      subst (λ l. InRound gives is_open may_fail most takes feeds hub.tail (map (λ _. []) feeds) [] l hub []) (sym is) (record {
        gave = gave_none gives is_open may_fail most feeds few opens;
        books = record {
          balanced = λ f s. sym (ap (λ o. cond {A = ℕ} (is_some o) 1 0) (none_read X F feeds f s));
          closes = λ f n e. let bad : ⊥ = cc in absurd bad;
        };
        closed = λ i n e. sym (ap (λ b. cond b (Some n.items) None) (none_ended feeds i n e));
        handed = subst (λ l. HandsOn takes hub.tail [] l hub) (sym none) handed;
        files = files;
        waits = tt;
        near = tt;
      })

  -- nothing was taken
  pub stops_at_once : (gives : F → List X → Type 0) (works : ℕ → X → O → Type 0) (takes : S → ℕ → ℕ → O → S → Type 0) (refuses : S → S → Type 0) (feeds : List F) (tail : S)
      → ((f : F) → (xs : List X) × gives f xs) → StopsEarly gives works takes refuses feeds tail tail
  stops_at_once gives works takes refuses feeds tail some = let all = some_lists gives feeds some in (all.0, all.1, ([], tt, inl refl))
