-- The fault that takes precedence: it names a feed that may fail, and is as first as each of those that it was chosen of.
use Rattle.std.proofs.Common.{◌≡◌, ℕ, List, refl, sym, subst, arith, Option, Some, None, IfSome, min, inl, inr}
use Rattle.std.specs.List.{slice_get}
use Rattle.std.proofs.lemmas.Bool.{cases_lt}
use Rattle.fq_lanes.specs.Engine.{BlamesFeed}
use Rattle.fq_lanes.specs.Faults.{Precedes, fault_at, first_of}
use Rattle.fq_lanes.specs.declared.faults.FeedFault.{FeedFault}
use Rattle.fq_lanes.specs.declared.faults.FeedFault.TheVariants as feed_fault
use Rattle.fq_lanes.specs.declared.faults.RunFault.{RunFault}
use Rattle.fq_lanes.specs.declared.faults.RunFault.TheVariants.{Memory, Read}

module _ {F : Type 0} where
  -- the feed ended with a fault
  pub fault_blames : (may_fail : F → Type 0) (feeds : List F) (f : ℕ) (feed : F) (fault : FeedFault) → slice_get feeds f ≡ Some feed
      → (fault ≡ feed_fault.Read → may_fail feed) → BlamesFeed may_fail feeds (fault_at fault f)
  fault_blames may_fail feeds f feed feed_fault.Read at fails = (feed, at, fails refl)
  fault_blames may_fail feeds f feed feed_fault.Memory at fails = tt

  -- of two faults, the one that takes precedence is one of them, or `Memory`
  pub first_blames : (may_fail : F → Type 0) (feeds : List F) (first : RunFault) (other : Option FeedFault) (f : ℕ) (feed : F) (P Q : Type 0) → slice_get feeds f ≡ Some feed
      → (P → Q → may_fail feed) → IfSome other (λ e. P × (e ≡ feed_fault.Read → Q)) → BlamesFeed may_fail feeds first → BlamesFeed may_fail feeds (first_of first other f)
  first_blames may_fail feeds first None f feed P Q at fails h b = b
  first_blames may_fail feeds Memory (Some e) f feed P Q at fails h b = tt
  first_blames may_fail feeds (Read g) (Some feed_fault.Memory) f feed P Q at fails h b = tt
  first_blames may_fail feeds (Read g) (Some feed_fault.Read) f feed P Q at fails h b =
      elim (cases_lt g f) [
        | inl lt ↦ let is : min g f ≡ g = omega (arith, lt) in subst (λ n. BlamesFeed may_fail feeds (Read n)) (sym is) b
        | inr le ↦ let is : min g f ≡ f = omega (arith, le) in subst (λ n. BlamesFeed may_fail feeds (Read n)) (sym is) (feed, at, fails h.0 (h.1 refl))
      ]

pub precedes_itself : (a : RunFault) → Precedes a a
precedes_itself Memory = tt
precedes_itself (Read f) = omega arith

pub precedes_then : (a b c : RunFault) → Precedes a b → Precedes b c → Precedes a c
precedes_then Memory b c p q = tt
precedes_then (Read f) Memory c p q = absurd p
precedes_then (Read f) (Read g) Memory p q = absurd q
precedes_then (Read f) (Read g) (Read h) p q = omega (arith, p, q)

-- of two faults, the one that is answered takes precedence over both
pub first_precedes : (first : RunFault) (other : Option FeedFault) (f : ℕ) → Precedes (first_of first other f) first
first_precedes first None f = precedes_itself first
first_precedes Memory (Some e) f = tt
first_precedes (Read g) (Some feed_fault.Memory) f = tt
first_precedes (Read g) (Some feed_fault.Read) f = omega arith

pub first_precedes_other : (first : RunFault) (other : Option FeedFault) (f : ℕ) → IfSome other (λ e. Precedes (first_of first other f) (fault_at e f))
first_precedes_other first None f = tt
first_precedes_other Memory (Some e) f = tt
first_precedes_other (Read g) (Some feed_fault.Memory) f = tt
first_precedes_other (Read g) (Some feed_fault.Read) f = omega arith

pub precedes_other_then : (a b : RunFault) (other : Option FeedFault) (f : ℕ) → Precedes a b → IfSome other (λ e. Precedes b (fault_at e f)) → IfSome other (λ e. Precedes a (fault_at e f))
precedes_other_then a b None f p q = tt
precedes_other_then a b (Some e) f p q = precedes_then a b (fault_at e f) p q
