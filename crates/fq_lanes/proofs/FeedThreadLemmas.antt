-- Lemmas on what a feed's thread puts.
use Rattle.std.proofs.Common.{◌≡◌, List, [], ◌∷◌, ◌++◌, map, ap, sym, subst, ◌∙◌, append_assoc}
use Rattle.std.proofs.lemmas.List.{map-append}
use Rattle.fq_lanes.specs.FeedThread.{Leads}
use Rattle.fq_lanes.specs.declared.messages.FromFeed.{FromFeed}
use Rattle.fq_lanes.specs.declared.messages.FromFeed.TheVariants.{Item}

module _ {F X : Type 0} where
  -- one item more
  pub leads_more : (gives : F → List X → Type 0) (old mid now : F) (xs : List X) (x : X)
      → Leads gives old xs mid → ((ys : List X) → gives now ys → gives mid (x ∷ ys)) → Leads gives old (xs ++ x ∷ []) now
  leads_more gives old mid now xs x led step ys here =
      subst (gives old) (sym (append_assoc xs (x ∷ []) ys)) (led (x ∷ ys) (step ys here))

module _ {X : Type 0} where
  pub told_more : (told more : List (FromFeed X)) (xs : List X) (x : X)
      → told ≡ map Item xs → more ≡ told ++ Item x ∷ [] → more ≡ map Item (xs ++ x ∷ [])
  told_more told more xs x was grown = grown ∙ ap (λ t. t ++ Item x ∷ []) was ∙ sym (map-append Item xs (x ∷ []))
