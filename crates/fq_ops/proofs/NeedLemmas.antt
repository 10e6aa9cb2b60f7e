-- Whether a join, a grouping or a rolling sum needs a column.
use Rattle.std.proofs.Common.{◌≡◌, Bool, not, ◌&&◌, ◌||◌, List, [], ◌∷◌, ◌++◌, refl, ap, sym, ◌∙◌}
use Rattle.std.specs.Prelude.{flat_map}
use Rattle.std.specs.List.{list_any}
use Rattle.fq_column.specs.Frame.{Name, has_name, same_name}
use Rattle.fq_column.proofs.HasNameLemmas.{has_name-append, has_name-kept}
use Rattle.fq_ops.specs.AggregateData.{aggregate_of, outputs_of}
use Rattle.fq_ops.specs.declared.aggregates.Agg.{Agg}
use Rattle.fq_ops.specs.Needed.{names_aggregated, needed_before_roll}

module _ (n : Name) where
  pub in-either : (xs ys : List Name) (a b : Bool) → a ≡ has_name xs n → has_name ys n ≡ b → (a || b) ≡ has_name (xs ++ ys) n
  in-either xs ys a b e f = (λ i. e i || sym f i) ∙ sym (has_name-append xs ys n)

  pub aggregated-by : (aggs : List Agg) → list_any (λ a. has_name (names_aggregated (aggregate_of a.what)) n) aggs ≡ has_name (flat_map (λ o. names_aggregated o.1) (outputs_of aggs)) n
  aggregated-by [] = refl
  aggregated-by (a ∷ aggs) =
      let names = names_aggregated (aggregate_of a.what) in
      ap (λ b. has_name names n || b) (aggregated-by aggs) ∙ sym (has_name-append names (flat_map (λ o. names_aggregated o.1) (outputs_of aggs)) n)

  pub roll-need : (column name : Name) (needed : List Name) (reads after other : Bool) → reads ≡ same_name n column → has_name needed n ≡ after → other ≡ not (same_name name n) →
      (reads || (after && other)) ≡ has_name (needed_before_roll column name needed) n
  roll-need column name needed reads after other r a o =
      (λ i. r i || (sym a i && o i)) ∙ ap (λ b. same_name n column || b) (sym (has_name-kept (λ m. not (same_name name m)) needed n))
