-- Names and kinds that a grouping judges, as its code has them and as its definition has.
use Rattle.std.proofs.Common.{◌≡◌, ◌+◌, ◌∙◌, List, String, Global, map, length, string_bytes, sym, ap, length-append}
use Rattle.std.proofs.lemmas.List.{length-map}
use Rattle.fq_column.specs.Frame.{Field, Fields, Name}
use Rattle.fq_column.specs.Schema.{kind_named}
use Rattle.fq_ops.specs.declared.aggregates.Agg.{Agg}
use Rattle.fq_ops.specs.Aggregate.{Output}
use Rattle.fq_ops.specs.AggregateData.{aggregate_of, outputs_of}
use Rattle.fq_ops.specs.Fields.{Judged}
use Rattle.fq_ops.specs.Group.{aggregate_kind, grouped_fields, grouped_names}
use Rattle.fq_ops.proofs.RefusalLemmas.{map-map, names-grouped}

module _ (fields : Fields) where
  by_name : Name → Judged
  by_name n = (n, kind_named fields n)

  by_output : Output → Judged
  by_output o = (o.0, aggregate_kind fields o.1)

  pub keys-judged : (keys : List (String Global)) → map {B = Judged} (λ k. (string_bytes k, kind_named fields (string_bytes k))) keys ≡ map {B = Judged} (λ n. (n, kind_named fields n)) (map string_bytes keys)
  unfolding by_name
  keys-judged keys = sym (map-map by_name string_bytes keys)

  pub aggregates-judged : (aggs : List Agg) → map {B = Judged} (λ a. (string_bytes a.name, aggregate_kind fields (aggregate_of a.what))) aggs ≡ map {B = Judged} (λ o. (o.0, aggregate_kind fields o.1)) (outputs_of aggs)
  unfolding by_output
  aggregates-judged aggs = let output : Agg → Output = λ a. (string_bytes a.name, aggregate_of a.what) in sym (map-map by_output output aggs)

  module _ (keys : List (String Global)) (aggs : List Agg) where
    -- how many columns there are
    pub names-width : length (grouped_names (map string_bytes keys) (outputs_of aggs)) ≡ length keys + length aggs
    names-width =
        length-append (map string_bytes keys) (map (λ (o : Output). o.0) (outputs_of aggs))
        ∙ (λ i. length-map keys string_bytes i + (length-map (outputs_of aggs) (λ (o : Output). o.0) ∙ length-map aggs (λ (a : Agg). (string_bytes a.name, aggregate_of a.what))) i)

    pub fields-width : length (grouped_fields fields (map string_bytes keys) (outputs_of aggs)) ≡ length keys + length aggs
    fields-width =
        sym (length-map (grouped_fields fields (map string_bytes keys) (outputs_of aggs)) (λ (f : Field). f.0))
        ∙ ap length (names-grouped fields (map string_bytes keys) (outputs_of aggs)) ∙ names-width
