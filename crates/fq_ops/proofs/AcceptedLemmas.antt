-- What holds of a grouping that is not refused.
use Rattle.std.proofs.Common.{◌≡◌, ℕ, zero, suc, ◌+◌, ◌≤◌, get_or, true, false, List, [], ◌∷◌, ◌++◌, map, length, Option, None, Result, Ok, Err, refl, sym, ap, subst, ◌∙◌, arith}
use Rattle.std.specs.Prelude.{All, IsOk}
use Rattle.std.specs.Bool.{◌==◌}
use Rattle.std.specs.List.{AllPass}
use Rattle.std.specs.Result.{result_unwrap_or}
use Rattle.std.proofs.lemmas.List.{length-append, length-map, map-append}
use Rattle.fq_column.specs.declared.cells.Kind.{Kind}
use Rattle.fq_column.specs.declared.cells.Kind.TheVariants.{Whole}
use Rattle.fq_column.specs.declared.faults.StepFault.{StepFault}
use Rattle.fq_column.specs.declared.faults.StepFault.TheVariants.{NoColumn}
use Rattle.fq_column.specs.Frame.{Fields, Name, has_name, names_of}
use Rattle.fq_column.specs.Refusal.{first_refusal, refusal_of, refuse_if}
use Rattle.fq_column.specs.Schema.{kind_named}
use Rattle.fq_ops.specs.Aggregate.{Output}
use Rattle.fq_ops.specs.Fields.{Judged, refusals}
use Rattle.fq_ops.specs.Group.{aggregate_kind, group_schema, grouped_fields, grouped_kinds}
use Rattle.fq_ops.proofs.JudgedFieldLemmas.{TellsName, tells-name}
use Rattle.fq_ops.proofs.RefusalLemmas.{accepted, chosen, ending, none-both, none-first}

-- ---- judged names, of which none is refused

refused-not : (r : Result Kind StepFault) (rest : List (Option StepFault)) → first_refusal (refusal_of r ∷ rest) ≡ None → ((k : Kind) × (r ≡ Ok k)) × (first_refusal rest ≡ None)
refused-not (Ok k) rest e = ((k, refl), e)
refused-not (Err f) rest e = absurd (cc)

module _ {X : Type 0} (judge : X → Judged) where
  pub all-kinds : (xs : List X) → first_refusal (refusals (map judge xs)) ≡ None → All (λ x. (k : Kind) × ((judge x).1 ≡ Ok k)) xs
  all-kinds [] e k d low = absurd (omega (arith, low))
  all-kinds (x ∷ xs) e zero d low = (refused-not (judge x).1 (refusals (map judge xs)) e).0
  all-kinds (x ∷ xs) e (suc k) d low = all-kinds xs (refused-not (judge x).1 (refusals (map judge xs)) e).1 k d (omega (arith, low))

some-key : (n : ℕ) → (n == 0) ≡ false → 1 ≤ n
some-key zero e = absurd (cc)
some-key (suc n) e = omega arith

module _ (fields : Fields) (keys : List Name) (outputs : List Output) where
  abbrev key_judged : Name → Judged
  key_judged n = (n, kind_named fields n)

  abbrev output_judged : Output → Judged
  output_judged o = (o.0, aggregate_kind fields o.1)

  pub length-grouped : length (grouped_fields fields keys outputs) ≡ length keys + length outputs
  length-grouped =
      length-map (grouped_kinds fields keys outputs) (λ (p : Judged). (p.0, result_unwrap_or p.1 Whole))
      ∙ length-append (map key_judged keys) (map output_judged outputs)
      ∙ (λ i. length-map keys key_judged i + length-map outputs output_judged i)

  module _ (ok : IsOk (group_schema fields keys outputs)) where
    abbrev checks : List (Option StepFault)
    checks = refuse_if (length keys == 0) NoColumn ∷ (refusals (grouped_kinds fields keys outputs) ++ ending fields keys outputs)

    none : (length keys == 0 ≡ false) × (first_refusal (refusals (grouped_kinds fields keys outputs) ++ ending fields keys outputs) ≡ None)
    none = none-first (length keys == 0) NoColumn (refusals (grouped_kinds fields keys outputs) ++ ending fields keys outputs) (accepted checks (grouped_fields fields keys outputs) ok)

    pub group-some : 1 ≤ length keys
    group-some = some-key (length keys) none.0

    pub group-output : group_schema fields keys outputs ≡ Ok (grouped_fields fields keys outputs)
    group-output = ap (chosen (grouped_fields fields keys outputs)) (accepted checks (grouped_fields fields keys outputs) ok)

    parts : (first_refusal (refusals (map key_judged keys)) ≡ None) × (first_refusal (refusals (map output_judged outputs)) ≡ None)
    parts = none-both (refusals (map key_judged keys)) (refusals (map output_judged outputs))
        (ap first_refusal (sym (map-append (λ (p : Judged). refusal_of p.1) (map key_judged keys) (map output_judged outputs)))
        ∙ (none-both (refusals (grouped_kinds fields keys outputs)) (ending fields keys outputs) none.1).0)

    pub key-kinds : All (λ n. (k : Kind) × (kind_named fields n ≡ Ok k)) keys
    key-kinds = all-kinds key_judged keys parts.0

    pub aggregate-kinds : All (λ (o : Output). (k : Kind) × (aggregate_kind fields o.1 ≡ Ok k)) outputs
    aggregate-kinds = all-kinds output_judged outputs parts.1

    pub group-known : AllPass (has_name (names_of fields)) keys
    group-known k d low =
        let n = get_or keys k d in
        let kind = key-kinds k d low in
        subst (TellsName fields n) kind.1 (tells-name fields n)

    -- there is a column, since a key names one
    pub some-column : 1 ≤ length fields
    some-column = by fields (get_or keys 0 []) (group-known 0 [] (omega (arith, group-some)))
      where
        by : (fs : Fields) (n : Name) → has_name (names_of fs) n ≡ true → 1 ≤ length fs
        by [] n e = absurd (cc)
        by (f ∷ fs) n e = omega arith
