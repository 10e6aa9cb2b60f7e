use Rattle.std.proofs.Common.{◌≡◌, ◌∙◌, ap, sym, not, Bool, true, false, refl, map, string_bytes, length, arith}
use Rattle.std.proofs.lemmas.List.{length-map}
use Rattle.fq_column.specs.Frame.{same_name}
use Rattle.fq_column.specs.Lists.{is_distinct}
use Rattle.fq_column.proofs.SchemaLemmas.{length-fields_of, names_of-fields_of}
use Rattle.fq_column.proofs.schemas.Schema.new.Goals as goal

turned : (b : Bool) → false ≡ not b → b ≡ true
turned true e = refl
turned false e = cc

pub invariant_of-result : goal.invariant_of-result
invariant_of-result c =
    let ns = map string_bytes c.args.names.items in let ks = c.args.kinds.items in
    let same : length ns ≡ length ks = length-map c.args.names.items string_bytes ∙ c.requires in (
      c.requires,
      record {
        some_column = grind (arith, length-fields_of ns ks same, length-map c.args.names.items string_bytes, c.is_empty.ensures, c.if-is_empty.false);
        not_too_many = grind (arith, length-fields_of ns ks same, length-map c.args.names.items string_bytes);
        distinct = rw (names_of-fields_of ns ks same) (turned (is_distinct same_name ns)
            (sym c.if-has_double.false ∙ c.has_double.ensures ∙ ap (λ xs. not (is_distinct same_name (map string_bytes xs))) c.as_slice.ensures.value));
      },
    )
