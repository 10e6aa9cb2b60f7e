use Rattle.std.proofs.Common.{◌∙◌, ◌||◌, not, ap, sym, map, string_bytes}
use Rattle.fq_column.specs.Frame.{same_name}
use Rattle.fq_column.specs.Lists.{is_distinct}
use Rattle.fq_column.proofs.SchemaLemmas.{not-is_distinct}
use Rattle.fq_column.proofs.schemas.+has_double.Goals as goal

pub returns-then-contains : goal.returns-then-contains
returns-then-contains t c =
    c.if-contains.true
    ∙ ap (λ b. b || not (is_distinct same_name (map string_bytes c.in-Some.rest.now))) (sym c.if-contains.true ∙ c.contains.ensures.value)
    ∙ sym (not-is_distinct c.in-Some.first.now c.in-Some.rest.now)
    ∙ ap (λ ns. not (is_distinct same_name (map string_bytes ns))) (sym c.in-Some.ensures.cases.0)

pub returns-else-contains : goal.returns-else-contains
returns-else-contains t c =
    c.has_double.ensures
    ∙ ap (λ b. b || not (is_distinct same_name (map string_bytes c.in-Some.rest.now))) (sym c.if-contains.false ∙ c.contains.ensures.value)
    ∙ sym (not-is_distinct c.in-Some.first.now c.in-Some.rest.now)
    ∙ ap (λ ns. not (is_distinct same_name (map string_bytes ns))) (sym c.in-Some.ensures.cases.0)
