use Rattle.std.proofs.Common.{◌∙◌, ap, Bor, List, ℕ}
use Rattle.std.specs.Prelude.{option_map}
use Rattle.fq_csv.proofs.FieldReadingLemmas.{read-text}
use Rattle.fq_csv.proofs.cells.fields.judged_text.Goals as goal

pub returns-then-field-lt-LONG_FIELD : goal.returns-then-field-lt-LONG_FIELD
returns-then-field-lt-LONG_FIELD c = ap (option_map (λ (t : Bor (List ℕ)). t.now)) c.ok.ensures.value ∙ read-text c.args.field.now c.from_utf8.result _ c.from_utf8.ensures.cases

pub returns-else-field-lt-LONG_FIELD : goal.returns-else-field-lt-LONG_FIELD
returns-else-field-lt-LONG_FIELD c = ap (option_map (λ (t : Bor (List ℕ)). t.now)) c.ok-else-field-lt-LONG_FIELD.ensures.value ∙ read-text c.args.field.now c.from_utf8-else-field-lt-LONG_FIELD.result _ c.from_utf8-else-field-lt-LONG_FIELD.ensures.cases
