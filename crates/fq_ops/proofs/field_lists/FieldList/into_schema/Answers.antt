use Rattle.std.proofs.Common.{◌≡◌, List, map, string_bytes, sym, ap, ◌∙◌, Ok, Err, Some, None, Option, Result, MatchResult, IfOk}
use Rattle.std.proofs.lemmas.List.{length-map}
use Rattle.fq_column.specs.declared.faults.StepFault.{StepFault}
use Rattle.fq_column.specs.Frame.{Fields, Name, names_of}
use Rattle.fq_column.specs.Refusal.{first_refusal, unless_refused}
use Rattle.fq_column.specs.Schema.{schema_checks, fields_of}
use Rattle.fq_column.proofs.SchemaLemmas.{names_of-fields_of}
use Rattle.fq_ops.proofs.field_lists.FieldList.into_schema.Goals as goal

-- a result that says by its variant whether the checks refuse
judged : (checks : List _) (fs : Fields) (r : Result Fields StepFault) → IfOk r (λ s. s ≡ fs) → MatchResult r (λ s. first_refusal checks ≡ None) (λ fault. first_refusal checks ≡ Some fault) → r ≡ unless_refused checks fs
judged checks fs (Ok s) e g = ap Ok e ∙ sym (ap (λ (o : Option StepFault). elim o as (λ _. Result Fields StepFault) [ None ↦ Ok fs | Some fault ↦ Err fault ]) g)
judged checks fs (Err f) e g = sym (ap (λ (o : Option StepFault). elim o as (λ _. Result Fields StepFault) [ None ↦ Ok fs | Some fault ↦ Err fault ]) g)

pub returns : goal.returns
returns c =
    let ns = map string_bytes c.self.inside.names.items in
    let ks = c.self.inside.kinds.items in
    judged (schema_checks ns) (fields_of ns ks) c.new.result c.new.ensures.ok c.new.ensures.refused
    ∙ ap (λ (names : List Name). unless_refused (schema_checks names) (fields_of ns ks)) (sym (names_of-fields_of ns ks (length-map c.self.inside.names.items string_bytes ∙ c.self.invariant)))
    ∙ ap (λ (f : Fields). unless_refused (schema_checks (names_of f)) f) c.self.view_is
