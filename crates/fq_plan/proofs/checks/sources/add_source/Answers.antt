use Rattle.std.proofs.Common.{◌∙◌, ◌++◌, ◌∷◌, [], ap, map, sym, Some, inl}
use Rattle.std.proofs.lemmas.List.{map-append}
use Rattle.std.proofs.lemmas.Result.{err_from_is_err_and}
use Rattle.fq_column.specs.Refusal.{first_refusal}
use Rattle.fq_column.specs.Schema.{schema_checks}
use Rattle.fq_csv.specs.Sources.{Source, source_of_files}
use Rattle.fq_language.proofs.RefusalLemmas.{fields_of-columns, names_of-columns}
use Rattle.fq_plan.proofs.checks.sources.add_source.Goals as goal

pub returns-in_err-schema-clause-refused : goal.returns-in_err-schema-clause-refused
returns-in_err-schema-clause-refused c =
    let exit = err_from_is_err_and c.from_residual-in_err-schema.result c.from_residual-in_err-schema.ensures.1 in
    rw (exit.1) (inl (ap (λ ns. first_refusal (schema_checks ns)) (names_of-columns c.args.source.columns.items _ c.in_ok-names.ensures.names) ∙ c.in_err-schema.ensures.refused ∙ ap Some (sym exit.2)))

pub returns-clause-source : goal.returns-clause-source
returns-clause-source c =
    let fields = c.in_ok-schema.ensures.ok ∙ fields_of-columns c.args.source.columns.items _ _ c.in_ok-names.ensures.names c.in_ok-names.ensures.kinds in
    ap (map source_of_files) c.in_ok-push.ensures.items
    ∙ map-append source_of_files c.args.checked.now.items _
    ∙ (λ i. let s : Source = record { files = c.args.source.files; fields = fields i; nulls = c.args.source.nulls; notations = c.plain.ensures i; projection = c.all.ensures i } in map source_of_files c.args.checked.now.items ++ (s ∷ []))

pub returns-clause-passed : goal.returns-clause-passed
returns-clause-passed c =
    ap (λ ns. first_refusal (schema_checks ns)) (names_of-columns c.args.source.columns.items _ c.in_ok-names.ensures.names) ∙ c.in_ok-schema.ensures.refused
