use Rattle.std.proofs.Common.{◌≡◌, String, Global, List, Some, map, length, false, string_bytes, sym, ap, ◌∙◌, arith}
use Rattle.std.specs.Bool.{◌==◌}
use Rattle.std.proofs.lemmas.List.{length-map}
use Rattle.std.proofs.lemmas.Result.{err_from_is_err_and}
use Rattle.fq_column.specs.Refusal.{first_refusal}
use Rattle.fq_ops.specs.AggregateData.{outputs_of}
use Rattle.fq_ops.specs.Fields.{refusals}
use Rattle.fq_ops.proofs.GroupingLemmas.{aggregates-judged, fields-width, keys-judged, names-width}
use Rattle.fq_ops.proofs.RefusalLemmas.{group-key_refused, group-aggregate_refused, group-many, group-passed, not-many, over-many}
use Rattle.fq_ops.proofs.output_schemas.check_grouping.Goals as goal

some : (keys : List (String Global)) → (length keys == 0) ≡ false → (length (map string_bytes keys) == 0) ≡ false
some keys e = ap (λ n. n == 0) (length-map keys string_bytes) ∙ e

pub returns-in_err-check_keys-clause-err : goal.returns-in_err-check_keys-clause-err
returns-in_err-check_keys-clause-err c =
    let s = c.args.schema.now in
    let exit = err_from_is_err_and c.from_residual.result c.from_residual.ensures.1 in
    let nonempty = some c.args.keys.now (sym c.is_empty.ensures ∙ c.if-is_empty.false) in
    rw exit.1 (group-key_refused s (map string_bytes c.args.keys.now) (outputs_of c.args.aggs.now) nonempty exit.0
    (ap (λ js. first_refusal (refusals js)) (sym (keys-judged s c.args.keys.now)) ∙ c.in_err-check_keys.ensures.err ∙ ap Some (sym exit.2)))

pub returns-in_err-check_aggregates-clause-err : goal.returns-in_err-check_aggregates-clause-err
returns-in_err-check_aggregates-clause-err c =
    let s = c.args.schema.now in
    let exit = err_from_is_err_and c.from_residual-in_err-check_aggregates.result c.from_residual-in_err-check_aggregates.ensures.1 in
    let nonempty = some c.args.keys.now (sym c.is_empty.ensures ∙ c.if-is_empty.false) in
    rw exit.1 (group-aggregate_refused s (map string_bytes c.args.keys.now) (outputs_of c.args.aggs.now) nonempty exit.0
    (ap (λ js. first_refusal (refusals js)) (sym (keys-judged s c.args.keys.now)) ∙ c.in_ok-check_keys.ensures.ok)
    (ap (λ js. first_refusal (refusals js)) (sym (aggregates-judged s c.args.aggs.now)) ∙ c.in_err-check_aggregates.ensures.err ∙ ap Some (sym exit.2)))

pub returns-then-keys-aggs-gt-MAX_COLUMNS-clause-err : goal.returns-then-keys-aggs-gt-MAX_COLUMNS-clause-err
returns-then-keys-aggs-gt-MAX_COLUMNS-clause-err c =
    let s = c.args.schema.now in
    let nonempty = some c.args.keys.now (sym c.is_empty.ensures ∙ c.if-is_empty.false) in
    let many = over-many _ (omega (arith, names-width s c.args.keys.now c.args.aggs.now, c.if-keys-aggs-gt-MAX_COLUMNS.true)) in
    group-many s (map string_bytes c.args.keys.now) (outputs_of c.args.aggs.now) nonempty
    (ap (λ js. first_refusal (refusals js)) (sym (keys-judged s c.args.keys.now)) ∙ c.in_ok-check_keys.ensures.ok)
    (ap (λ js. first_refusal (refusals js)) (sym (aggregates-judged s c.args.aggs.now)) ∙ c.in_ok-check_aggregates.ensures.ok) many

pub returns-clause-ok : goal.returns-clause-ok
returns-clause-ok c =
    let s = c.args.schema.now in
    let nonempty = some c.args.keys.now (sym c.is_empty.ensures ∙ c.if-is_empty.false) in
    let width = fields-width s c.args.keys.now c.args.aggs.now in
    let few = not-many _ (omega (arith, names-width s c.args.keys.now c.args.aggs.now, c.if-keys-aggs-gt-MAX_COLUMNS.false)) in
    let passed = group-passed s (map string_bytes c.args.keys.now) (outputs_of c.args.aggs.now) nonempty
    (ap (λ js. first_refusal (refusals js)) (sym (keys-judged s c.args.keys.now)) ∙ c.in_ok-check_keys.ensures.ok)
    (ap (λ js. first_refusal (refusals js)) (sym (aggregates-judged s c.args.aggs.now)) ∙ c.in_ok-check_aggregates.ensures.ok) few in
    (omega (arith, width, c.if-keys-aggs-gt-MAX_COLUMNS.false), grind (arith, width, c.is_empty.ensures, c.if-is_empty.false), passed, c.in_ok-check_keys.ensures.ok, c.in_ok-check_aggregates.ensures.ok)
