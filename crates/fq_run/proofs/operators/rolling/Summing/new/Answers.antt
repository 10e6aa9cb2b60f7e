use Rattle.std.proofs.Common.{◌≡◌, ◌∙◌, sym, ap, string_bytes, None}
use Rattle.fq_column.specs.Frame.{Name, names_of, position_of}
use Rattle.fq_column.proofs.NameLemmas.{kind_named-none}
use Rattle.fq_run.proofs.StageLemmas.{roll-accepted}
use Rattle.fq_run.proofs.operators.rolling.Summing.new.Goals as goal

pub unreachable-requires : goal.unreachable-requires
unreachable-requires c =
    let r = c.args.rolling_sum.now in
    let none : position_of (string_bytes r.column) (names_of c.args.schema.now) ≡ None = ap (λ (n : Name). position_of n (names_of c.args.schema.now)) (sym c.as_str.ensures.value) ∙ sym c.position.ensures ∙ c.in_default.is in
    let absent = kind_named-none c.args.schema.now (string_bytes r.column) none in
    let there = (roll-accepted c.args.schema.now (string_bytes r.column) r.window r.min_samples (string_bytes r.name) c.requires).kind in
    absurd (cc)
