use Rattle.std.specs.Cmp.Lexicographic.{pointwise}
use Rattle.std.proofs.Common.{◌≡◌, ◌∷◌, ◌∙◌, List, [], ap, arith, length, sym}
use Rattle.csv.specs.Reading.{default_config, records}
use Rattle.csv.specs.Records.{fields_of}
use Rattle.fq_column.specs.Frame.{names_of, same_name}
use Rattle.fq_csv.specs.File.{Record}
use Rattle.fq_csv.specs.Readers.{TextHasLeft}
use Rattle.fq_csv.proofs.scanning.headers.is_header.Goals as goal

pub unreachable-requires : goal.unreachable-requires
unreachable-requires c =
    let rs = records default_config c.args.text in
    let none : rs ≡ [] = rw c.if-not-branch.true at (c.in_ok-next_record.ensures.reads rs c.in_ok-reader.ensures.left) in
    omega (arith, ap length none, c.requires)

pub returns : goal.returns
returns c r e =
    let rs = records default_config c.args.text in
    let fs = fields_of c.next_record.new.row in
    let step : (rest : List Record) × (rs ≡ fs ∷ rest) × TextHasLeft c.next_record.new.reader rest = rw c.if-not-branch.false at (c.in_ok-next_record.ensures.reads rs c.in_ok-reader.ensures.left) in
    let first : fs ≡ r = (let z : fs ∷ step.0 ≡ r ∷ [] = sym step.1 ∙ e in cc) in
    (c.has_names.ensures ∙ ap (λ x. pointwise same_name (names_of c.args.schema.now) x) first)
