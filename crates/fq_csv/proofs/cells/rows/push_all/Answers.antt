use Rattle.std.proofs.Common.{◌≡◌, ◌+◌, ◌∙◌, ◌++◌, ◌∷◌, List, [], Some, ap, append_assoc, arith, length, length-append, refl, subst, sym}
use Rattle.csv.specs.Reading.{default_config, records}
use Rattle.csv.specs.Records.{fields_of}
use Rattle.fq_column.specs.Column.{Cells}
use Rattle.fq_csv.specs.File.{Record}
use Rattle.fq_csv.specs.Readers.{TextHasLeft}
use Rattle.fq_csv.specs.TextRows.{HoldsRowsOf}
use Rattle.fq_csv.proofs.TextRowLemmas.{HasRows, HasRows-all, HasRows-bad, HasRows-more}
use Rattle.fq_csv.proofs.cells.rows.push_all.Goals as goal

pub loop-row-init : goal.loop-row-init
loop-row-init g c = record {
  plain = c.in_ok-reader.ensures.plain;
  before = [];
  rest = records default_config c.args.text;
  left = c.in_ok-reader.ensures.left;
  split = refl;
  number = refl;
  rows = record { rows = []; number = refl; held = c.requires.empty; stream = λ file before limit room. refl };
}

pub unreachable-requires : goal.unreachable-requires
unreachable-requires g c =
    let inv = c.loop-row.invariant in
    let none : inv.rest ≡ [] = rw c.if-not-branch.true at (c.in_ok-next_record.ensures.reads inv.rest inv.left) in
    let all : length (records default_config c.args.text) ≡ length inv.before + length inv.rest = ap length inv.split ∙ length-append inv.before inv.rest in
    omega (arith, all, ap length none, inv.number, c.requires.count, c.loop-row-test.true)

pub push_record-requires-clause-readings : goal.push_record-requires-clause-readings
push_record-requires-clause-readings g c =
    let layout = c.args.layout.now in
    rw (c.loop-row.invariant.rows.held.same_kinds) c.requires.readings

pub returns-in-Some : goal.returns-in-Some
returns-in-Some g c =
    let inv = c.loop-row.invariant in
    let fs = fields_of c.next_record.new.row in
    let step : (rest : List Record) × (inv.rest ≡ fs ∷ rest) × TextHasLeft c.next_record.new.reader rest = rw c.if-not-branch.false at (c.in_ok-next_record.ensures.reads inv.rest inv.left) in
    let bad = rw c.in-Some.is at c.in_ok-why.ensures.none in
    let layout = c.args.layout.now in
    subst (λ (cs : List Cells). HoldsRowsOf layout (records default_config c.args.text) cs (Some (c.loop-row.row, c.in-Some.why))) (sym bad.1)
    (HasRows-bad layout (records default_config c.args.text) inv.before step.0 c.loop-row.columns fs c.loop-row.row c.in-Some.why
    (inv.split ∙ ap (λ rs. inv.before ++ rs) step.1) inv.number inv.rows bad.0)

pub loop-row-preserved : goal.loop-row-preserved
loop-row-preserved g c =
    let inv = c.loop-row.invariant in
    let fs = fields_of c.next_record.new.row in
    let step : (rest : List Record) × (inv.rest ≡ fs ∷ rest) × TextHasLeft c.next_record.new.reader rest = rw c.if-not-branch.false at (c.in_ok-next_record.ensures.reads inv.rest inv.left) in
    let row = rw c.in_default.is at c.in_ok-why.ensures.row in
    let layout = c.args.layout.now in
    record {
      plain = c.in_ok-next_record.ensures.plain;
      before = inv.before ++ fs ∷ [];
      rest = step.0;
      left = step.2;
      split = inv.split ∙ ap (λ rs. inv.before ++ rs) step.1 ∙ sym (append_assoc inv.before (fs ∷ []) step.0);
      number = length-append inv.before (fs ∷ []) ∙ ap (λ n. n + 1) inv.number;
      rows = subst (λ (cs : List Cells). HasRows layout (inv.before ++ fs ∷ []) cs) (sym row.3)
          (HasRows-more layout inv.before c.loop-row.columns fs row.0 inv.rows row.1 row.2 row.4);
    }

pub returns : goal.returns
returns g c =
    let inv = c.loop-row.invariant in
    HasRows-all c.args.layout.now (records default_config c.args.text) inv.before inv.rest c.loop-row.columns inv.split
    (omega (arith, inv.number, c.loop-row-test.false, c.loop-row.auto.row-end, c.requires.count)) inv.rows
