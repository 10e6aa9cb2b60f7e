use Rattle.std.proofs.Common.{◌≡◌, ◌∙◌, ap, sym, ◌++◌, ◌≤◌, Option, Some, None, Ok, List, length, map, take, drop, subst, ℕ}
use Rattle.std.specs.Option.{option_map, option_map_or}
use Rattle.fq_column.specs.Batch.{frame_with, row_with}
use Rattle.fq_column.specs.declared.cells.Cell.{Cell}
use Rattle.fq_column.specs.declared.cells.Cell.TheVariants.{Null}
use Rattle.fq_column.specs.declared.cells.Kind.TheVariants.{Whole}
use Rattle.fq_column.specs.Frame.{Fields, Frame, Row, put_named, names_of, position_of, value_at, value_named}
use Rattle.fq_column.specs.Lists.{before_missing, first_missing, zip_with}
use Rattle.fq_column.specs.Schema.{kind_named}
use Rattle.fq_ops.specs.Roll.{rolled}
use Rattle.fq_column.proofs.NameLemmas.{kind_named-at}
use Rattle.fq_run.specs.Transforms.{Transform}
use Rattle.fq_run.specs.RunningOperators.{HasSummed}
use Rattle.fq_run.specs.declared.faults.Fault.TheVariants.{RollRange}
use Rattle.fq_run.proofs.StageLemmas.{roll-accepted}
use Rattle.fq_run.proofs.OperatorLemmas.{further, height-of-more, not-faulted, summed-kept, summed-next}
use Rattle.fq_run.proofs.operators.rolling.Summing.take.Goals.{In_ok-sums, Joined-out_of_range, in-Some, in-None}
use Rattle.fq_run.proofs.operators.rolling.Summing.take.Goals as goal
use Rattle.fq_column.specs.declared.schemas.TheConstants.{MAX_COLUMNS}

pub take-requires-clause-kind : goal.take-requires-clause-kind
take-requires-clause-kind c =
    let m = c.requires.0 in let h = c.requires.1.1.2 in let s = c.args.self.now in
    let place : position_of h.column (names_of c.args.batch.fields) ≡ Some s.place = ap (λ (fs : Fields). position_of h.column (names_of fs)) (sym c.requires.1.1.0) ∙ h.place in
    let found : kind_named c.args.batch.fields h.column ≡ Ok c.column.result.now.kind = kind_named-at c.args.batch.fields h.column s.place c.column.result.now.kind place c.column.ensures.kind in
    let whole : kind_named c.args.batch.fields h.column ≡ Ok Whole = ap (λ (fs : Fields). kind_named fs h.column) (sym c.requires.1.1.0) ∙ (roll-accepted m.takes h.column s.rolling.window s.rolling.min_samples s.name.now h.accepted).kind in
    cc

pub take-requires-clause-not_faulted : goal.take-requires-clause-not_faulted
take-requires-clause-not_faulted c = not-faulted c.args.self.now c.requires.0 c.requires.1.0 c.args.batch c.requires.1.1.2 c.requires.1.1.0 c.requires.1.1.1

module _ (c : In_ok-sums) (m : Transform) (rows : List Row) (h : HasSummed c.args.self.now m rows) (same : m.takes ≡ c.args.batch.fields) (unended : (m.at_once rows).fault ≡ None) where
  -- the column's cells, by its name
  cells : c.column.result.now.cells ≡ map (value_named m.takes h.column) c.args.batch.rows
  cells = c.column.ensures.cells ∙ (λ i. map (λ (row : Row). option_map_or (λ (j : ℕ). value_at j row) (sym h.place i) Null) c.args.batch.rows)

  abbrev before : List Cell
  before = map (value_named m.takes h.column) rows

  sums-are : c.in_ok-sums.sums.cells ≡ before_missing (further c.args.self.now m rows c.args.batch h same unended)
  sums-are = c.in_ok-sums.ensures.sums before h.cells
      ∙ ap (λ (cs : List Cell). before_missing (drop (length before) (rolled c.args.self.now.rolling.window c.args.self.now.rolling.min_samples (before ++ cs)))) cells

  fault-is : c.in_ok-sums.out_of_range ≡ first_missing (further c.args.self.now m rows c.args.batch h same unended)
  fault-is = c.in_ok-sums.ensures.fault before h.cells
      ∙ ap (λ (cs : List Cell). first_missing (drop (length before) (rolled c.args.self.now.rolling.window c.args.self.now.rolling.min_samples (before ++ cs)))) cells

pub put-requires-clause-height : goal.put-requires-clause-height
put-requires-clause-height c = let d = (goal.at.put-requires-clause-height c).In_ok-sums in
    let m = c.requires.0 in let rows = c.requires.1.0 in let h = c.requires.1.1.2 in let same = c.requires.1.1.0 in let unended = c.requires.1.1.1 in
    height-of-more c.args.self.now m rows c.args.batch h same unended c.in_ok-sums.sums.cells (sums-are d m rows h same unended)
    ∙ ap (λ (n : ℕ). length (take n c.args.batch.rows)) (sym c.len.ensures.len)
    ∙ ap (λ (f : Frame). length f.rows) (sym c.cut.ensures)

pub put-requires-clause-room : goal.put-requires-clause-room
put-requires-clause-room c =
    let m = c.requires.0 in let h = c.requires.1.1.2 in let s = c.args.self.now in
    let columns : put_named c.cut.new.self.fields (s.name.now, c.in_ok-sums.sums.kind) ≡ put_named m.takes (s.name.now, Whole) =
    λ i. put_named ((ap (λ (f : Frame). f.fields) c.cut.ensures ∙ sym c.requires.1.1.0) i) (s.name.now, c.in_ok-sums.ensures.kind i) in
    subst (λ (f : Fields). length f ≤ MAX_COLUMNS) (sym columns) (roll-accepted m.takes h.column s.rolling.window s.rolling.min_samples s.name.now h.accepted).room

-- the fault of the sums
ends : (c : Joined-out_of_range) → c.match-out_of_range.fault ≡ option_map (λ _. RollRange c.args.self.now.number) c.in_ok-sums.out_of_range
ends c = elim c.match-out_of_range.branch [
  | in-Some w ↦ w.fault-is ∙ sym (ap (λ (o : Option ℕ). option_map (λ _. RollRange c.args.self.now.number) o) w.in-Some.is)
  | in-None w ↦ w.fault-is ∙ sym (ap (λ (o : Option ℕ). option_map (λ _. RollRange c.args.self.now.number) o) w.in-None.is)
]

pub returns : goal.returns
returns c m rows same unended h = let d = (goal.at.returns c).In_ok-sums in let s = c.args.self.now in
    let sums = c.in_ok-sums.sums in let batch = c.args.batch in
    let made : c.put.new.self ≡ frame_with c.cut.new.self s.name.now sums = c.in_ok-put.ensures.ok in
    let columns : c.put.new.self.fields ≡ put_named m.takes (s.name.now, Whole) =
    ap (λ (f : Frame). f.fields) made
    ∙ (λ i. put_named ((ap (λ (f : Frame). f.fields) c.cut.ensures ∙ sym same) i) (s.name.now, c.in_ok-sums.ensures.kind i)) in
    let made_rows : c.put.new.self.rows ≡ zip_with (row_with m.takes s.name.now) (take (length sums.cells) batch.rows) sums.cells =
    ap (λ (f : Frame). f.rows) made
    ∙ (λ i. zip_with (row_with ((ap (λ (f : Frame). f.fields) c.cut.ensures ∙ sym same) i) s.name.now) ((ap (λ (f : Frame). f.rows) c.cut.ensures ∙ ap (λ (n : ℕ). take n batch.rows) c.len.ensures.len) i) sums.cells) in
    record {
      columns = columns ∙ ap (λ (m : Transform). m.gives) (sym h.transform);
      next = summed-next s m rows batch h same unended (record { rows = c.put.new.self.rows; fault = c.match-out_of_range.fault }) sums.cells c.in_ok-sums.out_of_range
          (sums-are d m rows h same unended) (fault-is d m rows h same unended) made_rows (ends (goal.at.returns c).Joined-out_of_range);
      kept = λ none. summed-kept s m rows batch h same unended c.take.new.self c.column.result.now.cells c.in_ok-sums.ensures.shape.0 c.in_ok-sums.ensures.shape.1 (cells d m rows h same unended) c.in_ok-sums.ensures.taken;
    }
