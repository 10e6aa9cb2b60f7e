-- What one running operator makes of one more batch.
use Rattle.std.proofs.Common.{◌≡◌, ℕ, ◌+◌, ◌-◌, ◌≤◌, nat_le, Bool, true, false, List, [], ◌∷◌, ◌++◌, map, length, take, drop, zip, Option, Some, None, is_some, IsOk, Result, length-drop, length-take-le, refl, ap, sym, ◌∙◌, arith, subst, length-append, append-nil, append_assoc, inl, pos}
use Rattle.std.specs.Prelude.{option_map}
use Rattle.std.specs.Option.{option_or}
use Rattle.std.proofs.lemmas.List.{length-map, map-append}
use Rattle.std.proofs.lemmas.Bool.Decides.{nat_tests}
use Rattle.std.proofs.lemmas.List.FromFn.{length-range_with_len}
use Rattle.fq_column.specs.Batch.{row_with}
use Rattle.fq_column.specs.declared.cells.Cell.{Cell}
use Rattle.fq_column.specs.Frame.{Fields, Frame, Name, Row, value_named}
use Rattle.fq_column.specs.Lists.{zip_with, before_missing, first_missing, numbers}
use Rattle.fq_column.specs.Stream.{Stream, done, then_stream, one_by_one, rename_fault}
use Rattle.fq_expr.specs.Front.{NumberedSteps, fault_at}
use Rattle.fq_expr.specs.Steps.{apply_steps, fields_after_all}
use Rattle.fq_expr.specs.declared.fronts.RowFault.{RowFault}
use Rattle.fq_column.proofs.StreamLemmas.{one_by_one-append}
use Rattle.fq_expr.proofs.StepLemmas.{apply_steps-then, rename_fault-then}
use Rattle.fq_ops.specs.Join.{join_rows, join_schema, joined, joined_fields, within_room}
use Rattle.fq_ops.specs.Probing.{GivesPart, rows_left}
use Rattle.fq_ops.specs.declared.probes.Probe.{Probe}
use Rattle.fq_ops.specs.declared.probes.Rest.{Rest}
use Rattle.fq_ops.specs.declared.probes.Rest.TheVariants.{End, More}
use Rattle.fq_ops.specs.Roll.{roll_rows, roll_schema, rolled, rolled_at, with_sum}
use Rattle.fq_ops.specs.Taken.{HasTakenCells, Window}
use Rattle.fq_ops.specs.declared.joins.How.{How}
use Rattle.fq_ops.proofs.JoinLemmas.{within-parts}
use Rattle.fq_ops.proofs.RollLemmas.{rolled-append, rolled-added}
use Rattle.fq_run.specs.declared.operators.joining.TheConstants.{MAX_JOINED_ROWS}
use Rattle.fq_run.specs.Transforms.{Transform, join_transform, roll_transform, steps_transform}
use Rattle.fq_run.specs.RunningOperators.{HasSummed, HasTaken, IsGiving, IsJoining, IsNext, Makes}
use Rattle.fq_run.specs.declared.operators.RunningOperator.{RunningOperator}
use Rattle.fq_run.specs.declared.operators.RunningOperator.TheVariants.{Group, Join, Roll, Rows}
use Rattle.fq_run.specs.Sources.{row_fault}
use Rattle.fq_run.specs.declared.faults.Fault.{Fault}
use Rattle.fq_run.specs.declared.faults.Fault.TheVariants.{JoinRows, Overflow, RollRange}
use Rattle.fq_run.specs.declared.operators.joining.Joining.{Joining}
use Rattle.fq_run.specs.declared.operators.rolling.Summing.{Summing}
use Rattle.fq_run.proofs.StageLemmas.{length-before, length-sums, steps-on-stream, sums_of, with-sums}

abbrev stream : {F : Type 0} → List Row → Option F → Stream F
stream rows fault = record { rows = rows; fault = fault }

-- ---- row-wise steps

pub steps-next : (front : NumberedSteps) (m : Transform) (rows : List Row) (batch made : Frame) (fault : Option RowFault) (end : Option Fault) → m ≡ steps_transform front →
    end ≡ option_map row_fault fault →
    made.fields ≡ fields_after_all front.fields front.steps →
    made.rows ≡ (apply_steps fault_at front.first front.fields front.steps (done batch.rows)).rows →
    fault ≡ (apply_steps fault_at front.first front.fields front.steps (done batch.rows)).fault →
    IsNext m rows batch (λ (m : Transform) (rows : List Row). m ≡ steps_transform front) (record { batch = Some made; fault = end })
steps-next front m rows batch made fault end is e columns r f = record {
  columns = columns ∙ ap (λ (m : Transform). m.gives) (sym is);
  next =
      (λ i. then_stream ((is i).at_once rows) (stream made.rows ((e ∙ same fault) i)))
      ∙ ap (then_stream (apply_steps Overflow front.first front.fields front.steps (done rows))) (steps-on-stream front.first front.fields front.steps (done batch.rows) made.rows fault r f)
      ∙ sym (apply_steps-then Overflow front.first front.fields front.steps (done rows) (done batch.rows))
      ∙ (λ i. (sym is i).at_once (rows ++ batch.rows));
  kept = λ none. is;
}
  where
    same : (o : Option RowFault) → option_map row_fault o ≡ option_or (option_map row_fault o) None
    same None = refl
    same (Some f) = refl

-- ---- joins

-- a join gives no more rows than there is room for
within-bound : (out : Row → List Row) (room : ℕ) (ls : List Row) → length (within_room out room ls).rows ≤ room
within-bound out room [] = omega arith
within-bound out room (l ∷ ls) = go (nat_le (length (out l)) room) refl (within-bound out (room - length (out l)) ls)
  where
    go : (b : Bool) → nat_le (length (out l)) room ≡ b → length (within_room out (room - length (out l)) ls).rows ≤ room - length (out l) → length (within_room out room (l ∷ ls)).rows ≤ room
    go true e h = rw e (grind (arith, nat_tests, e, h, length-append (out l) (within_room out (room - length (out l)) ls).rows))
    go false e h = rw e (omega arith)

pub join-bound : (how : How) (nulls_equal : Bool) (left right : Fields) (on : List Name) (rows : List Row) (room : ℕ) (ls : List Row) → length (join_rows how nulls_equal left right on rows room ls).rows ≤ room
join-bound how nulls_equal left right on rows room ls = within-bound (joined left right on how nulls_equal rows) room ls

module _ (j : Joining) (m : Transform) (rows : List Row) (batch : Frame) (is : m ≡ join_transform j.number j.how j.table m.takes) where
  abbrev joins : ℕ → List Row → Stream ℕ
  joins room ls = join_rows j.how j.table.nulls_equal m.takes j.table.fields j.table.on j.table.rows room ls

  abbrev full : ℕ → Fault
  full _ = JoinRows j.number

  -- the room that the rows before have left
  abbrev room : ℕ
  room = MAX_JOINED_ROWS - length (m.at_once rows).rows

  constant : (n : ℕ) (o : Option ℕ) → option_map full (option_map (λ p. n + p) o) ≡ option_map full o
  constant n None = refl
  constant n (Some p) = refl

  joined-on : joins MAX_JOINED_ROWS (rows ++ batch.rows) ≡ then_stream (joins MAX_JOINED_ROWS rows) (rename_fault (λ p. length rows + p) (joins room batch.rows))
  joined-on =
      within-parts (joined m.takes j.table.fields j.table.on j.how j.table.nulls_equal j.table.rows) MAX_JOINED_ROWS rows batch.rows
      ∙ ap (λ n. then_stream (joins MAX_JOINED_ROWS rows) (rename_fault (λ p. length rows + p) (joins n batch.rows))) (sym (ap (λ (m : Transform). MAX_JOINED_ROWS - length (m.at_once rows).rows) is))

  -- a join of one more batch
  pub join-on : then_stream (m.at_once rows) (rename_fault full (joins room batch.rows)) ≡ m.at_once (rows ++ batch.rows)
  join-on =
      (λ i. then_stream ((is i).at_once rows) (rename_fault full (joins room batch.rows)))
      ∙ (λ i. then_stream (rename_fault full (joins MAX_JOINED_ROWS rows)) (stream (joins room batch.rows).rows (sym (constant (length rows) (joins room batch.rows).fault) i)))
      ∙ sym (rename_fault-then full (joins MAX_JOINED_ROWS rows) (rename_fault (λ p. length rows + p) (joins room batch.rows)))
      ∙ ap (rename_fault full) (sym joined-on)
      ∙ (λ i. (sym is i).at_once (rows ++ batch.rows))

-- ---- a join in parts

module _ (j : Joining) (m : Transform) (rows : List Row) (batch : Frame) (given : List Row) (probe : Probe) (g : IsJoining j m rows batch given probe) where
  -- what the batch gives: what was given, and the rest
  parts : join_rows j.how j.table.nulls_equal m.takes j.table.fields j.table.on j.table.rows (MAX_JOINED_ROWS - length (m.at_once rows).rows) batch.rows ≡ then_stream (done given) (rows_left j.table probe)
  parts = ap (λ fs. join_rows j.how j.table.nulls_equal fs j.table.fields j.table.on j.table.rows (MAX_JOINED_ROWS - length (m.at_once rows).rows) batch.rows) g.fields ∙ g.rest

  on-parts : m.at_once (rows ++ batch.rows) ≡ then_stream (m.at_once rows) (then_stream (done given) (rename_fault (λ _. JoinRows j.number) (rows_left j.table probe)))
  on-parts = sym (join-on j m rows batch g.transform) ∙ ap (λ (u : Stream ℕ). then_stream (m.at_once rows) (rename_fault (λ _. JoinRows j.number) u)) parts

  joining-begins : (w : Stream Fault) × (m.at_once (rows ++ batch.rows) ≡ then_stream (m.at_once rows) (then_stream (done given) w))
  joining-begins = (rename_fault (λ _. JoinRows j.number) (rows_left j.table probe), on-parts)

  -- the next part finds room
  pub part-fits : (part more : List Row) → (rows_left j.table probe).rows ≡ part ++ more → length part ≤ j.room
  part-fits part more e =
      let all = (join_rows j.how j.table.nulls_equal m.takes j.table.fields j.table.on j.table.rows (MAX_JOINED_ROWS - length (m.at_once rows).rows) batch.rows).rows in
      omega (
        arith,
        join-bound j.how j.table.nulls_equal m.takes j.table.fields j.table.on j.table.rows (MAX_JOINED_ROWS - length (m.at_once rows).rows) batch.rows,
        ap (λ (u : Stream ℕ). length u.rows) parts,
        length-append given (rows_left j.table probe).rows,
        ap length e,
        length-append part more,
        g.room,
      )

  pub any-fits : (part : List Row) (rest : Rest) → GivesPart j.table probe part rest → length part ≤ j.room
  any-fits part (More next) gives = part-fits part (rows_left j.table next).rows gives.3
  any-fits part (End end) gives = part-fits part [] (ap (λ (u : Stream ℕ). u.rows) gives ∙ sym (append-nil part))

  abbrev left-over : List Row → Joining
  left-over part = record j { room = j.room - length part }

  columns-of : (part : Frame) → part.fields ≡ joined_fields probe.how probe.left.fields j.table.fields j.table.on → part.fields ≡ m.gives
  columns-of part e =
      e
      ∙ (λ i. joined_fields (g.left.1 i) ((g.left.0 i).fields) j.table.fields j.table.on)
      ∙ ap (λ fs. joined_fields j.how fs j.table.fields j.table.on) (sym g.fields)
      ∙ ap (λ (m : Transform). m.gives) (sym g.transform)

  -- a part, and others after it
  pub part-more : (part : Frame) (next : Probe) → part.fields ≡ joined_fields probe.how probe.left.fields j.table.fields j.table.on → GivesPart j.table probe part.rows (More next) →
      Makes (Join (left-over part.rows)) m rows batch given (record { passed = record { batch = Some part; fault = None }; rest = Some next })
  part-more part next columns gives = record {
    columns = columns-of part columns;
    last = λ e. absurd (cc);
    goes_on = λ q e.
        let same : next ≡ q = cc in (
          refl,
          subst (λ (q : Probe). IsJoining (left-over part.rows) m rows batch (given ++ part.rows) q) same (record {
            causal = g.causal;
            faultless = g.faultless;
            fields = g.fields;
            transform = g.transform;
            accepted = g.accepted;
            left = (gives.0 ∙ g.left.0, gives.1 ∙ g.left.1);
            probes = gives.2;
            room = omega (arith, g.room, length-append given part.rows);
            rest = g.rest ∙ (λ i. then_stream (done given) (record { rows = gives.3 i; fault = gives.4 i })) ∙ (λ i. record { rows = sym (append_assoc given part.rows (rows_left j.table next).rows) i; fault = (rows_left j.table next).fault });
          }),
        );
  }

  -- the last part
  pub part-last : (part : Frame) (end : Option ℕ) (fault : Option Fault) → part.fields ≡ joined_fields probe.how probe.left.fields j.table.fields j.table.on → GivesPart j.table probe part.rows (End end) →
      fault ≡ option_map (λ _. JoinRows j.number) end → Makes (Join (left-over part.rows)) m rows batch given (record { passed = record { batch = Some part; fault = fault }; rest = None })
  part-last part end fault columns gives named = record {
    columns = columns-of part columns;
    last = λ _. (
      sym all,
      λ none. record {
        causal = g.causal;
        faultless = ap (λ (u : Stream Fault). u.fault) whole-is ∙ none;
        keeps = record {
          transform = g.transform;
          accepted = g.accepted;
          room = omega (arith, g.room, ap (λ (u : Stream Fault). length u.rows) whole-is, length-append (m.at_once rows).rows (given ++ part.rows), length-append given part.rows);
        };
      },
    );
    goes_on = λ q e. absurd (cc);
  }
    where
      all : m.at_once (rows ++ batch.rows) ≡ then_stream (m.at_once rows) (then_stream (done given) (stream part.rows fault))
      all = on-parts ∙ ap (λ (u : Stream ℕ). then_stream (m.at_once rows) (then_stream (done given) (rename_fault (λ _. JoinRows j.number) u))) gives ∙ (λ i. then_stream (m.at_once rows) (then_stream (done given) (stream part.rows (sym named i))))

      whole-is : m.at_once (rows ++ batch.rows) ≡ stream ((m.at_once rows).rows ++ (given ++ part.rows)) fault
      whole-is = all ∙ ap (λ (o : Option Fault). then_stream (stream (m.at_once rows).rows o) (stream (given ++ part.rows) fault)) g.faultless

pub join-begins : (r : RunningOperator) (m : Transform) (rows : List Row) (batch : Frame) (given : List Row) (probe : Probe) → IsGiving r m rows batch given probe →
    (w : Stream Fault) × (m.at_once (rows ++ batch.rows) ≡ then_stream (m.at_once rows) (then_stream (done given) w))
join-begins (Rows front) m rows batch given probe g = absurd g
join-begins (Join j) m rows batch given probe g = joining-begins j m rows batch given probe g
join-begins (Roll s) m rows batch given probe g = absurd g
join-begins (Group x) m rows batch given probe g = absurd g

-- before the first part
pub giving-start : (j : Joining) (m : Transform) (rows : List Row) (batch : Frame) (probe : Probe) → HasTaken (Join j) m rows → m.takes ≡ batch.fields →
    (probe.left ≡ batch) × (probe.how ≡ j.how) × (probe.from.given ≡ 0) →
    rows_left j.table probe ≡ join_rows j.how j.table.nulls_equal batch.fields j.table.fields j.table.on j.table.rows j.room batch.rows → IsJoining j m rows batch [] probe
giving-start j m rows batch probe t same parts all = record {
  causal = t.causal;
  faultless = t.faultless;
  fields = same;
  transform = t.keeps.transform;
  accepted = t.keeps.accepted;
  left = (parts.0, parts.1);
  probes = (
    subst (λ (b : Fields × How). IsOk (join_schema b.1 b.0 j.table.fields j.table.on)) (λ i. ((same ∙ ap (λ (f : Frame). f.fields) (sym parts.0)) i, sym parts.1 i)) t.keeps.accepted,
    inl parts.2,
  );
  room = omega (arith, t.keeps.room);
  rest = ap (λ n. join_rows j.how j.table.nulls_equal batch.fields j.table.fields j.table.on j.table.rows n batch.rows) (sym t.keeps.room) ∙ sym all;
}

-- ---- rolling sums

zip-append : {X Y : Type 0} (xs us : List X) (ys vs : List Y) → length ys ≡ length xs → zip (xs ++ us) (ys ++ vs) ≡ zip xs ys ++ zip us vs
zip-append [] us [] vs e = refl
zip-append [] us (y ∷ ys) vs e = absurd (omega (arith, e))
zip-append (x ∷ xs) us [] vs e = absurd (omega (arith, e))
zip-append (x ∷ xs) us (y ∷ ys) vs e = ap (λ l. (x, y) ∷ l) (zip-append xs us ys vs (omega (arith, e)))

length-rolled : (n m : ℕ) (cells : List Cell) → length (rolled n m cells) ≡ length cells
length-rolled n m cells = length-map (numbers (length cells)) (rolled_at n m cells) ∙ length-range_with_len 0 (length cells)

module _ (n m : ℕ) (fields : Fields) (column name : Name) (rows more : List Row) where
  abbrev cells : List Row → List Cell
  cells rs = map (value_named fields column) rs

  -- the sums at further rows
  abbrev pub more-sums : List (Option Cell)
  more-sums = drop (length (cells rows)) (rolled n m (cells rows ++ cells more))

  pub length-more : length more-sums ≡ length more
  length-more = omega (
    arith,
    length-drop (length (cells rows)) (rolled n m (cells rows ++ cells more)),
    length-rolled n m (cells rows ++ cells more),
    length-append (cells rows) (cells more),
    length-map more (value_named fields column),
  )

  pub sums-on : rolled n m (cells rows ++ cells more) ≡ rolled n m (cells rows) ++ more-sums
  sums-on = rolled-append n m (cells rows) (cells more) ∙ ap (λ (os : List (Option Cell)). rolled n m (cells rows) ++ os) (sym (rolled-added n m (cells rows) (cells more)))

  abbrev summed : Row × Option Cell → Result (List Row) (Unit {0})
  summed p = with_sum fields name p.0 p.1

  pub roll-on : roll_rows fields column n m name (rows ++ more) ≡ then_stream (roll_rows fields column n m name rows) (one_by_one summed (zip more more-sums))
  roll-on =
      ap (λ cs. one_by_one summed (zip (rows ++ more) (rolled n m cs))) (map-append (value_named fields column) rows more)
      ∙ ap (λ os. one_by_one summed (zip (rows ++ more) os)) sums-on
      ∙ ap (one_by_one summed) (zip-append rows more (rolled n m (cells rows)) more-sums (length-sums fields column n m rows))
      ∙ one_by_one-append summed (zip rows (rolled n m (cells rows))) (zip more more-sums)

module _ (s : Summing) (m : Transform) (rows : List Row) (batch : Frame) (h : HasSummed s m rows) (same : m.takes ≡ batch.fields) (unended : (m.at_once rows).fault ≡ None) where
  abbrev n : ℕ
  n = s.rolling.window

  abbrev least : ℕ
  least = s.rolling.min_samples

  abbrev out_of_range : Unit {0} → Fault
  out_of_range _ = RollRange s.number

  abbrev name : Name
  name = s.name.now

  abbrev pub further : List (Option Cell)
  further = more-sums n least m.takes h.column name rows batch.rows

  there : (o : Option ℕ) → option_map out_of_range (option_map (λ (_ : ℕ). let t : Unit {0} = tt in t) o) ≡ None → is_some o ≡ false
  there None e = refl
  there (Some i) e = absurd (cc)

  pub not-faulted : s.rolling.faulted ≡ false
  not-faulted =
      h.cells.faulted
      ∙ there (first_missing (sums_of m.takes h.column n least rows))
      (ap (λ (v : Stream (Unit {0})). option_map out_of_range v.fault) (sym (with-sums m.takes name (sums_of m.takes h.column n least rows) rows (length-sums m.takes h.column n least rows)))
      ∙ ap (λ (m : Transform). (m.at_once rows).fault) (sym h.transform) ∙ unended)

  named : (o : Option ℕ) → option_map (λ (_ : ℕ). RollRange s.number) o ≡ option_map out_of_range (option_map (λ (_ : ℕ). let t : Unit {0} = tt in t) o)
  named None = refl
  named (Some i) = refl

  pub height-of-more : (sums : List Cell) → sums ≡ before_missing further → length sums ≡ length (take (length sums) batch.rows)
  height-of-more sums e =
      grind (arith, length-take-le (length sums) batch.rows (omega (arith, ap length e, length-before further, length-more n least m.takes h.column name rows batch.rows)))

  pub summed-next : (p : Stream Fault) (sums : List Cell) (fault : Option ℕ) → sums ≡ before_missing further → fault ≡ first_missing further →
      p.rows ≡ zip_with (row_with m.takes name) (take (length sums) batch.rows) sums → p.fault ≡ option_map (λ _. RollRange s.number) fault →
      then_stream (m.at_once rows) p ≡ m.at_once (rows ++ batch.rows)
  summed-next p sums fault e f r g =
      let all = with-sums m.takes name further batch.rows (length-more n least m.takes h.column name rows batch.rows) in
      (λ i. then_stream ((h.transform i).at_once rows)
      (stream ((r ∙ (λ j. zip_with (row_with m.takes name) (take (length (e j)) batch.rows) (e j)) ∙ ap (λ (v : Stream (Unit {0})). v.rows) (sym all)) i)
      ((g ∙ named fault ∙ ap (λ (o : Option ℕ). option_map out_of_range (option_map (λ (_ : ℕ). let t : Unit {0} = tt in t) o)) f ∙ ap (λ (v : Stream (Unit {0})). option_map out_of_range v.fault) (sym all)) i)))
      ∙ sym (rename_fault-then out_of_range (roll_rows m.takes h.column n least name rows) (one_by_one (λ (p : Row × Option Cell). with_sum m.takes name p.0 p.1) (zip batch.rows further)))
      ∙ ap (rename_fault out_of_range) (sym (roll-on n least m.takes h.column name rows batch.rows))
      ∙ (λ i. (sym h.transform i).at_once (rows ++ batch.rows))

  -- the rolling sum after that
  pub summed-kept : (r : Window) (cells : List Cell) → r.window ≡ n → r.min_samples ≡ least → cells ≡ map (value_named m.takes h.column) batch.rows →
      ((before : List Cell) → HasTakenCells s.rolling before → HasTakenCells r (before ++ cells)) → HasSummed (record s { rolling = r }) m (rows ++ batch.rows)
  summed-kept r cells w l e taken = record {
    column = h.column;
    place = h.place;
    transform = h.transform ∙ (λ i. roll_transform s.number m.takes h.column (sym w i) (sym l i) name);
    accepted = subst (λ (k : ℕ). IsOk (roll_schema m.takes h.column (pos k) (pos r.min_samples) name)) (sym w) (subst (λ (k : ℕ). IsOk (roll_schema m.takes h.column (pos n) (pos k) name)) (sym l) h.accepted);
    cells = subst (λ (cs : List Cell). HasTakenCells r cs) (ap (λ (cs : List Cell). map (value_named m.takes h.column) rows ++ cs) e ∙ sym (map-append (value_named m.takes h.column) rows batch.rows)) (taken (map (value_named m.takes h.column) rows) h.cells);
  }
