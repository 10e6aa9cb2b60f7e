-- The running values of a group's rows are its aggregates, and values of their kinds.
use Rattle.std.proofs.Common.{◌≡◌, ℕ, suc, Bool, true, false, List, [], ◌∷◌, map, pos, Option, Some, None, Result, Ok, Err, unwrap_or, refl, sym, ap, subst, ◌∙◌, true≢false, if◌then◌else◌}
use Rattle.std.specs.Option.{option_map, option_map_or}
use Rattle.std.proofs.lemmas.Bool.{and_parts}
use Rattle.std.proofs.lemmas.List.{length-map}
use Rattle.fq_column.specs.declared.cells.Cell.TheVariants.{Null, Whole}
use Rattle.fq_column.specs.declared.cells.Kind.{Kind}
use Rattle.fq_column.specs.declared.cells.Kind.TheVariants as kind
use Rattle.fq_column.specs.declared.faults.StepFault.{StepFault}
use Rattle.fq_column.specs.Cell.{has_kind}
use Rattle.fq_column.specs.Frame.{Fields, Name, Row, column_at, has_name, names_of, position_of, row_fits, same_name, value_at, value_named}
use Rattle.fq_column.specs.Refusal.{and_then}
use Rattle.fq_column.specs.Schema.{kind_named}
use Rattle.fq_ops.specs.declared.aggregates.Function.{Function}
use Rattle.fq_ops.specs.Aggregate.{Aggregate, len, over, aggregated, count, kind_over, value_of}
use Rattle.fq_ops.specs.Grouped.{place_named, running_of}
use Rattle.fq_ops.specs.Group.{aggregate_kind}
use Rattle.fq_ops.specs.Running.{finished}
use Rattle.fq_column.proofs.NameLemmas.{position-here, position-past, unnamed}
use Rattle.fq_ops.proofs.JudgedFieldLemmas.{TellsName, tells-name}
use Rattle.fq_ops.proofs.ProbeLemmas.{AllIn, AllIn-map}
use Rattle.fq_ops.proofs.RunningLemmas.{Fitting, all-finished, len-finished, same-kind, value-fits, whole-fits}

-- ---- the column of a name

module _ (fields : Fields) (n : Name) (k : Kind) (known : kind_named fields n ≡ Ok k) where
  pub column-named : (rows : List Row) → column_at (place_named fields n) rows ≡ map (value_named fields n) rows
  column-named rows = by (position_of n (names_of fields)) refl
    where
      by : (o : Option ℕ) → position_of n (names_of fields) ≡ o → column_at (place_named fields n) rows ≡ map (value_named fields n) rows
      by (Some p) e = ap (λ o. map (value_at (unwrap_or o 0)) rows) e ∙ sym (ap (λ o. map (λ row. option_map_or (λ i. value_at i row) o Null) rows) e)
      by None e = absurd (true≢false (sym (subst (TellsName fields n) known (tells-name fields n)) ∙ unnamed fields n e))

-- the value of a row that fits is of its column's kind
pub named-fits : (fields : Fields) (n : Name) (k : Kind) → kind_named fields n ≡ Ok k → (row : Row) → row_fits fields row ≡ true → has_kind k (value_named fields n row) ≡ true
named-fits [] n k known row e = absurd (cc)
named-fits (f ∷ fields) n k known [] e = absurd (true≢false (sym e))
named-fits (f ∷ fields) n k known (c ∷ row) e = by (same_name n f.0) refl (λ h. named-fits fields n k h row both.1)
  where
    both : (has_kind f.1 c ≡ true) × (row_fits fields row ≡ true)
    both = let p = and_parts (has_kind f.1 c) (row_fits fields row) e in (p.0, p.1)

    later : (o : Option ℕ) → has_kind k (option_map_or (λ i. value_at i row) o Null) ≡ true → has_kind k (option_map_or (λ i. value_at i (c ∷ row)) (option_map suc o) Null) ≡ true
    later None h = h
    later (Some i) h = h

    by : (b : Bool) → same_name n f.0 ≡ b → (kind_named fields n ≡ Ok k → has_kind k (value_named fields n row) ≡ true) → has_kind k (value_named (f ∷ fields) n (c ∷ row)) ≡ true
    by true s rest =
        let same : Ok f.1 ≡ Ok k = ap (λ b. if b then Ok f.1 else kind_named fields n) (sym s) ∙ known in
        let here : f.1 ≡ k = cc in
        ap (λ o. has_kind k (option_map_or (λ i. value_at i (c ∷ row)) o Null)) (position-here (same_name n) f.0 (names_of fields) s)
        ∙ ap (λ l. has_kind l c) (sym here) ∙ both.0
    by false s rest =
        ap (λ o. has_kind k (option_map_or (λ i. value_at i (c ∷ row)) o Null)) (position-past (same_name n) f.0 (names_of fields) s)
        ∙ later (position_of n (names_of fields)) (rest (ap (λ b. if b then Ok f.1 else kind_named fields n) (sym s) ∙ known))

-- ---- running values are aggregates

then-known : {X Y : Type 0} (r : Result X StepFault) (next : X → Result Y StepFault) (y : Y) → and_then r next ≡ Ok y → (x : X) × (r ≡ Ok x) × (next x ≡ Ok y)
then-known (Ok x) next y e = (x, refl, e)
then-known (Err f) next y e = absurd (cc)

-- the column of an aggregate that has a kind is there
pub column-known : (fields : Fields) (f : Function) (n : Name) (k : Kind) → aggregate_kind fields (over f n) ≡ Ok k → has_name (names_of fields) n ≡ true
column-known fields f n k e =
    let known = then-known (kind_named fields n) (kind_over f) k e in
    subst (TellsName fields n) known.1 (tells-name fields n)

pub running-is : (fields : Fields) (a : Aggregate) (k : Kind) → aggregate_kind fields a ≡ Ok k → (rows : List Row) → finished (running_of fields a rows) ≡ aggregated fields a rows
running-is fields len k e rows = len-finished (column_at 0 rows) ∙ ap (λ m. Some (Whole (pos m))) (length-map rows (value_at 0))
running-is fields (over f n) k e rows =
    let known = then-known (kind_named fields n) (kind_over f) k e in
    all-finished f (column_at (place_named fields n) rows) ∙ ap (value_of f) (column-named fields n known.0 known.1 rows)

-- ---- aggregates are of their kinds

module _ (fields : Fields) (rows : List Row) (fit : AllIn (λ row. row_fits fields row ≡ true) rows) where
  column-fits : (n : Name) (k : Kind) → kind_named fields n ≡ Ok k → AllIn (Fitting k) (map (value_named fields n) rows)
  column-fits n k e = AllIn-map (Fitting k) (λ row. row_fits fields row ≡ true) (value_named fields n) (λ row h. named-fits fields n k e row h) rows fit

  pub aggregated-fits : (a : Aggregate) (k : Kind) → aggregate_kind fields a ≡ Ok k → has_kind k (unwrap_or (aggregated fields a rows) Null) ≡ true
  aggregated-fits len k e = whole-fits k (count rows) (sym (same-kind kind.Whole k e)) refl
  aggregated-fits (over f n) k e =
      let known = then-known (kind_named fields n) (kind_over f) k e in
      value-fits known.0 k (map (value_named fields n) rows) (column-fits n known.0 known.1) f known.2
