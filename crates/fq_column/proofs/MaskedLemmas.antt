-- A row of which only marked columns are kept agrees with the row in these, and fits the columns that it fits; streams of such rows.
use Rattle.std.proofs.Common.{◌≡◌, ◌++◌, suc, Bool, true, false, List, [], ◌∷◌, length, map, Result, Ok, Err, refl, ap, sym, ◌∙◌, arith}
use Rattle.std.specs.Prelude.{All, slice_index_or}
use Rattle.std.specs.Cmp.{first_so, second_so}
use Rattle.std.specs.Result.{result_map_both}
use Rattle.std.proofs.lemmas.Bool.{and_from}
use Rattle.std.proofs.lemmas.List.{map-append}
use Rattle.std.proofs.lemmas.List.Elements.{All-head, All-tail}
use Rattle.fq_column.specs.declared.cells.Cell.{Cell}
use Rattle.fq_column.specs.Agreement.{AgreeOn, AllAgreeOn}
use Rattle.fq_column.specs.Cell.{has_kind}
use Rattle.fq_column.specs.Frame.{Fields, Row, row_fits}
use Rattle.fq_column.specs.Masked.{masked, masked_cell, masked_stream}
use Rattle.fq_column.specs.Stream.{Stream, done, faulted, one_by_one, then_stream}

-- ---- a row

pub length-masked : (marks : List Bool) (row : Row) → length (masked marks row) ≡ length row
length-masked [] row = refl
length-masked (mark ∷ marks) [] = refl
length-masked (mark ∷ marks) (c ∷ row) = ap suc (length-masked marks row)

-- one cell more
pub masked-snoc : (marks : List Bool) (row : Row) (c : Cell) → masked marks (row ++ c ∷ []) ≡ masked marks row ++ masked_cell (slice_index_or marks (length row) true) c ∷ []
masked-snoc [] row c = refl
masked-snoc (mark ∷ marks) [] c = ap (λ rest. masked_cell mark c ∷ rest) (none marks)
  where
    none : (ms : List Bool) → masked ms [] ≡ []
    none [] = refl
    none (m ∷ ms) = refl
masked-snoc (mark ∷ marks) (d ∷ row) c = ap (λ rest. masked_cell mark d ∷ rest) (masked-snoc marks row c)

pub agree-masked : (marks : List Bool) (row : Row) → length row ≡ length marks → AgreeOn marks row (masked marks row)
agree-masked [] [] e = tt
agree-masked [] (c ∷ row) e = absurd (omega (arith, e))
agree-masked (mark ∷ marks) [] e = absurd (omega (arith, e))
agree-masked (true ∷ marks) (c ∷ row) e = (λ m. refl, agree-masked marks row (omega (arith, e)))
agree-masked (false ∷ marks) (c ∷ row) e = (λ m. absurd (cc), agree-masked marks row (omega (arith, e)))

pub all-agree-masked : (marks : List Bool) (rows : List Row) → All (λ row. length row ≡ length marks) rows → AllAgreeOn marks rows (map (masked marks) rows)
all-agree-masked marks [] w = tt
all-agree-masked marks (row ∷ rows) w =
    (agree-masked marks row (All-head (λ row. length row ≡ length marks) row rows w), all-agree-masked marks rows (All-tail (λ row. length row ≡ length marks) row rows w))

-- null is of every kind
pub masked-fits : (fields : Fields) (marks : List Bool) (row : Row) → row_fits fields row ≡ true → row_fits fields (masked marks row) ≡ true
masked-fits fields [] row h = h
masked-fits fields (mark ∷ marks) [] h = h
masked-fits [] (mark ∷ marks) (c ∷ row) h = absurd (cc)
masked-fits (f ∷ fields) (mark ∷ marks) (c ∷ row) h =
    and_from (has_kind f.1 (masked_cell mark c)) (row_fits fields (masked marks row)) (go mark (first_so (has_kind f.1 c) (row_fits fields row) h))
    (masked-fits fields marks row (second_so (has_kind f.1 c) (row_fits fields row) h))
  where
    go : (b : Bool) → has_kind f.1 c ≡ true → has_kind f.1 (masked_cell b c) ≡ true
    go true k = k
    go false k = refl

-- ---- streams

module _ {F : Type 0} (marks : List Bool) where
  pub masked-then : (rows : List Row) (u : Stream F) → masked_stream marks (then_stream (done rows) u) ≡ then_stream (done (map (masked marks) rows)) (masked_stream marks u)
  masked-then rows u = ap (λ rs. let v : Stream F = record { rows = rs; fault = u.fault } in v) (map-append (masked marks) rows u.rows)

  -- a step whose rows are masked
  abbrev pub masked_step : {X : Type 0} → (X → Result (List Row) F) → X → Result (List Row) F
  masked_step step x = result_map_both (map (masked marks)) (λ f. f) (step x)

  pub one_by_one-masked : {X : Type 0} (step : X → Result (List Row) F) (xs : List X) → one_by_one (masked_step step) xs ≡ masked_stream marks (one_by_one step xs)
  one_by_one-masked step [] = refl
  one_by_one-masked {X} step (x ∷ xs) = go (step x) (one_by_one-masked step xs)
    where
      go : (r : Result (List Row) F) → one_by_one (masked_step step) xs ≡ masked_stream marks (one_by_one step xs) →
          ◌≡◌ {A = Stream F} (elim (result_map_both (map (masked marks)) (λ (f : F). f) r) [ Ok rows ↦ then_stream (done rows) (one_by_one (masked_step step) xs) | Err f ↦ faulted f ])
          (masked_stream marks (elim r [ Ok rows ↦ then_stream (done rows) (one_by_one step xs) | Err f ↦ faulted f ]))
      go (Ok rows) more = ap (then_stream (done (map (masked marks) rows))) more ∙ sym (masked-then rows (one_by_one step xs))
      go (Err f) more = refl
