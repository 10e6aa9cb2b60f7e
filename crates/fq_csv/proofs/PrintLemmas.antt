-- A record that is written field by field, and rows that are written one after the other.
use Rattle.std.specs.Prelude.{OnOk, ◌==◌, ◌&&◌, ◌||◌, not, slice_get, slice_index_or}
use Rattle.std.proofs.Common.{◌≡◌, ◌<◌, ◌≤◌, ◌+◌, ◌++◌, ◌∙◌, ℕ, zero, suc, List, [], ◌∷◌, Option, Some, Result, length, take, get_or, refl, sym, ap, subst, arith}
use Rattle.std.specs.Io.KnownBytes.{Appends}
use Rattle.csv.specs.Writing.{default_writer, field_text, fields_written, has_written, is_blank, next_sep, row_body, tail_text, text_written, writer_setup}
use Rattle.csv.specs.declared.writer.Writer.{Writer}
use Rattle.csv.proofs.WriteFacts.{appends-more, appends-none, blank-step, on_ok_both, row-final, row-step}
use Rattle.fq_column.specs.Frame.{Frame, IsFrame, Row, column_at, value_at}
use Rattle.fq_notation.specs.declared.notations.Notation.{Notation}
use Rattle.fq_notation.specs.declared.notations.Notation.TheVariants.{Plain}
use Rattle.std.proofs.lemmas.List.{take_all}
use Rattle.fq_csv.specs.Printed.{cell_text, row_fields}
use Rattle.fq_csv.specs.Writing.{IsBetween, PutsField, PutsRecord}
use lib.Pointwise.{pointwise_long}

-- ---- one record

-- the first i fields of a record were written
pub record HasPut {W : Type 0} (contents : W → Option (List ℕ)) (old now : Writer W) (fields : List (List ℕ)) (i : ℕ) : Type 0 where
  pub setup : writer_setup now ≡ default_writer
  pub count : fields_written now ≡ i
  pub text : Appends (text_written contents old) (text_written contents now) (row_body default_writer (take i fields))
  pub blank : is_blank default_writer (take i fields) ≡ (not (has_written now) && ((i == 0) || (i == 1)))

pub HasPut-start : {W : Type 0} (contents : W → Option (List ℕ)) (old : Writer W) (fields : List (List ℕ)) → IsBetween old → HasPut contents old old fields 0
unfolding is_blank
HasPut-start contents old fields b = record { setup = b.setup; count = b.start; text = appends-none (text_written contents old); blank = rw b.clean refl }

pub HasPut-more : {W : Type 0} (contents : W → Option (List ℕ)) (old now new : Writer W) (fields : List (List ℕ)) (i : ℕ) (field : List ℕ) → HasPut contents old now fields i → i < length fields
    → get_or fields i [] ≡ field → PutsField contents now new field → HasPut contents old new fields (i + 1)
HasPut-more contents old now new fields i field h below e put =
    let text : Appends (text_written contents now) (text_written contents new) (next_sep default_writer i ++ field_text default_writer (get_or fields i [])) =
    subst (λ (t : List ℕ). Appends (text_written contents now) (text_written contents new) t) (ap (λ k. next_sep default_writer k ++ field_text default_writer field) h.count ∙ ap (λ f. next_sep default_writer i ++ field_text default_writer f) (sym e)) put.text in
    let both = appends-more (text_written contents old) (text_written contents now) (text_written contents new) (row_body default_writer (take i fields)) (next_sep default_writer i ++ field_text default_writer (get_or fields i [])) h.text text in
    record {
      setup = put.setup;
      count = put.count ∙ ap (λ k. k + 1) h.count;
      text = subst (λ (t : List ℕ). Appends (text_written contents old) (text_written contents new) t) (sym (row-step default_writer fields i below)) both;
      blank = blank-step default_writer fields i (has_written now) (has_written new) below h.blank (λ w. put.wrote w ∙ ap (λ f. not (length (field_text default_writer f) == 0)) (sym e)) put.stays;
    }

pub HasPut-end : {W T E : Type 0} (contents : W → Option (List ℕ)) (old now new : Writer W) (fields : List (List ℕ)) (i : ℕ) (r : Result T E) → HasPut contents old now fields i → length fields ≤ i
    → OnOk r (IsBetween new) → OnOk r (Appends (text_written contents now) (text_written contents new) (tail_text default_writer (has_written now) (fields_written now)))
    → OnOk r (PutsRecord contents old new fields)
HasPut-end contents old now new fields i r h l between text =
    let all = take_all i fields l in
    let body = subst (λ fs. Appends (text_written contents old) (text_written contents now) (row_body default_writer fs)) all h.text in
    let blank = ap (is_blank default_writer) (sym all) ∙ h.blank ∙ ap (λ k. not (has_written now) && ((k == 0) || (k == 1))) (sym h.count) in
    on_ok_both r (λ b t. record {
      between = b;
      text = row-final (text_written contents old) (text_written contents now) (text_written contents new) default_writer fields (has_written now) (fields_written now) body blank t;
    }) between text

-- ---- the fields of a row

pub name-field : (names : List (List ℕ)) (i : ℕ) (x : List ℕ) → slice_get names i ≡ Some x → get_or names i [] ≡ x
name-field [] i x e = cc e
name-field (n ∷ names) zero x e = cc
name-field (n ∷ names) (suc i) x e = name-field names i x e

-- a row of a frame has a value for each column
pub row-length : (f : Frame) (r : ℕ) → IsFrame f → r < length f.rows → length (slice_index_or f.rows r []) ≡ length f.fields
row-length f r fit below = sym (pointwise_long _ f.fields (slice_index_or f.rows r []) (fit.1 r [] below))

pub cell-field : (ns : List Notation) (row : Row) (i : ℕ) → i < length row → get_or (row_fields ns row) i [] ≡ cell_text (slice_index_or ns i Plain) (value_at i row)
cell-field ns [] i h = absurd (omega (arith, h))
cell-field [] (c ∷ row) zero h = refl
cell-field (n ∷ ns) (c ∷ row) zero h = refl
cell-field [] (c ∷ row) (suc i) h = cell-field [] row i (omega (arith, h))
cell-field (n ∷ ns) (c ∷ row) (suc i) h = cell-field ns row i (omega (arith, h))

pub length-fields : (ns : List Notation) (row : Row) → length (row_fields ns row) ≡ length row
length-fields ns [] = refl
length-fields [] (c ∷ row) = ap suc (length-fields [] row)
length-fields (n ∷ ns) (c ∷ row) = ap suc (length-fields ns row)

pub cell-of_column : (rows : List Row) (r i : ℕ) → r < length rows → value_at r (column_at i rows) ≡ value_at i (slice_index_or rows r [])
cell-of_column [] r i h = absurd (omega (arith, h))
cell-of_column (row ∷ rows) zero i h = refl
cell-of_column (row ∷ rows) (suc r) i h = cell-of_column rows r i (omega (arith, h))
