-- Columns of the kinds of a schema and of one length are not refused.
use Rattle.std.proofs.Common.{◌≡◌, ℕ, zero, suc, Bool, true, false, cond, not, List, [], ◌∷◌, length, map, Some, None, Option, refl, ap, sym, ◌∙◌, arith}
use Rattle.std.specs.Prelude.{All}
use Rattle.std.specs.Bool.{◌==◌}
use Rattle.std.specs.List.{list_all}
use Rattle.std.specs.Cmp.Lexicographic.{pointwise}
use Rattle.std.proofs.lemmas.Bool.{and_from}
use Rattle.std.proofs.lemmas.Bool.Decides.{nat_tests}
use Rattle.std.proofs.lemmas.List.{length-map}
use Rattle.fq_column.specs.declared.cells.Kind.{Kind}
use Rattle.fq_column.specs.declared.faults.BatchFault.{BatchFault}
use Rattle.fq_column.specs.declared.faults.BatchFault.TheVariants.{Width, Kind as WrongKind, Length}
use Rattle.fq_column.specs.Batch.{batch_fault, has_kind_of, height_of, kind_of_cells, without_cells}
use Rattle.fq_column.specs.Cell.{same_kind}
use Rattle.fq_column.specs.Column.{Cells}
use Rattle.fq_column.specs.Frame.{Field, Fields, kinds_of, rows_of}
use Rattle.fq_column.specs.SchemaLaws.{same_kind_decides}
use Rattle.fq_column.proofs.BatchLemmas.{pass-lengths}

same-kind-same : (k : Kind) → same_kind k k ≡ true
same-kind-same k = (same_kind_decides k k).1 refl

kinds-fit : (fields : Fields) (columns : List Cells) → map kind_of_cells columns ≡ kinds_of fields → pointwise has_kind_of fields columns ≡ true
kinds-fit [] [] e = refl
kinds-fit [] (c ∷ columns) e = absurd (cc)
kinds-fit (f ∷ fields) [] e = absurd (cc)
kinds-fit (f ∷ fields) (c ∷ columns) e = and_from (has_kind_of f c) (pointwise has_kind_of fields columns) (ap (λ k. same_kind k f.1) (let g : c.kind ≡ f.1 = cc in g) ∙ same-kind-same f.1) (kinds-fit fields columns (cc))

same-number : (m n : ℕ) → m ≡ n → not (m == n) ≡ false
same-number m n e = ap (λ k. not (k == n)) e ∙ ap not (let h : (n == n) ≡ true = grind (arith, nat_tests) in h)

pub batch_fault-none : (fields : Fields) (columns : List Cells) → map kind_of_cells columns ≡ kinds_of fields → All (λ (c : Cells). length c.cells ≡ height_of columns) columns → batch_fault fields columns ≡ None
batch_fault-none fields columns k l =
    go (not (length columns == length fields)) (not (pointwise has_kind_of fields columns)) (not (list_all (λ (c : Cells). length c.cells == height_of columns) columns))
    (same-number (length columns) (length fields) (sym (length-map columns kind_of_cells) ∙ ap length k ∙ length-map fields (λ (f : Field). f.1)))
    (ap not (kinds-fit fields columns k)) (ap not (pass-lengths (height_of columns) columns l))
  where
    go : (a b c : Bool) → a ≡ false → b ≡ false → c ≡ false → (let none : Option BatchFault = None in cond a (Some Width) (cond b (Some WrongKind) (cond c (Some Length) none))) ≡ None
    go true b c e f g = absurd (cc)
    go false true c e f g = absurd (cc)
    go false false true e f g = absurd (cc)
    go false false false e f g = refl

-- ---- columns with no cell

pub kinds-without : (kinds : List Kind) → map kind_of_cells (map without_cells kinds) ≡ kinds
kinds-without [] = refl
kinds-without (k ∷ kinds) = ap (λ ks. k ∷ ks) (kinds-without kinds)

pub height-without : (kinds : List Kind) → height_of (map without_cells kinds) ≡ 0
height-without [] = refl
height-without (k ∷ kinds) = refl

pub none-in : (kinds : List Kind) → All (λ (c : Cells). length c.cells ≡ 0) (map without_cells kinds)
none-in [] i d below = absurd (omega (arith, below))
none-in (k ∷ kinds) zero d below = refl
none-in (k ∷ kinds) (suc i) d below = none-in kinds i d (omega (arith, below))

pub lengths-without : (kinds : List Kind) → All (λ (c : Cells). length c.cells ≡ height_of (map without_cells kinds)) (map without_cells kinds)
lengths-without kinds = let same : 0 ≡ height_of (map without_cells kinds) = sym (height-without kinds) in λ i d below. none-in kinds i d below ∙ same

pub rows-without : (kinds : List Kind) (n : ℕ) → n ≡ 0 → rows_of n (map (λ (c : Cells). c.cells) (map without_cells kinds)) ≡ []
rows-without [] n e = rw e refl
rows-without (k ∷ kinds) n e = refl
