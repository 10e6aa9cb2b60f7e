use Rattle.std.specs.Prelude.{slice_index_or}
use Rattle.std.proofs.Common.{◌≡◌, ◌<◌, ◌∙◌, ◌++◌, ◌∷◌, [], ℕ, zero, suc, List, ap, arith, length, sym}
use Rattle.std.proofs.lemmas.Option.{get_or_from_slice_get}
use Rattle.fq_column.specs.declared.cells.Kind.TheVariants.{Whole}
use Rattle.fq_column.specs.Frame.{kinds_of}
use Rattle.fq_csv.specs.Readings.{reading_at, reading_of}
use Rattle.fq_csv.specs.declared.cells.readings.Reading.{Reading}
use Rattle.fq_csv.proofs.cells.layouts.Layout.readings.Goals as goal

each-more : (xs : List Reading) (x : Reading) (f : ℕ → Reading) → ((i : ℕ) → i < length xs → (d : Reading) → slice_index_or xs i d ≡ f i) → x ≡ f (length xs)
    → (i : ℕ) → i < length (xs ++ x ∷ []) → (d : Reading) → slice_index_or (xs ++ x ∷ []) i d ≡ f i
each-more [] x f h e zero l d = e
each-more [] x f h e (suc i) l d = absurd (omega (arith, l))
each-more (y ∷ ys) x f h e zero l d = h zero (omega arith) d
each-more (y ∷ ys) x f h e (suc i) l d = each-more ys x (λ j. f (suc j)) (λ j m. h (suc j) (omega (arith, m))) e i (omega (arith, l)) d

pub loop-column-preserved : goal.loop-column-preserved
loop-column-preserved c =
    let layout = c.args.self.now in
    let kinds = kinds_of layout.schema in
    let at = c.loop-column.column in
    let kind : c.kind.result ≡ slice_index_or kinds at Whole = sym (get_or_from_slice_get kinds at c.kind.result Whole c.kind.ensures) in
    let next : c.new.result ≡ reading_at kinds layout (length c.loop-column.readings.items) =
    c.new.ensures ∙ (λ i. reading_of (kind i) (c.of.ensures i) (c.keeps.ensures i)) ∙ ap (reading_at kinds layout) (sym c.loop-column.invariant.0) in (
      omega (arith, c.push.ensures.len, c.loop-column.invariant.0),
      rw c.push.ensures.items (each-more c.loop-column.readings.items c.new.result (reading_at kinds layout) c.loop-column.invariant.1 next),
    )
