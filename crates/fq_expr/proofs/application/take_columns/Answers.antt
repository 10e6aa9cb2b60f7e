use Rattle.std.proofs.Common.{◌≡◌, ◌<◌, ◌++◌, ◌∷◌, [], ◌∙◌, ℕ, true, false, ap, sym, subst, map, get_or, length, reverse, arith, All}
use Rattle.std.specs.List.{list_any}
use Rattle.std.proofs.Math.ListN.{length-set}
use Rattle.std.proofs.lemmas.List.{get_or_default}
use Rattle.fq_column.specs.declared.cells.Kind.TheVariants as kind
use Rattle.fq_column.specs.Batch.{without_cells}
use Rattle.fq_column.specs.Column.{Cells}
use Rattle.fq_expr.specs.declared.application.Made.{Made}
use Rattle.fq_expr.specs.declared.application.Made.TheVariants.{Place}
use Rattle.fq_expr.specs.Made.{IfPlace, column_of, is_at}
use Rattle.fq_expr.proofs.MadeLemmas.{all-before, all-last, any-at, any-before, moved-other, taken-more}
use Rattle.fq_expr.proofs.application.take_columns.Goals.{In_ok-push, in-Column, in-Place+in_ok-copy-in-Place, in-Place-2}
use Rattle.fq_expr.proofs.application.take_columns.Goals as goal

-- what was taken is the last
last : (c : In_ok-push) → c.loop-one.made.items ≡ c.pop.new.self.items ++ c.in-Some.one ∷ []
last c = c.in-Some.ensures.items

-- a column that was not moved is as it was
there : (c : In_ok-push) (place : ℕ) (d : Cells) → list_any (is_at place) c.loop-one.made.items ≡ true → place < length c.loop-one.from.items → get_or c.loop-one.from.items place d ≡ get_or c.args.from.now.items place (without_cells kind.Whole)
there c place d some below = get_or_default c.loop-one.from.items place d (without_cells kind.Whole) below ∙ c.loop-one.invariant.intact place some

pub loop-one-preserved : goal.loop-one-preserved
loop-one-preserved c =
    let old = c.args.from.now.items in
    let from = c.loop-one.from.items in
    let made = c.pop.new.self.items in
    let one = c.in-Some.one in
    let P : Made → Type 0 = IfPlace (λ place. place < length old) in
    let places = subst (All P) (last c) c.loop-one.invariant.places in
    let its = all-last P made one places in
    let at : (place : ℕ) → one ≡ Place place → list_any (is_at place) c.loop-one.made.items ≡ true = λ place is. ap (list_any (is_at place)) (last c ∙ ap (λ m. made ++ m ∷ []) is) ∙ any-at place made in
    let below : (place : ℕ) → one ≡ Place place → place < length from = λ place is. let h : place < length old = subst P is its in omega (arith, h, c.loop-one.invariant.width) in
    let column : c.match-one.push ≡ column_of old one = elim c.match-one.branch [
      | in-Column w ↦ w.push-is ∙ ap (column_of old) (sym w.in-Column.is)
      | in-Place+in_ok-copy-in-Place w ↦
          w.push-is ∙ w.in_ok-copy-in-Place.ensures ∙ w.index.ensures ∙ there (goal.at.loop-one-preserved c).In_ok-push w.in-Place.place w.index.result.now (at w.in-Place.place w.in-Place.is) (below w.in-Place.place w.in-Place.is) ∙ ap (column_of old) (sym w.in-Place.is)
      | in-Place-2 w ↦
          w.push-is ∙ w.replace.ensures.value ∙ w.index_mut.ensures.value ∙ there (goal.at.loop-one-preserved c).In_ok-push w.in-Place-2.place w.index_mut.result.now (at w.in-Place-2.place w.in-Place-2.is) (below w.in-Place-2.place w.in-Place-2.is) ∙ ap (column_of old) (sym w.in-Place-2.is)
    ] in
    let before : (p : ℕ) → list_any (is_at p) made ≡ true → list_any (is_at p) c.loop-one.made.items ≡ true = λ p some. ap (list_any (is_at p)) (last c) ∙ any-before p made one some in
    record {
      columns = ap (λ l. map (column_of old) made ++ reverse l) c.in_ok-push.ensures.items ∙ taken-more old made one c.loop-one.columns.items _ c.match-one.push column (ap (λ l. map (column_of old) l ++ reverse c.loop-one.columns.items) (sym (last c)) ∙ c.loop-one.invariant.columns);
      places = all-before P made one places;
      width = elim c.match-one.branch [
        | in-Column w ↦ ap (λ v. length v.items) w.from-is ∙ c.loop-one.invariant.width
        | in-Place+in_ok-copy-in-Place w ↦ ap (λ v. length v.items) w.from-is ∙ c.loop-one.invariant.width
        | in-Place-2 w ↦ ap (λ v. length v.items) w.from-is ∙ length-set from w.in-Place-2.place w.replace.new.dest ∙ c.loop-one.invariant.width
      ];
      intact = λ p some. elim c.match-one.branch [
        | in-Column w ↦ ap (λ v. get_or v.items p (without_cells kind.Whole)) w.from-is ∙ c.loop-one.invariant.intact p (before p some)
        | in-Place+in_ok-copy-in-Place w ↦ ap (λ v. get_or v.items p (without_cells kind.Whole)) w.from-is ∙ c.loop-one.invariant.intact p (before p some)
        | in-Place-2 w ↦
            let both : Place w.in-Place.place ≡ Place w.in-Place-2.place = sym w.in-Place.is ∙ w.in-Place-2.is in
            let same : w.in-Place.place ≡ w.in-Place-2.place = cc in
            let none : list_any (is_at w.in-Place-2.place) made ≡ false = ap (λ q. list_any (is_at q) made) (sym same) ∙ sym (w.has_place.ensures ∙ ap (list_any (is_at w.in-Place.place)) w.as_slice.ensures.value) ∙ w.if-has_place.false in
            ap (λ v. get_or v.items p (without_cells kind.Whole)) w.from-is
            ∙ moved-other old from made w.in-Place-2.place p w.replace.new.dest (without_cells kind.Whole) none some (c.loop-one.invariant.intact p (before p some))
      ];
    }
