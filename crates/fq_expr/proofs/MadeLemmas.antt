-- Columns that items were evaluated to, made or named by their place.
use Rattle.std.proofs.Common.{◌≡◌, ◌==◌, ◌||◌, ◌++◌, ◌∙◌, ℕ, zero, suc, ◌<◌, ◌≤◌, Bool, true, false, List, [], ◌∷◌, length, map, take, set, get_or, reverse, Option, Some, None, Ok, IfSome, refl, ap, sym, subst, arith, slice_index_or}
use Rattle.std.specs.Prelude.{All, option_map}
use Rattle.std.specs.Option.{option_map_or}
use Rattle.std.specs.List.{list_any, position, slice_get}
use Rattle.std.proofs.lemmas.Bool.Decides.{nat_tests}
use Rattle.std.proofs.Math.Seq.{get_or-append_seam}
use Rattle.std.proofs.lemmas.List.{append_assoc, get_or_append_left, get_or-map, get_or-set_other, length-append, length-map, length-take-le, map-append, reverse-append, take_all}
use Rattle.std.proofs.lemmas.List.Elements.{All-append, All-cons, All-nil}
use Rattle.std.proofs.lemmas.Bool.{or_right}
use Rattle.fq_column.specs.declared.cells.Cell.TheVariants as cell
use Rattle.fq_column.specs.declared.cells.Kind.TheVariants as kind
use Rattle.fq_column.specs.Batch.{StandsIn, frame_of, height_of, kind_of_cells, without_cells}
use Rattle.fq_column.specs.Column.{Cells}
use Rattle.fq_column.specs.Frame.{Field, Frame, Name, column_at, kinds_of, names_of, position_of, same_name, value_at}
use Rattle.fq_column.specs.Lists.{before_missing}
use Rattle.fq_column.proofs.BatchLemmas.{changed, column_at-rows_of, of_height}
use Rattle.fq_column.proofs.NameLemmas.{kind_named-at, position-here, position-past}
use Rattle.fq_column.proofs.SchemaLemmas.{slice_get-at}
use Rattle.fq_expr.specs.declared.application.Made.{Made}
use Rattle.fq_expr.specs.declared.application.Made.TheVariants.{Column, Place}
use Rattle.fq_expr.specs.declared.operands.Outcome.{Outcome}
use Rattle.fq_expr.specs.Evaluated.{IsOutcome}
use Rattle.fq_expr.specs.Expression.{Item, column}
use Rattle.fq_expr.specs.Made.{AreEvaluated, ArePlaces, IfPlace, IsPlaceOf, column_in, column_of, first_of_column, is_at, made_column}
use Rattle.fq_expr.specs.Operand.{cells_in_rows, kind_in_rows}
use Rattle.fq_expr.specs.Outputs.{AreOutputs, SoFar}
use Rattle.fq_expr.specs.Value.{value_of}
use Rattle.fq_expr.proofs.EvaluatedItems.{Fits, all-items, item-faults, item-has-values}
use Rattle.fq_expr.proofs.EvaluationLemmas.{length-cells_in_rows}
use Rattle.fq_expr.proofs.PrefixLemmas.{map-take}

-- values of which none is missing
never-missing : {X Y : Type 0} (f : X → Option Y) (g : X → Y) (xs : List X) → ((x : X) → f x ≡ Some (g x)) → before_missing (map f xs) ≡ map g xs
never-missing f g [] h = refl
never-missing f g (x ∷ xs) h = ap (λ o. before_missing (o ∷ map f xs)) (h x) ∙ ap (λ ys. g x ∷ ys) (never-missing f g xs h)

-- a place that is found is one of the list
position-step : {X : Type 0} (p : X → Bool) (x : X) (xs : List X) (i : ℕ) → ((j : ℕ) → position p xs ≡ Some j → j < length xs) → position p (x ∷ xs) ≡ Some i → i < suc (length xs)
position-step p x xs i rest e = by (p x) refl
  where
    further : (o : Option ℕ) → position p xs ≡ o → option_map suc o ≡ Some i → i < suc (length xs)
    further None f g = absurd (cc)
    further (Some j) f g = let same : suc j ≡ i = cc in omega (arith, same, rest j f)

    by : (b : Bool) → p x ≡ b → i < suc (length xs)
    by true here = let same : Some 0 ≡ Some i = sym (position-here p x xs here) ∙ e in let first : 0 ≡ i = cc in omega (arith, first)
    by false past = further (position p xs) refl (sym (position-past p x xs past) ∙ e)

position-within : {X : Type 0} (p : X → Bool) (xs : List X) (i : ℕ) → position p xs ≡ Some i → i < length xs
position-within p [] i e = absurd (cc)
position-within p (x ∷ xs) i e = position-step p x xs i (λ j f. position-within p xs j f) e

get_or-there : (ks : List kind.the_data) (i : ℕ) → i < length ks → slice_index_or ks i kind.Whole ≡ get_or ks i (slice_index_or ks i kind.Whole)
get_or-there [] i h = absurd (omega (arith, h))
get_or-there (k ∷ ks) zero h = refl
get_or-there (k ∷ ks) (suc i) h = get_or-there ks i (omega (arith, h))

-- the place of a name's column
pub place-of : (f : Frame) (name : Name) (o : Option ℕ) → o ≡ position_of name (names_of f.fields) → IfSome o (IsPlaceOf f (column name))
place-of f name None e = tt
place-of f name (Some i) e =
    let below : i < length f.fields = omega (arith, position-within (same_name name) (names_of f.fields) i (sym e), length-map f.fields (λ (g : Field). g.0)) in
    let there = slice_get-at (kinds_of f.fields) i (slice_index_or (kinds_of f.fields) i kind.Whole) (omega (arith, below, length-map f.fields (λ (g : Field). g.1))) (get_or-there (kinds_of f.fields) i (omega (arith, below, length-map f.fields (λ (g : Field). g.1)))) in
    record {
      below = below;
      kind = kind_named-at f.fields name i (slice_index_or (kinds_of f.fields) i kind.Whole) (sym e) there;
      values = λ row. ap (λ (p : Option ℕ). Some (option_map_or (λ j. value_at j row) p cell.Null)) (sym e);
    }

module _ (f : Frame) (x : Item) (n : ℕ) (u : Outcome) (is : IsOutcome f.fields x.1 (take n f.rows) u) where
  -- what an item was evaluated to has its values
  pub made-fits : (place : Option ℕ) (one : Made) → n ≤ length f.rows → IfSome place (IsPlaceOf f x.1) → one ≡ option_map_or Place place (Column (record { kind = kind_in_rows u.operand; cells = cells_in_rows u.rows u.operand }))
      → Fits (made_column f one) u
  made-fits None one within p e = subst (λ m. Fits (made_column f m) u) (sym e) (refl, take_all u.rows (cells_in_rows u.rows u.operand) (omega (arith, length-cells_in_rows u.rows u.operand is.has_rows)))
  made-fits (Some i) one within p e =
      let values : cells_in_rows u.rows u.operand ≡ map (value_at i) (take n f.rows) = is.cells ∙ never-missing (value_of f.fields x.1) (value_at i) (take n f.rows) p.values in
      let count : u.rows ≡ n = omega (arith, length-cells_in_rows u.rows u.operand is.has_rows, ap length values, length-map (take n f.rows) (value_at i), length-take-le n f.rows within) in
      let both : Ok (column_in f i).kind ≡ Ok (kind_in_rows u.operand) = sym p.kind ∙ is.kind in
      let same : (column_in f i).kind ≡ kind_in_rows u.operand = cc in
      subst (λ m. Fits (made_column f m) u) (sym e) (same, ap (λ k. take k (column_at i f.rows)) count ∙ sym (map-take (value_at i) n f.rows) ∙ sym values)

  pub made-within : (place : Option ℕ) (one : Made) → IfSome place (IsPlaceOf f x.1) → one ≡ option_map_or Place place (Column (record { kind = kind_in_rows u.operand; cells = cells_in_rows u.rows u.operand }))
      → IfPlace (λ i. i < length f.fields) one
  made-within None one p e = subst (IfPlace (λ i. i < length f.fields)) (sym e) tt
  made-within (Some i) one p e = subst (IfPlace (λ i. i < length f.fields)) (sym e) p.below

-- one more item
module _ (f : Frame) (items : List Item) (made : List Made) (n : ℕ) (item : Option ℕ) (x : Item) (u : Outcome) (so : AreEvaluated f items made n item) (is : IsOutcome f.fields x.1 (take n f.rows) u)
    (place : Option ℕ) (one : Made) (p : IfSome place (IsPlaceOf f x.1)) (e : one ≡ option_map_or Place place (Column (record { kind = kind_in_rows u.operand; cells = cells_in_rows u.rows u.operand }))) where
  more-places : ArePlaces (length f.fields) (made ++ one ∷ [])
  more-places = All-append (IfPlace (λ i. i < length f.fields)) made (one ∷ []) so.places (All-cons (IfPlace (λ i. i < length f.fields)) one [] (made-within f x n u is place one p e) (All-nil (IfPlace (λ i. i < length f.fields))))

  more : map (made_column f) (made ++ one ∷ []) ≡ map (made_column f) made ++ made_column f one ∷ []
  more = map-append (made_column f) made (one ∷ [])

  pub evaluated-faults : u.rows < n → AreEvaluated f (items ++ x ∷ []) (made ++ one ∷ []) u.rows (Some (length items))
  evaluated-faults h = record {
    places = more-places;
    columns = subst (λ cs. SoFar f.fields (items ++ x ∷ []) f.rows cs u.rows (Some (length items))) (sym more)
        (item-faults f.fields items f.rows (map (made_column f) made) n item x u so.columns is (made_column f one) (made-fits f x n u is place one so.columns.within p e) h);
  }

  pub evaluated-on : n ≤ u.rows → AreEvaluated f (items ++ x ∷ []) (made ++ one ∷ []) n item
  evaluated-on h = record {
    places = more-places;
    columns = subst (λ cs. SoFar f.fields (items ++ x ∷ []) f.rows cs n item) (sym more)
        (item-has-values f.fields items f.rows (map (made_column f) made) n item x u so.columns is (made_column f one) (made-fits f x n u is place one so.columns.within p e) h);
  }

-- the columns, cut
pub first-of-made : (f : Frame) (n : ℕ) (made : List Made) → map (λ m. first_of_column n (made_column f m)) made ≡ map (changed (take n)) (map (made_column f) made)
first-of-made f n [] = refl
first-of-made f n (m ∷ ms) = ap (λ cs. first_of_column n (made_column f m) ∷ cs) (first-of-made f n ms)

pub made-outputs : (f : Frame) (items : List Item) (made : List Made) (n k : ℕ) (item other : Option ℕ) (columns : List Cells) → AreEvaluated f items made n item → columns ≡ map (λ m. first_of_column n (made_column f m)) made
    → (k ≡ n) × (other ≡ item) → AreOutputs f.fields items f.rows columns k other
made-outputs f items made n k item other columns so e (count, fault) =
    coe 0 1 (i. AreOutputs f.fields items f.rows (sym (e ∙ first-of-made f n made) i) (sym count i) (sym fault i)) (all-items f.fields items f.rows (map (made_column f) made) n item so.columns)

-- the columns of a frame's own, where the others stand
pub column-of-made : (f : Frame) (columns : List Cells) (made : List Made) → ((place : ℕ) → place < length f.fields → get_or columns place (without_cells kind.Whole) ≡ column_in f place) → ArePlaces (length f.fields) made
    → map (column_of columns) made ≡ map (made_column f) made
column-of-made f columns [] h all = refl
column-of-made f columns (m ∷ ms) h all = λ i. one m (all 0 m (omega arith)) i ∷ column-of-made f columns ms h (λ k d below. all (suc k) d (omega (arith, below))) i
  where
    one : (m : Made) → IfPlace (λ place. place < length f.fields) m → column_of columns m ≡ made_column f m
    one (Column c) p = refl
    one (Place place) p = h place p

-- ---- columns that are copied or moved

-- the column that stands at a place
pub placed : (f : Frame) (place : ℕ) (c : Cells) → slice_get (kinds_of f.fields) place ≡ Some c.kind → c.cells ≡ column_at place f.rows → c ≡ column_in f place
placed f place c k e = λ i. record { kind = sym (slice_index_or-there (kinds_of f.fields) place c.kind k) i; cells = e i }
  where
    slice_index_or-there : (ks : List kind.the_data) (i : ℕ) (k : kind.the_data) → slice_get ks i ≡ Some k → slice_index_or ks i kind.Whole ≡ k
    slice_index_or-there [] i k e = absurd (cc)
    slice_index_or-there (x ∷ ks) zero k e = cc
    slice_index_or-there (x ∷ ks) (suc i) k e = slice_index_or-there ks i k e

-- one that stands among others
pub any-at : (place : ℕ) (made : List Made) → list_any (is_at place) (made ++ Place place ∷ []) ≡ true
any-at place [] = ap (λ b. b || false) (same_place place)
  where
    same_place : (n : ℕ) → (n == n) ≡ true
    same_place n = grind (arith, nat_tests)
any-at place (m ∷ ms) = or_right (is_at place m) (list_any (is_at place) (ms ++ Place place ∷ [])) (any-at place ms)

pub any-before : (place : ℕ) (made : List Made) (one : Made) → list_any (is_at place) made ≡ true → list_any (is_at place) (made ++ one ∷ []) ≡ true
any-before place [] one e = absurd (cc)
any-before place (m ∷ ms) one e = any-step (is_at place m) (list_any (is_at place) ms) (list_any (is_at place) (ms ++ one ∷ [])) (λ h. any-before place ms one h) e
  where
    any-step : (b rest after : Bool) → (rest ≡ true → after ≡ true) → (b || rest) ≡ true → (b || after) ≡ true
    any-step true rest after h f = refl
    any-step false rest after h f = h f

-- what is true of all holds of those before the last
pub all-before : {X : Type 0} (P : X → Type 0) (xs : List X) (x : X) → All P (xs ++ x ∷ []) → All P xs
all-before P xs x all k d below = subst P (get_or_append_left xs (x ∷ []) d k below) (all k d (omega (arith, below, length-append xs (x ∷ []))))

pub all-last : {X : Type 0} (P : X → Type 0) (xs : List X) (x : X) → All P (xs ++ x ∷ []) → P x
all-last P xs x all = subst P (get_or-append_seam xs x [] x) (all (length xs) x (omega (arith, length-append xs (x ∷ []))))

-- one column of the others was moved
pub moved-other : (old now : List Cells) (made : List Made) (place p : ℕ) (c d : Cells) → list_any (is_at place) made ≡ false → list_any (is_at p) made ≡ true → get_or now p d ≡ get_or old p d → get_or (set now place c) p d ≡ get_or old p d
moved-other old now made place p c d none some e =
    get_or-set_other now place p c d (λ same. let bad : true ≡ false = sym (ap (λ q. list_any (is_at q) made) (sym same) ∙ some) ∙ none in cc bad) ∙ e

-- one more is taken from the end
pub taken-more : (old : List Cells) (made : List Made) (one : Made) (columns whole : List Cells) (c : Cells) → c ≡ column_of old one
    → map (column_of old) (made ++ one ∷ []) ++ reverse columns ≡ whole → map (column_of old) made ++ reverse (columns ++ c ∷ []) ≡ whole
taken-more old made one columns whole c e h =
    ap (λ l. map (column_of old) made ++ l) (reverse-append columns (c ∷ []) ∙ ap (λ d. d ∷ reverse columns) e)
    ∙ sym (append_assoc (map (column_of old) made) (column_of old one ∷ []) (reverse columns))
    ∙ ap (λ l. l ++ reverse columns) (sym (map-append (column_of old) made (one ∷ [])))
    ∙ h

-- the columns of a frame are those at its places
pub stands-at : (f : Frame) (columns : List Cells) → StandsIn f.fields columns → frame_of f.fields columns ≡ f → (place : ℕ) → place < length f.fields → get_or columns place (without_cells kind.Whole) ≡ column_in f place
stands-at f columns stands is place below =
    let width : length columns ≡ length f.fields = sym (length-map columns kind_of_cells) ∙ ap length stands.kinds ∙ length-map f.fields (λ (g : Field). g.1) in
    let c = get_or columns place (without_cells kind.Whole) in
    let kinds : slice_get (kinds_of f.fields) place ≡ Some c.kind =
    ap (λ ks. slice_get ks place) (sym stands.kinds) ∙ slice_get-at (map kind_of_cells columns) place c.kind (omega (arith, below, width, length-map columns kind_of_cells)) (sym (get_or-map kind_of_cells columns place (without_cells kind.Whole) c.kind (omega (arith, below, width)))) in
    placed f place c kinds (column_at-rows_of (height_of columns) columns place (without_cells kind.Whole) (of_height f.fields columns stands) (omega (arith, below, width)) ∙ ap (λ (g : Frame). column_at place g.rows) is)
