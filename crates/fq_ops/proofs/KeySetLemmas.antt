-- Sets of keys that are kept in another form.
use Rattle.std.proofs.Common.{◌≡◌, ℕ, zero, suc, ◌+◌, ◌<◌, ℤ, Bool, true, false, not, List, [], ◌∷◌, ◌++◌, map, length, get_or, nat_lt, Option, Some, None, Result, Ok, Err, refl, sym, ap, subst, ◌∙◌, if◌then◌else◌, cond, arith, true≢false}
use Rattle.std.specs.Prelude.{IsOk, position, slice_get, option_map}
use Rattle.std.specs.List.{list_any, position_or_len}
use Rattle.std.proofs.lemmas.List.{map-append, length-map}
use Rattle.std.proofs.lemmas.Option.{slice_get-map}
use Rattle.indexmap.specs.IndexSet.{insert_key}
use Rattle.fq_column.specs.Column.{Cells, cells_of, nullable}
use Rattle.fq_column.specs.Frame.{Fields, Name, Row, column_at, kinds_of, names_of, position_of, same_name, value_at}
use Rattle.fq_column.specs.Cell.{same_kind}
use Rattle.fq_column.specs.Schema.{kind_named}
use Rattle.fq_column.specs.declared.cells.Kind.{Kind}
use Rattle.fq_column.specs.declared.cells.Kind.TheVariants as kind
use Rattle.fq_column.specs.declared.faults.StepFault.{StepFault}
use Rattle.fq_column.specs.declared.cells.Cell.TheVariants as cell
use Rattle.fq_column.specs.declared.columns.Values.TheVariants.{Whole}
use Rattle.fq_ops.specs.Grouping.{key_at}
use Rattle.fq_ops.specs.Fields.{AreAt}
use Rattle.fq_ops.specs.Join.{join_schema, kinds_differ}
use Rattle.fq_ops.specs.KeySets.{IsWholeAt, IsWholeNamed, whole_key}
use Rattle.fq_ops.specs.declared.joins.How.{How}
use Rattle.fq_ops.proofs.JudgedFieldLemmas.{TellsName, tells-name}
use Rattle.fq_ops.proofs.KeyLemmas.{cell-read}
use Rattle.fq_ops.proofs.RefusalLemmas.{join-agree, join-known}
use Rattle.fq_column.proofs.ListLemmas.{any-mapped}
use Rattle.fq_column.proofs.PutLemmas.{position-cons, some_under}

-- a test of keys, and one of their forms
module _ {A B : Type 0} (f : A → B) (p : A → Bool) (q : B → Bool) (same : (a : A) → p a ≡ q (f a)) where
  pub place-mapped : (xs : List A) → position_or_len p xs ≡ position_or_len q (map f xs)
  place-mapped [] = refl
  place-mapped (x ∷ xs) = λ i. cond (not (same x i)) (1 + place-mapped xs i) 0

  pub position-mapped : (xs : List A) → position p xs ≡ position q (map f xs)
  position-mapped xs = λ i. cond (nat_lt (place-mapped xs i) (sym (length-map xs f) i)) (Some (place-mapped xs i)) None

module _ {A B : Type 0} (f : A → B) (eq : A → A → Bool) (other : B → B → Bool) (same : (a b : A) → eq a b ≡ other (f a) (f b)) where
  pub insert-mapped : (keys : List A) (key : A) → map f (insert_key eq keys key) ≡ insert_key other (map f keys) (f key)
  insert-mapped keys key = by (list_any (eq key) keys) ∙ ap (λ b. if b then map f keys else map f keys ++ f key ∷ []) (any-mapped f (eq key) (other (f key)) (same key) keys)
    where
      by : (b : Bool) → map f (if b then keys else keys ++ key ∷ []) ≡ (if b then map f keys else map f keys ++ f key ∷ [])
      by true = refl
      by false = map-append f keys (key ∷ [])

-- ---- keys of one whole number

-- the whole number of a row is its key
pub whole-read : (rows : List Row) (row : ℕ) (places : List ℕ) (array : List (Option ℤ)) (column : Cells) (value : Option ℤ) → length places ≡ 1 → column.cells ≡ column_at (get_or places 0 0) rows →
    cells_of (Whole array) ≡ column → slice_get array row ≡ Some value → whole_key value ≡ key_at places (get_or rows row [])
whole-read rows row [] array column value one at is g = absurd (omega (arith, one))
whole-read rows row (p ∷ q ∷ places) array column value one at is g = absurd (omega (arith, one))
whole-read rows row (p ∷ []) array column value one at is g =
    let stands : slice_get column.cells row ≡ Some (nullable cell.Whole value) =
    ap (λ (c : Cells). slice_get c.cells row) (sym is) ∙ slice_get-map (nullable cell.Whole) array row ∙ ap (option_map (nullable cell.Whole)) g in
    ap (λ x. x ∷ []) (cell-read rows row p column.cells (nullable cell.Whole value) at stands)

-- the cell of such a key at a place
pub whole-at : (values : List (Option ℤ)) (i place : ℕ) (value d : Option ℤ) → i < length values → place ≡ 0 → value ≡ get_or values i d → nullable cell.Whole value ≡ value_at place (get_or (map whole_key values) i [])
whole-at [] i place value d low first is = absurd (omega (arith, low))
whole-at (x ∷ values) zero zero value d low first is = ap (nullable cell.Whole) is
whole-at (x ∷ values) zero (suc place) value d low first is = absurd (omega (arith, first))
whole-at (x ∷ values) (suc i) place value d low first is = whole-at values i place value d (omega (arith, low)) first is

pub none-at : (values : List (Option ℤ)) (i place : ℕ) → i < length values → 0 < place → cell.Null ≡ value_at place (get_or (map whole_key values) i [])
none-at [] i place low later = absurd (omega (arith, low))
none-at (x ∷ values) zero zero low later = absurd (omega (arith, later))
none-at (x ∷ values) zero (suc place) low later = refl
none-at (x ∷ values) (suc i) place low later = none-at values i place (omega (arith, low)) later

-- ---- columns of whole numbers, by name and by place

kind-at : (fields : Fields) (name : Name) (i : ℕ) (k : Kind) → position_of name (names_of fields) ≡ Some i → kind_named fields name ≡ Ok k → slice_get (kinds_of fields) i ≡ Some k
kind-at [] name i k e g = absurd (cc)
kind-at (f ∷ fields) name i k e g = go (λ j a b. kind-at fields name j k a b) (same_name name f.0) i (sym (position-cons (same_name name) f.0 (names_of fields)) ∙ e) g
  where
    go : ((j : ℕ) → position_of name (names_of fields) ≡ Some j → kind_named fields name ≡ Ok k → slice_get (kinds_of fields) j ≡ Some k) → (b : Bool) (i : ℕ) →
        cond b (Some 0) (option_map suc (position_of name (names_of fields))) ≡ Some i → cond b (Ok f.1) (kind_named fields name) ≡ Ok k → slice_get (f.1 ∷ kinds_of fields) i ≡ Some k
    go rest true zero a g = cc
    go rest true (suc i) a g = absurd (cc)
    go rest false i a g = let w = some_under (position_of name (names_of fields)) i a in ap (slice_get (f.1 ∷ kinds_of fields)) (sym w.2) ∙ rest w.0 w.1 g

pub whole-places : (fields : Fields) (names : List Name) (places : List ℕ) → AreAt places names fields → IsWholeNamed fields names → IsWholeAt fields places
whole-places fields [] places at w = absurd (omega (arith, w.one))
whole-places fields (n ∷ m ∷ names) places at w = absurd (omega (arith, w.one))
whole-places fields (n ∷ []) [] at w = absurd (cc)
whole-places fields (n ∷ []) (p ∷ q ∷ places) at w = absurd (cc)
whole-places fields (n ∷ []) (p ∷ []) at w = record { one = refl; kind = kind-at fields n p kind.Whole (let e : position_of n (names_of fields) ≡ Some p = cc in e) w.kind }

-- a left key is of whole numbers where the right one is
pub whole-left : (how : How) (left right : Fields) (on : List Name) → IsOk (join_schema how left right on) → IsWholeNamed right on → IsWholeNamed left on
whole-left how left right on ok w = record { one = w.one; kind = agree (kind_named left n) refl }
  where
    n : Name
    n = get_or on 0 []

    low : 0 < length on
    low = omega (arith, w.one)

    same : (k : Kind) → not (same_kind k kind.Whole) ≡ false → k ≡ kind.Whole
    same kind.Whole e = refl
    same kind.Text e = absurd (cc)
    same kind.Truth e = absurd (cc)

    agree : (r : Result Kind StepFault) → kind_named left n ≡ r → kind_named left n ≡ Ok kind.Whole
    agree (Err f) e = absurd (true≢false (sym (join-known how left right on ok 0 [] low) ∙ (subst (TellsName left n) e (tells-name left n)).0))
    agree (Ok k) e = e ∙ ap Ok (same k ((λ i. kinds_differ (sym e i) (sym w.kind i)) ∙ join-agree how left right on ok 0 [] low))
