-- What a draft says: the sources of files, and the fields that their columns have counted.
use Rattle.std.proofs.Common.{◌≡◌, ◌∙◌, ◌+◌, ◌++◌, ◌<◌, ◌≤◌, ◌≢◌, ℕ, zero, suc, Bool, true, false, List, [], ◌∷◌, Err, Ok, Result, Some, ap, append_assoc, arith, below_more, drop, get_or, inl, inr, length, length-append, min, refl, reverse, set, slice_get, string_bytes, subst, sym}
use Rattle.std.specs.Prelude.{◌==◌, ◌&&◌, ◌⊎◌, IfOk, String}
use Rattle.std.specs.Cmp.Lexicographic.{bytes_decides, pointwise}
use Rattle.std.specs.Global.{Global}
use Rattle.std.specs.List.{flat_map, list_all}
use Rattle.std.proofs.lemmas.Bool.Decides.{nat_tests}
use Rattle.std.proofs.lemmas.Option.{same_Some, slice_get_within}
use Rattle.std.proofs.lemmas.List.{append-nil, reverse-append, same_from_push}
use Rattle.fq_column.specs.Frame.{Name, same_name}
use Rattle.fq_notation.specs.Notation.{notation_named}
use Rattle.fq_csv.specs.File.{Record}
use Rattle.fq_review.specs.Checked.{names_in}
use Rattle.fq_review.specs.Drafted.{AreSourcesOf, BeginsOther, HasCounted, HasTaken, IsSourceOf, fields_at, has_header}
use Rattle.fq_review.specs.declared.drafts.Reading.{Reading}
use Rattle.fq_review.specs.declared.drafts.Source.{Source}
use Rattle.fq_review.specs.declared.guesses.Guess.{Guess}

-- what holds of a result, by three other facts
pub ok-of-three : {X E : Type 0} {P Q R S : X → Type 0} (result : Result X E) → ((x : X) → P x → Q x → R x → S x) → IfOk result P → IfOk result Q → IfOk result R → IfOk result S
ok-of-three (Ok x) all p q r = all x p q r
ok-of-three (Err e) all p q r = tt

-- ---- lists

last-of : {X : Type 0} (xs : List X) → 0 < length xs → (init : List X) × (x : X) × (xs ≡ init ++ x ∷ [])
last-of [] h = absurd (omega (arith, h))
last-of (x ∷ []) h = ([], x, refl)
last-of (x ∷ y ∷ xs) h = let r = last-of (y ∷ xs) (omega arith) in (x ∷ r.0, r.1, ap (λ l. x ∷ l) r.2)

not-pushed : {X : Type 0} (init : List X) (x : X) → [] ≡ init ++ x ∷ [] → ⊥
not-pushed [] x e = cc e
not-pushed (y ∷ init) x e = cc e

pub at-push : {X : Type 0} (xs : List X) (y x : X) (i : ℕ) → slice_get (xs ++ y ∷ []) i ≡ Some x → (slice_get xs i ≡ Some x) ⊎ (y ≡ x)
at-push [] y x zero e = inr (cc)
at-push [] y x (suc i) e = absurd (cc)
at-push (z ∷ xs) y x zero e = inl e
at-push (z ∷ xs) y x (suc i) e = at-push xs y x i e

set-other : {X : Type 0} (xs : List X) (n i : ℕ) (y : X) → n ≢ i → slice_get (set xs n y) i ≡ slice_get xs i
set-other [] n i y h = refl
set-other (x ∷ xs) zero zero y h = absurd (h refl)
set-other (x ∷ xs) zero (suc i) y h = refl
set-other (x ∷ xs) (suc n) zero y h = refl
set-other (x ∷ xs) (suc n) (suc i) y h = set-other xs n i y (λ e. h (ap suc e))

set-there : {X : Type 0} (xs : List X) (n : ℕ) (y x : X) → slice_get xs n ≡ Some x → slice_get (set xs n y) n ≡ Some y
set-there [] n y x e = absurd (cc)
set-there (z ∷ xs) zero y x e = refl
set-there (z ∷ xs) (suc n) y x e = set-there xs n y x e

pub one-more-done : (all done more : List Record) (row : Record) (rest : List Record) → all ≡ done ++ more → more ≡ row ∷ rest → all ≡ (done ++ row ∷ []) ++ rest
one-more-done all done more row rest e h = e ∙ ap (λ m. done ++ m) h ∙ sym (append_assoc done (row ∷ []) rest)

-- ---- the rows of files

rows-less : (files : List (List Record)) (header : Record) → flat_map (drop 1) (files ++ (header ∷ []) ∷ []) ≡ flat_map (drop 1) files
rows-less [] header = refl
rows-less (f ∷ files) header = ap (λ r. drop 1 f ++ r) (rows-less files header)

rows-more : (files : List (List Record)) (header : Record) (rows : List Record) → flat_map (drop 1) (files ++ (header ∷ rows) ∷ []) ≡ flat_map (drop 1) files ++ rows
rows-more [] header rows = append-nil rows
rows-more (f ∷ files) header rows = ap (λ r. drop 1 f ++ r) (rows-more files header rows) ∙ sym (append_assoc (drop 1 f) (flat_map (drop 1) files) rows)

-- ---- their headers

header-alone : (names : List Name) (files : List (List Record)) (header : Record) (rows : List Record) →
    list_all (has_header names) (files ++ (header ∷ rows) ∷ []) ≡ list_all (has_header names) (files ++ (header ∷ []) ∷ [])
header-alone names [] header rows = refl
header-alone names (f ∷ files) header rows = ap (λ b. has_header names f && b) (header-alone names files header rows)

one-header-more : (names : List Name) (files : List (List Record)) (header : Record) → pointwise same_name names header ≡ true → list_all (has_header names) files ≡ true →
    list_all (has_header names) (files ++ (header ∷ []) ∷ []) ≡ true
one-header-more names [] header same all = ap (λ b. b && true) same
one-header-more names (f ∷ files) header same all = by (one-header-more names files header same) (has_header names f) refl
  where
    by : (list_all (has_header names) files ≡ true → list_all (has_header names) (files ++ (header ∷ []) ∷ []) ≡ true) → (b : Bool) → has_header names f ≡ b →
        list_all (has_header names) ((f ∷ files) ++ (header ∷ []) ∷ []) ≡ true
    by rest true e = ap (λ b. b && list_all (has_header names) (files ++ (header ∷ []) ∷ [])) e ∙ rest (sym (ap (λ b. b && list_all (has_header names) files) e) ∙ all)
    by rest false e = absurd (let bad : false ≡ true = sym (ap (λ b. b && list_all (has_header names) files) e) ∙ all in cc bad)

pub same-names : (names : List Name) → pointwise same_name names names ≡ true
same-names [] = refl
same-names (n ∷ names) = ap (λ b. b && pointwise same_name names names) ((bytes_decides n n).1 refl) ∙ same-names names

begins-alone : (source : Source) (files : List (List Record)) (header : Record) (rows : List Record) →
    BeginsOther source (files ++ (header ∷ []) ∷ []) → BeginsOther source (files ++ (header ∷ rows) ∷ [])
begins-alone source [] header rows h = h
begins-alone source (f ∷ files) header rows h = h

begins-longer : (source : Source) (files more : List (List Record)) → 0 < length files → BeginsOther source files → BeginsOther source (files ++ more)
begins-longer source [] more some h = absurd (omega (arith, some))
begins-longer source (f ∷ files) more some h = h

begins-front : (source : Source) (files more : List (List Record)) → BeginsOther source (files ++ more) → BeginsOther source files
begins-front source [] more h = tt
begins-front source (f ∷ files) more h = h

-- ---- sources

module _ (reading : Reading) where
  -- the files of a source with these sources before it
  pub record Split (front : List Source) (source : Source) (files : List (List Record)) : Type 0 where
    pub before : List (List Record)
    pub own : List (List Record)
    pub are : files ≡ before ++ own
    pub first : AreSourcesOf reading front before
    pub others : (init : List Source) (x : Source) → front ≡ init ++ x ∷ [] → BeginsOther x own
    pub last : IsSourceOf reading source own

  others-more : (y : Source) (front : List Source) (before own : List (List Record)) → AreSourcesOf reading front before → BeginsOther y (before ++ own)
      → ((init : List Source) (x : Source) → front ≡ init ++ x ∷ [] → BeginsOther x own) → (init : List Source) (x : Source) → y ∷ front ≡ init ++ x ∷ [] → BeginsOther x own
  others-more y front before own first begins others [] x k =
      let same : y ≡ x = cc in
      let none : front ≡ [] = cc in
      let empty : before ≡ [] = subst (λ fs. AreSourcesOf reading fs before) none first in
      subst (λ z. BeginsOther z own) same (subst (λ b. BeginsOther y (b ++ own)) empty begins)
  others-more y front before own first begins others (z ∷ init) x k = others init x (let e : front ≡ init ++ x ∷ [] = cc in e)

  pub split : (front : List Source) (source : Source) (files : List (List Record)) → AreSourcesOf reading (front ++ source ∷ []) files → Split front source files
  split [] source files (own, rest, e, is, begins, none) = record {
    before = [];
    own = own;
    are = e ∙ ap (λ r. own ++ r) none ∙ append-nil own;
    first = refl;
    others = λ init x k. absurd (not-pushed init x k);
    last = is;
  }
  split (y ∷ front) source files (own, rest, e, is, begins, more) =
      let h = split front source rest more in
      let here = subst (BeginsOther y) h.are begins in
      record {
        before = own ++ h.before;
        own = h.own;
        are = e ∙ ap (λ r. own ++ r) h.are ∙ sym (append_assoc own h.before h.own);
        first = (own, h.before, refl, is, begins-front y h.before h.own here, h.first);
        others = others-more y front h.before h.own h.first here h.others;
        last = h.last;
      }

  begins-both : (y : Source) (front : List Source) (rest own : List (List Record)) → AreSourcesOf reading front rest → BeginsOther y rest → (front ≡ [] → BeginsOther y own) → BeginsOther y (rest ++ own)
  begins-both y [] rest own none begins h = subst (λ r. BeginsOther y (r ++ own)) (sym none) (h refl)
  begins-both y (z ∷ front) [] own (mine, more, e, is, other, others) begins h =
      let some : 0 < length mine = is.some_file in
      absurd (omega (arith, some, ap length e, length-append mine more))
  begins-both y (z ∷ front) (f ∷ rest) own are begins h = begins

  pub join : (front : List Source) (source : Source) (before own : List (List Record)) → AreSourcesOf reading front before
      → ((init : List Source) (x : Source) → front ≡ init ++ x ∷ [] → BeginsOther x own) → IsSourceOf reading source own → AreSourcesOf reading (front ++ source ∷ []) (before ++ own)
  join [] source before own none others is = (own, [], ap (λ b. b ++ own) none ∙ sym (append-nil own), is, tt, refl)
  join (y ∷ front) source before own (mine, rest, e, is-y, begins, more) others is = (
    mine,
    rest ++ own,
    ap (λ b. b ++ own) e ∙ append_assoc mine rest own,
    is-y,
    begins-both y front rest own more begins (λ k. others [] y (ap (λ fs. y ∷ fs) k)),
    join front source rest own more (λ init x k. others (y ∷ init) x (ap (λ fs. y ∷ fs) k)) is,
  )

  -- a file more, of which only the header is read, of the last source
  pub one-file-more : (front : List Source) (source longer : Source) (files : List (List Record)) (header : Record) → AreSourcesOf reading (front ++ source ∷ []) files
      → longer.files ≡ min (source.files + 1) 65535 → longer.columns ≡ source.columns → pointwise same_name (names_in source.columns.items) header ≡ true
      → AreSourcesOf reading (front ++ longer ∷ []) (files ++ (header ∷ []) ∷ [])
  one-file-more front source longer files header are count columns same =
      let h = split front source files are in
      let own = h.own ++ (header ∷ []) ∷ [] in
      let size : length own ≡ length h.own + 1 = length-append h.own ((header ∷ []) ∷ []) in
      subst (AreSourcesOf reading (front ++ longer ∷ [])) (sym (append_assoc h.before h.own ((header ∷ []) ∷ [])) ∙ ap (λ fs. fs ++ (header ∷ []) ∷ []) (sym h.are))
      (join front longer h.before own h.first (λ init x k. begins-longer x h.own ((header ∷ []) ∷ []) h.last.some_file (h.others init x k))
      (record {
        some_file = omega (arith, size);
        count = omega (arith, size, count, h.last.count);
        headers = ap (λ (cs : List (String Global × Guess)). list_all (has_header (names_in cs)) own) (ap (λ (v : _). v.items) columns) ∙ one-header-more (names_in source.columns.items) h.own header same h.last.headers;
        taken = subst (λ rows. HasTaken reading longer (reverse rows)) (sym (rows-less h.own header)) (λ i column at. let t = h.last.taken i column (subst (λ v. slice_get v.items i ≡ Some column) columns at) in (t.0, subst (λ (n : ℕ). HasCounted reading.nulls column.1 (fields_at n i (reverse (flat_map (drop 1) h.own)))) (ap (λ (v : _). length v.items) (sym columns)) t.1));
      }))

  -- a file more, of which only the header is read, of a new source
  pub one-source-more : (front : List Source) (source : Source) (files : List (List Record)) (header : Record) → AreSourcesOf reading front files
      → ((init : List Source) (x : Source) → front ≡ init ++ x ∷ [] → pointwise same_name (names_in x.columns.items) header ≡ false)
      → source.files ≡ 1 → pointwise same_name (names_in source.columns.items) header ≡ true → HasTaken reading source []
      → AreSourcesOf reading (front ++ source ∷ []) (files ++ (header ∷ []) ∷ [])
  one-source-more front source files header are others count same taken = join front source files ((header ∷ []) ∷ []) are others (record {
    some_file = omega arith;
    count = count;
    headers = ap (λ b. b && true) same;
    taken = taken;
  })

  -- the rows of the last file
  pub with-rows : (front : List Source) (source longer : Source) (files : List (List Record)) (header : Record) (rows : List Record)
      → AreSourcesOf reading (front ++ source ∷ []) (files ++ (header ∷ []) ∷ []) → longer.files ≡ source.files → names_in longer.columns.items ≡ names_in source.columns.items
      → ((before : List Record) → HasTaken reading source before → HasTaken reading longer (reverse rows ++ before))
      → AreSourcesOf reading (front ++ longer ∷ []) (files ++ (header ∷ rows) ∷ [])
  with-rows front source longer files header rows are count names taken =
      let h = split front source (files ++ (header ∷ []) ∷ []) are in
      let end = last-of h.own h.last.some_file in
      let both = same_from_push files (h.before ++ end.0) (header ∷ []) end.1 (h.are ∙ ap (λ o. h.before ++ o) end.2 ∙ sym (append_assoc h.before end.0 (end.1 ∷ []))) in
      let mine : h.own ≡ end.0 ++ (header ∷ []) ∷ [] = end.2 ∙ ap (λ f. end.0 ++ f ∷ []) (sym both.1) in
      let own = end.0 ++ (header ∷ rows) ∷ [] in
      let size : length own ≡ length h.own = length-append end.0 ((header ∷ rows) ∷ []) ∙ sym (ap length mine ∙ length-append end.0 ((header ∷ []) ∷ [])) in
      subst (AreSourcesOf reading (front ++ longer ∷ [])) (sym (append_assoc h.before end.0 ((header ∷ rows) ∷ [])) ∙ ap (λ fs. fs ++ (header ∷ rows) ∷ []) (sym both.0))
      (join front longer h.before own h.first (λ init x k. begins-alone x end.0 header rows (subst (BeginsOther x) mine (h.others init x k)))
      (record {
        some_file = omega (arith, size, h.last.some_file);
        count = count ∙ h.last.count ∙ ap (λ n. min n 65535) (sym size);
        headers = ap (λ ns. list_all (has_header ns) own) names ∙ header-alone (names_in source.columns.items) end.0 header rows ∙ ap (list_all (has_header (names_in source.columns.items))) (sym mine) ∙ h.last.headers;
        taken = subst (HasTaken reading longer) (sym (ap reverse (rows-more end.0 header rows) ∙ reverse-append (flat_map (drop 1) end.0) rows))
            (taken (reverse (flat_map (drop 1) end.0)) (subst (λ rs. HasTaken reading source (reverse rs)) (ap (flat_map (drop 1)) mine ∙ rows-less end.0 header) h.last.taken));
      }))

-- ---- rows

abbrev pub Columns : Type 0
Columns = List (String Global × Guess)

-- a column that has counted one field more
abbrev pub CountsField : List (List ℕ) → List ℕ → String Global × Guess → String Global × Guess → Type 0
CountsField nulls field before after =
    (after.0 ≡ before.0) × (after.1.notation ≡ before.1.notation) × ((fields : List (List ℕ)) → HasCounted nulls before.1 fields → HasCounted nulls after.1 (field ∷ fields))

module _ (nulls : List (List ℕ)) (row : Record) (old : Columns) where
  -- each of the first columns has counted its field of the row
  abbrev pub FirstCounted : Columns → ℕ → Type 0
  FirstCounted columns n = (i : ℕ) → i < n → (column : String Global × Guess) → slice_get columns i ≡ Some column →
      (before : String Global × Guess) × (slice_get old i ≡ Some before) × CountsField nulls (get_or row i []) before column

  -- the others are as they were
  abbrev pub OthersSame : Columns → ℕ → Type 0
  OthersSame columns n = (i : ℕ) → n ≤ i → slice_get columns i ≡ slice_get old i

  module _ (columns : Columns) (n : ℕ) (column : String Global × Guess) (at : slice_get columns n ≡ Some column) (guess : Guess) where
    abbrev pub written : Columns
    written = set columns n (column.0, guess)

    pub first-counted : FirstCounted columns n → OthersSame columns n → CountsField nulls (get_or row n []) column (column.0, guess)
        → FirstCounted written (n + 1)
    first-counted first others counts = below_more _ _
        (λ i less c here. first i less c (sym (set-other columns n i (column.0, guess) (omega (arith, less))) ∙ here))
        (λ c here. let same : (column.0, guess) ≡ c = same_Some _ _ (sym (set-there columns n (column.0, guess) column at) ∙ here) in
        (column, sym (others n (omega arith)) ∙ at, subst (CountsField nulls (get_or row n []) column) same counts))

    pub others-same : OthersSame columns n → OthersSame written (n + 1)
    others-same others i past = set-other columns n i (column.0, guess) (omega (arith, past)) ∙ others i (omega (arith, past))

pub names-kept : (columns : Columns) (n : ℕ) (column : String Global × Guess) (guess : Guess) → slice_get columns n ≡ Some column → names_in (set columns n (column.0, guess)) ≡ names_in columns
names-kept [] n column guess at = refl
names-kept (c ∷ columns) zero column guess at =
    let same : c ≡ column = same_Some _ _ at in
    ap (λ (d : String Global × Guess). string_bytes d.0 ∷ names_in columns) (sym same)
names-kept (c ∷ columns) (suc n) column guess at = ap (λ ns. string_bytes c.0 ∷ ns) (names-kept columns n column guess at)

-- a row more
pub row-taken : (reading : Reading) (source longer : Source) (row : Record) (rows : List Record) (n : ℕ) → length longer.columns.items ≡ length source.columns.items
    → length row ≡ length source.columns.items → length source.columns.items ≤ n → FirstCounted reading.nulls row source.columns.items longer.columns.items n
    → HasTaken reading source rows → HasTaken reading longer (row ∷ rows)
row-taken reading source longer row rows n size wide all counted taken i column at =
    let width = length source.columns.items in
    let less : i < width = omega (arith, size, slice_get_within longer.columns.items i column at) in
    let old = counted i (omega (arith, less, all)) column at in
    let before = taken i old.0 old.1 in
    let is : (length row == width) ≡ true = grind (arith, nat_tests, wide) in
    let here : fields_at width i (row ∷ rows) ≡ get_or row i [] ∷ fields_at width i rows = rw is refl in (
      old.2.1 ∙ before.0 ∙ ap (λ name. notation_named reading.named (string_bytes name)) (sym old.2.0),
      subst (λ w. HasCounted reading.nulls column.1 (fields_at w i (row ∷ rows))) (sym size) (subst (HasCounted reading.nulls column.1) (sym here) (old.2.2 (fields_at width i rows) before.1)),
    )

-- a row of another width
pub row-left-out : (reading : Reading) (source : Source) (row : Record) (rows : List Record) → length row ≢ length source.columns.items → HasTaken reading source rows
    → HasTaken reading source (row ∷ rows)
row-left-out reading source row rows other taken i column at =
    let width = length source.columns.items in
    let here = taken i column at in
    let is : (length row == width) ≡ false = grind (arith, nat_tests, other) in
    let left : fields_at width i (row ∷ rows) ≡ fields_at width i rows = rw is refl in
    (here.0, subst (HasCounted reading.nulls column.1) (sym left) here.1)
