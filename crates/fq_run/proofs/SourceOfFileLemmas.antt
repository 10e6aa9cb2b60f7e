-- The sources that files are of.
use Rattle.std.proofs.Common.{option_map, ◌≡◌, ℕ, zero, suc, ◌+◌, ◌-◌, ◌<◌, ◌≤◌, Bool, true, false, nat_lt, List, [], ◌∷◌, ◌++◌, map, length, flat_map, replicate, sum_by, Option, Some, None, refl, ap, sym, subst, ◌∙◌, arith, cond, length-append}
use Rattle.std.specs.List.{slice_get}
use Rattle.std.proofs.lemmas.Bool.Decides.{nat_tests}
use Rattle.std.proofs.lemmas.List.{length-replicate, map-append}
use Rattle.std.proofs.lemmas.List.Sums.{sum_by-append, sum_by-cons}
use Rattle.fq_column.specs.Frame.{Fields, Frame, Row}
use Rattle.fq_csv.specs.declared.cells.layouts.Layout.{Layout}
use Rattle.fq_csv.specs.HandedOut.{framed}
use Rattle.fq_csv.specs.declared.faults.ScanFault.{ScanFault}
use Rattle.fq_expr.specs.declared.fronts.RowFault.{RowFault}
use Rattle.fq_column.specs.declared.pieces.Piece.{Piece as PieceOf}
use Rattle.fq_run.specs.Physical.{Physical, file_layouts, front_fields, side_files, main_fields}
use Rattle.fq_csv.specs.Sources.{Source, but_last, last_or, layout_of}
use Rattle.fq_run.specs.EngineRun.{leading_steps, main_files, no_rows, nothing_taken}
use Rattle.fq_run.specs.Working.{piece_of, piece_until, rows_of_run, stepped, untouched}
use Rattle.fq_run.specs.declared.leading_steps.Worked.{Worked}
use Rattle.fq_run.specs.declared.leading_steps.Worked.TheVariants.{Piece}
use Rattle.fq_run.specs.declared.gathering.SideSource.{SideSource}
use Rattle.fq_column.specs.Schema.{same_fields}
use Rattle.fq_column.specs.SchemaLaws.{same_fields_decides}
use Rattle.fq_run.proofs.GatheringLemmas.{Fits, Head, fields_at, head_of}
use Rattle.fq_run.proofs.EngineLemmas.{FilesFit, MainFields, RunsFit}
use Rattle.fq_csv.proofs.LastLemmas.{but_last-snoc, last_or-snoc}

-- ---- a list that has a last item

module _ {X : Type 0} where
  ends : (xs : List X) → 0 < length xs → (ys : List X) × (y : X) × (xs ≡ ys ++ y ∷ [])
  ends [] h = absurd (omega (arith, h))
  ends (x ∷ []) h = ([], x, refl)
  ends (x ∷ y ∷ xs) h = let more = ends (y ∷ xs) (omega arith) in (x ∷ more.0, more.1, ap (λ zs. x ∷ zs) more.2)

-- sources: those before the last, and the last
pub record HasMain (sources : List Source) (main : Source) : Type 0 where
  pub all : sources ≡ but_last sources ++ main ∷ []
  pub fields : last_or [] (map (λ (s : Source). s.fields) sources) ≡ main.fields
  pub files : last_or 0 (map (λ (s : Source). s.files) sources) ≡ main.files

pub has_main : (sources : List Source) → 0 < length sources → (main : Source) × HasMain sources main
has_main sources h = go (ends sources h)
  where
    go : (ys : List Source) × (y : Source) × (sources ≡ ys ++ y ∷ []) → (main : Source) × HasMain sources main
    go e = (
      e.1,
      record {
        all = e.2 ∙ ap (λ xs. xs ++ e.1 ∷ []) (sym (ap but_last e.2 ∙ but_last-snoc e.0 e.1));
        fields = ap (λ ss. last_or [] (map (λ (s : Source). s.fields) ss)) e.2 ∙ ap (last_or []) (map-append (λ (s : Source). s.fields) e.0 (e.1 ∷ [])) ∙ last_or-snoc [] (map (λ (s : Source). s.fields) e.0) e.1.fields;
        files = ap (λ ss. last_or 0 (map (λ (s : Source). s.files) ss)) e.2 ∙ ap (last_or 0) (map-append (λ (s : Source). s.files) e.0 (e.1 ∷ [])) ∙ last_or-snoc 0 (map (λ (s : Source). s.files) e.0) e.1.files;
      },
    )

pub wanted-main : (sources : List Source) (main : Source) → HasMain sources main →
    sum_by (λ (s : Source). s.files) sources ≡ sum_by (λ (s : Source). s.files) (but_last sources) + last_or 0 (map (λ (s : Source). s.files) sources)
wanted-main sources main h =
    ap (sum_by (λ (s : Source). s.files)) h.all ∙ sum_by-append (λ (s : Source). s.files) (but_last sources) (main ∷ [])
    ∙ ap (λ n. sum_by (λ (s : Source). s.files) (but_last sources) + n)
    (let q : sum_by (λ (s : Source). s.files) (main ∷ []) ≡ last_or 0 (map (λ (s : Source). s.files) sources) = omega (arith, sum_by-cons (λ (s : Source). s.files) main [], h.files) in q)

-- ---- the layouts of files

abbrev pub declared : Source → Head
declared s = (s.files, s.fields)

abbrev pub layouts_of : List Source → List Layout
layouts_of ss = flat_map (λ (s : Source). replicate s.files (layout_of s)) ss

pub length-layouts : (ss : List Source) → length (layouts_of ss) ≡ sum_by (λ (s : Source). s.files) ss
length-layouts [] = refl
length-layouts (s ∷ ss) =
    length-append (replicate s.files (layout_of s)) (layouts_of ss)
    ∙ ap (λ n. n + length (layouts_of ss)) (length-replicate s.files (layout_of s))
    ∙ ap (λ n. s.files + n) (length-layouts ss)
    ∙ sym (sum_by-cons (λ (s : Source). s.files) s ss)

get-replicate : {X : Type 0} (n : ℕ) (x : X) (ys : List X) (i : ℕ) → slice_get (replicate n x ++ ys) i ≡ cond (nat_lt i n) (Some x) (slice_get ys (i - n))
get-replicate zero x ys i =
    ap (slice_get ys) (let q : i ≡ i - 0 = omega arith in q)
    ∙ ap (λ b. cond b (Some x) (slice_get ys (i - 0))) (let q : false ≡ nat_lt i 0 = sym (let r : nat_lt i 0 ≡ false = grind (arith, nat_tests) in r) in q)
get-replicate (suc n) x ys zero = ap (λ b. cond b (Some x) (slice_get ys (0 - suc n))) (sym (let r : nat_lt 0 (suc n) ≡ true = grind (arith, nat_tests) in r))
get-replicate (suc n) x ys (suc i) =
    get-replicate n x ys i
    ∙ ap (λ m. cond (nat_lt i n) (Some x) (slice_get ys m)) (let q : i - n ≡ suc i - suc n = omega arith in q)
    ∙ ap (λ b. cond b (Some x) (slice_get ys (suc i - suc n))) (go (nat_lt i n) refl)
  where
    go : (b : Bool) → nat_lt i n ≡ b → nat_lt i n ≡ nat_lt (suc i) (suc n)
    go true e = e ∙ sym (let r : nat_lt (suc i) (suc n) ≡ true = grind (arith, nat_tests, e) in r)
    go false e = e ∙ sym (let r : nat_lt (suc i) (suc n) ≡ false = grind (arith, nat_tests, e) in r)

abbrev columns_in : Option Layout → Option Fields
columns_in o = option_map (λ (l : Layout). l.schema) o

columns-cond : (b : Bool) (l : Layout) (o : Option Layout) → columns_in (cond b (Some l) o) ≡ cond b (Some l.schema) (columns_in o)
columns-cond true l o = refl
columns-cond false l o = refl

columns-at : (ss : List Source) (i : ℕ) → columns_in (slice_get (layouts_of ss) i) ≡ fields_at i (map declared ss)
columns-at [] i = refl
columns-at (s ∷ ss) i =
    ap columns_in (get-replicate s.files (layout_of s) (layouts_of ss) i)
    ∙ columns-cond (nat_lt i s.files) (layout_of s) (slice_get (layouts_of ss) (i - s.files))
    ∙ ap (cond (nat_lt i s.files) (Some s.fields)) (columns-at ss (i - s.files))

-- a file of one of these sources, and of a later one
early : (ss : List Source) (hs ks : List Head) (i : ℕ) → i < sum_by (λ (s : Source). s.files) ss → fields_at i (map declared ss ++ hs) ≡ fields_at i (map declared ss ++ ks)
early [] hs ks i h = absurd (omega (arith, h))
early (s ∷ ss) hs ks i h = go (early ss hs ks (i - s.files)) (nat_lt i s.files) refl
  where
    go : (i - s.files < sum_by (λ (s : Source). s.files) ss → fields_at (i - s.files) (map declared ss ++ hs) ≡ fields_at (i - s.files) (map declared ss ++ ks)) → (b : Bool) → nat_lt i s.files ≡ b
        → cond b (Some s.fields) (fields_at (i - s.files) (map declared ss ++ hs)) ≡ cond b (Some s.fields) (fields_at (i - s.files) (map declared ss ++ ks))
    go more true e = refl
    go more false e = more (let k : s.files ≤ i = grind (arith, nat_tests, e) in omega (arith, sum_by-cons (λ (s : Source). s.files) s ss, h))

late : (ss : List Source) (hs : List Head) (i : ℕ) → sum_by (λ (s : Source). s.files) ss ≤ i → fields_at i (map declared ss ++ hs) ≡ fields_at (i - sum_by (λ (s : Source). s.files) ss) hs
late [] hs i h = ap (λ n. fields_at n hs) (let q : i ≡ i - 0 = omega arith in q)
late (s ∷ ss) hs i h =
    let sum = sum_by-cons (λ (s : Source). s.files) s ss in
    let past : nat_lt i s.files ≡ false = grind (arith, nat_tests, sum, h) in
    ap (λ b. cond b (Some s.fields) (fields_at (i - s.files) (map declared ss ++ hs))) past
    ∙ late ss hs (i - s.files) (omega (arith, sum, h))
    ∙ ap (λ n. fields_at n hs) (let q : i - s.files - sum_by (λ (s : Source). s.files) ss ≡ i - sum_by (λ (s : Source). s.files) (s ∷ ss) = omega (arith, sum) in q)

heads-nothing : (ss : List Source) (gs : List SideSource) → map head_of (map (λ (s : Source). no_rows s.files s.fields) ss ++ gs) ≡ map declared ss ++ map head_of gs
heads-nothing [] gs = refl
heads-nothing (s ∷ ss) gs = ap (λ hs. declared s ∷ hs) (heads-nothing ss gs)

-- a fault after a piece's rows does not change their columns
fits-until : (end : Option ScanFault) (p : PieceOf RowFault) (o : Option Fields) → Fits (Piece p) o → Fits (piece_until end p) o
fits-until None p o h = h
fits-until (Some fault) p None h = h
fits-until (Some fault) p (Some fields) h = h

module _ (p : Physical) (main : Source) (has : HasMain p.sources main) where
  -- the columns that are declared for a file, by the source that it is of
  declared-at : (i : ℕ) (layout : Layout) → slice_get (file_layouts p) i ≡ Some layout → fields_at i (map declared (but_last p.sources) ++ declared main ∷ []) ≡ Some layout.schema
  declared-at i layout e =
      ap (fields_at i) (sym (map-append declared (but_last p.sources) (main ∷ [])))
      ∙ sym (columns-at (but_last p.sources ++ main ∷ []) i)
      ∙ ap columns_in (ap (λ ss. slice_get (layouts_of ss) i) (sym has.all) ∙ e)

  main-at : (i : ℕ) (layout : Layout) → slice_get (file_layouts p) i ≡ Some layout → nat_lt i (side_files p) ≡ false → layout.schema ≡ main_fields p
  main-at i layout e past =
      go (nat_lt (i - side_files p) main.files) (sym (late (but_last p.sources) (declared main ∷ []) i (grind (arith, nat_tests, past))) ∙ declared-at i layout e)
    where
      go : (b : Bool) → cond b (Some main.fields) None ≡ Some layout.schema → layout.schema ≡ main_fields p
      go true q = let r : main.fields ≡ layout.schema = cc q in sym r ∙ sym has.fields
      go false q = absurd (cc q)

  piece-fits : (i : ℕ) (layout : Layout) → slice_get (file_layouts p) i ≡ Some layout → (rows : List Row) →
      Fits (Piece (piece_of (leading_steps p) (side_files p) i (framed layout.schema rows))) (fields_at i (map head_of (nothing_taken p)))
  piece-fits i layout e rows = go (nat_lt i (side_files p)) refl
    where
      own : List Head
      own = (main_files p, front_fields p) ∷ []

      here : map head_of (nothing_taken p) ≡ map declared (but_last p.sources) ++ own
      here = heads-nothing (but_last p.sources) (no_rows (main_files p) (front_fields p) ∷ [])

      batch : Frame
      batch = framed layout.schema rows

      worked_as : Bool → Bool → Worked
      worked_as join same = Piece (cond join (untouched batch) (cond same (stepped (leading_steps p) batch) (untouched batch)))

      same : nat_lt i (side_files p) ≡ false → same_fields layout.schema (main_fields p) ≡ true
      same past = (same_fields_decides layout.schema (main_fields p)).1 (main-at i layout e past)

      last : (b : Bool) → Fits (Piece (stepped (leading_steps p) batch)) (cond b (Some (front_fields p)) None)
      last true = refl
      last false = tt

      go : (b : Bool) → nat_lt i (side_files p) ≡ b → Fits (worked_as (nat_lt i (side_files p)) (same_fields layout.schema (main_fields p))) (fields_at i (map head_of (nothing_taken p)))
      go true q =
          let place : fields_at i (map head_of (nothing_taken p)) ≡ Some layout.schema =
          ap (fields_at i) here ∙ early (but_last p.sources) own (declared main ∷ []) i (grind (arith, nat_tests, q)) ∙ declared-at i layout e in
          subst (λ (o : Option Fields). Fits (worked_as (nat_lt i (side_files p)) (same_fields layout.schema (main_fields p))) o) (sym place)
          (subst (λ (b : Bool). Fits (worked_as b (same_fields layout.schema (main_fields p))) (Some layout.schema)) (sym q) refl)
      go false q =
          let place : fields_at i (map head_of (nothing_taken p)) ≡ cond (nat_lt (i - side_files p) (main_files p)) (Some (front_fields p)) None =
          ap (fields_at i) here ∙ late (but_last p.sources) own i (grind (arith, nat_tests, q)) in
          subst (λ (o : Option Fields). Fits (worked_as (nat_lt i (side_files p)) (same_fields layout.schema (main_fields p))) o) (sym place)
          (subst (λ (b : Bool). Fits (worked_as b (same_fields layout.schema (main_fields p))) (cond (nat_lt (i - side_files p) (main_files p)) (Some (front_fields p)) None)) (sym q)
          (subst (λ (b : Bool). Fits (worked_as false b) (cond (nat_lt (i - side_files p) (main_files p)) (Some (front_fields p)) None)) (sym (same q)) (last (nat_lt (i - side_files p) (main_files p)))))

  fit-at : (i : ℕ) (layout : Layout) → slice_get (file_layouts p) i ≡ Some layout → RunsFit (leading_steps p) (side_files p) (map head_of (nothing_taken p)) i layout
  fit-at i layout e run same =
      fits-until (rows_of_run run).fault (piece_of (leading_steps p) (side_files p) i (framed run.layout.schema (rows_of_run run).rows)) (fields_at i (map head_of (nothing_taken p)))
      (subst (λ (fs : Fields). Fits (Piece (piece_of (leading_steps p) (side_files p) i (framed fs (rows_of_run run).rows))) (fields_at i (map head_of (nothing_taken p)))) (sym (ap (λ (l : Layout). l.schema) same)) (piece-fits i layout e (rows_of_run run).rows))

  pub main-fields : (k : ℕ) (layouts : List Layout) → ((i : ℕ) (layout : Layout) → slice_get layouts i ≡ Some layout → slice_get (file_layouts p) (k + i) ≡ Some layout) → MainFields p k layouts
  main-fields k [] h = tt
  main-fields k (layout ∷ layouts) h = (
    main-at k layout (ap (slice_get (file_layouts p)) (let q : k ≡ k + 0 = omega arith in q) ∙ h 0 layout refl),
    main-fields (suc k) layouts (λ i l e. ap (slice_get (file_layouts p)) (let q : suc k + i ≡ k + suc i = omega arith in q) ∙ h (suc i) l e),
  )

  pub files-fit : (k : ℕ) (layouts : List Layout) → ((i : ℕ) (layout : Layout) → slice_get layouts i ≡ Some layout → slice_get (file_layouts p) (k + i) ≡ Some layout) → FilesFit (leading_steps p) (side_files p) (map head_of (nothing_taken p)) k layouts
  files-fit k [] h = tt
  files-fit k (layout ∷ layouts) h = (
    fit-at k layout (ap (slice_get (file_layouts p)) (let q : k ≡ k + 0 = omega arith in q) ∙ h 0 layout refl),
    files-fit (suc k) layouts (λ i l e. ap (slice_get (file_layouts p)) (let q : suc k + i ≡ k + suc i = omega arith in q) ∙ h (suc i) l e),
  )
