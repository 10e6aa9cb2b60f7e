-- The sources after a list of worked items was taken.
use Rattle.std.proofs.Common.{◌≡◌, ℕ, ◌+◌, ◌-◌, ◌<◌, ◌≤◌, Bool, true, false, ◌&&◌, nat_lt, nat_le, List, [], ◌∷◌, ◌++◌, map, filter, sum_by, Option, Some, None, refl, ap, sym, subst, ◌∙◌, arith, append-nil, cond}
use Rattle.std.proofs.lemmas.Bool.Decides.{nat_tests}
use Rattle.std.proofs.lemmas.List.Sums.{sum_by-cons}
use Rattle.fq_column.specs.Frame.{Fields, Row}
use Rattle.fq_column.specs.SchemaLaws.{same_fields_decides}
use Rattle.fq_column.specs.Stream.{Stream, done, then_stream}
use Rattle.fq_column.proofs.StreamLemmas.{then_stream-assoc}
use Rattle.fq_run.specs.Gathering.{gathered, gathered_stream, taken_in, with_stream}
use Rattle.fq_run.specs.EngineRun.{no_rows}
use Rattle.fq_csv.specs.Sources.{Source}
use Rattle.fq_run.specs.Sources.{concat_streams, frames_of}
use Rattle.fq_run.specs.Tail.{Taken, items_from, taken_streams}
use Rattle.fq_run.specs.Working.{worked_stream}
use Rattle.fq_run.specs.declared.faults.Fault.{Fault}
use Rattle.fq_run.specs.declared.gathering.SideSource.{SideSource}
use Rattle.fq_run.specs.declared.leading_steps.Worked.{Worked}
use Rattle.fq_run.specs.declared.leading_steps.Worked.TheVariants.{Piece, Cut, Ended}

-- the number of files and the columns of a source
abbrev pub Head : Type 0
Head = ℕ × Fields

abbrev pub head_of : SideSource → Head
head_of g = (g.files, g.batch.fields)

-- the columns of the source that a file is of
abbrev pub fields_at : ℕ → List Head → Option Fields
fields_at file [] = None
fields_at file (h ∷ hs) = cond (nat_lt file h.0) (Some h.1) (fields_at (file - h.0) hs)

-- a worked item has a source's columns, if it has any
abbrev pub Fits : Worked → Option Fields → Type 0
Fits (Ended fault) o = Unit {0}
Fits (Piece p) None = Unit {0}
Fits (Piece p) (Some fields) = p.batch.fields ≡ fields
Fits (Cut p fault) None = Unit {0}
Fits (Cut p fault) (Some fields) = p.batch.fields ≡ fields

-- below, each item is one of its source's columns, and is joined
abbrev pub joined : SideSource → Worked → SideSource
joined g out = with_stream g (then_stream (gathered_stream g) (worked_stream out))

abbrev pub joined_in : ℕ → Worked → List SideSource → List SideSource
joined_in file out [] = []
joined_in file out (g ∷ gs) = cond (nat_lt file g.files) (joined g out ∷ gs) (g ∷ joined_in (file - g.files) out gs)

-- a file and a worked item of it
abbrev pub Answer : Type 0
Answer = ℕ × Worked

abbrev pub all_taken : List Answer → List SideSource → List SideSource
all_taken [] gs = gs
all_taken (t ∷ ts) gs = all_taken ts (taken_in t.0 t.1 gs)

abbrev pub all_joined : List Answer → List SideSource → List SideSource
all_joined [] gs = gs
all_joined (t ∷ ts) gs = all_joined ts (joined_in t.0 t.1 gs)

abbrev pub AllFit : List Head → List Answer → Type 0
AllFit hs [] = Unit {0}
AllFit hs (t ∷ ts) = Fits t.1 (fields_at t.0 hs) × AllFit hs ts

gathered-joined : (g : SideSource) (out : Worked) → Fits out (Some g.batch.fields) → gathered g out ≡ joined g out
gathered-joined g (Ended fault) h = refl
gathered-joined g (Piece p) h = ap (λ b. with_stream g (then_stream (gathered_stream g) (cond b (worked_stream (Piece p)) (done [])))) ((same_fields_decides p.batch.fields g.batch.fields).1 h)
gathered-joined g (Cut p fault) h = ap (λ b. with_stream g (then_stream (gathered_stream g) (then_stream (cond b (worked_stream (Piece p)) (done [])) (worked_stream (Ended fault))))) ((same_fields_decides p.batch.fields g.batch.fields).1 h)

taken-joined : (file : ℕ) (out : Worked) (gs : List SideSource) → Fits out (fields_at file (map head_of gs)) → taken_in file out gs ≡ joined_in file out gs
taken-joined file out [] h = refl
taken-joined file out (g ∷ gs) h = go (taken-joined (file - g.files) out gs) (nat_lt file g.files) h
  where
    go : (Fits out (fields_at (file - g.files) (map head_of gs)) → taken_in (file - g.files) out gs ≡ joined_in (file - g.files) out gs) → (b : Bool) → Fits out (cond b (Some g.batch.fields) (fields_at (file - g.files) (map head_of gs)))
        → cond b (gathered g out ∷ gs) (g ∷ taken_in (file - g.files) out gs) ≡ cond b (joined g out ∷ gs) (g ∷ joined_in (file - g.files) out gs)
    go more true h = ap (λ x. x ∷ gs) (gathered-joined g out h)
    go more false h = ap (λ xs. g ∷ xs) (more h)

joined-heads : (file : ℕ) (out : Worked) (gs : List SideSource) → map head_of (joined_in file out gs) ≡ map head_of gs
joined-heads file out [] = refl
joined-heads file out (g ∷ gs) = go (joined-heads (file - g.files) out gs) (nat_lt file g.files)
  where
    go : map head_of (joined_in (file - g.files) out gs) ≡ map head_of gs → (b : Bool) → map head_of (cond b (joined g out ∷ gs) (g ∷ joined_in (file - g.files) out gs)) ≡ head_of g ∷ map head_of gs
    go more true = refl
    go more false = ap (λ hs. head_of g ∷ hs) more

pub all_taken-joined : (ts : List Answer) (gs : List SideSource) → AllFit (map head_of gs) ts → all_taken ts gs ≡ all_joined ts gs
all_taken-joined [] gs h = refl
all_taken-joined (t ∷ ts) gs h =
    ap (all_taken ts) (taken-joined t.0 t.1 gs h.0)
    ∙ all_taken-joined ts (joined_in t.0 t.1 gs) (subst (λ (hs : List Head). AllFit hs ts) (sym (joined-heads t.0 t.1 gs)) h.1)

-- the worked items as streams
abbrev pub streams_of : List Answer → List Taken
streams_of ts = map (λ (t : Answer). (t.0, worked_stream t.1)) ts

-- each source's stream, then those of its files' worked items; the files are numbered from this one on
abbrev pub with_items : ℕ → List Taken → List SideSource → List SideSource
with_items first ts [] = []
with_items first ts (g ∷ gs) = with_stream g (then_stream (gathered_stream g) (concat_streams (items_from first g.files ts))) ∷ with_items (first + g.files) ts gs

pub then-nothing : (u : Stream Fault) → then_stream u (done []) ≡ u
then-nothing u = go u.rows u.fault
  where
    go : (rows : List Row) (end : Option Fault) → then_stream (record { rows = rows; fault = end }) (done []) ≡ record { rows = rows; fault = end }
    go rows None = ap done (append-nil rows)
    go rows (Some f) = refl

with-no-items : (first : ℕ) (gs : List SideSource) → with_items first [] gs ≡ gs
with-no-items first [] = refl
with-no-items first (g ∷ gs) =
    ap (λ u. with_stream g u ∷ with_items (first + g.files) [] gs) (then-nothing (gathered_stream g))
    ∙ ap (λ xs. g ∷ xs) (with-no-items (first + g.files) gs)

items_from-cons : (a n : ℕ) (t : Taken) (ts : List Taken) (b : Bool) → (nat_le a t.0 && nat_lt t.0 (a + n)) ≡ b → items_from a n (t ∷ ts) ≡ cond b (t.1 ∷ items_from a n ts) (items_from a n ts)
items_from-cons a n t ts b e =
    ap (λ c. map (λ (t : Taken). t.1) (cond c (t ∷ filter (λ (t : Taken). nat_le a t.0 && nat_lt t.0 (a + n)) ts) (filter (λ (t : Taken). nat_le a t.0 && nat_lt t.0 (a + n)) ts))) e ∙ go b
  where
    go : (b : Bool) → map (λ (t : Taken). t.1) (cond b (t ∷ filter (λ (t : Taken). nat_le a t.0 && nat_lt t.0 (a + n)) ts) (filter (λ (t : Taken). nat_le a t.0 && nat_lt t.0 (a + n)) ts)) ≡ cond b (t.1 ∷ items_from a n ts) (items_from a n ts)
    go true = refl
    go false = refl

with-earlier : (first : ℕ) (t : Taken) (ts : List Taken) (gs : List SideSource) → t.0 < first → with_items first ts gs ≡ with_items first (t ∷ ts) gs
with-earlier first t ts [] h = refl
with-earlier first t ts (g ∷ gs) h =
    ap (λ us. with_stream g (then_stream (gathered_stream g) (concat_streams us)) ∷ with_items (first + g.files) ts gs)
    (sym (items_from-cons first g.files t ts false (grind (arith, nat_tests, h))))
    ∙ ap (λ xs. with_stream g (then_stream (gathered_stream g) (concat_streams (items_from first g.files (t ∷ ts)))) ∷ xs) (with-earlier (first + g.files) t ts gs (omega (arith, h)))

with-joined : (first file : ℕ) (out : Worked) (ts : List Taken) (gs : List SideSource) → first ≤ file →
    with_items first ts (joined_in (file - first) out gs) ≡ with_items first ((file, worked_stream out) ∷ ts) gs
with-joined first file out ts [] h = refl
with-joined first file out ts (g ∷ gs) h = go (with-joined (first + g.files) file out ts gs) (nat_lt (file - first) g.files) refl
  where
    t : Taken
    t = (file, worked_stream out)

    go : (first + g.files ≤ file → with_items (first + g.files) ts (joined_in (file - (first + g.files)) out gs) ≡ with_items (first + g.files) (t ∷ ts) gs)
        → (b : Bool) → nat_lt (file - first) g.files ≡ b → with_items first ts (cond b (joined g out ∷ gs) (g ∷ joined_in (file - first - g.files) out gs)) ≡ with_items first (t ∷ ts) (g ∷ gs)
    go more true e =
        ap (λ u. with_stream g u ∷ with_items (first + g.files) ts gs) (then_stream-assoc (gathered_stream g) (worked_stream out) (concat_streams (items_from first g.files ts)))
        ∙ ap (λ us. with_stream g (then_stream (gathered_stream g) (concat_streams us)) ∷ with_items (first + g.files) ts gs)
        (sym (items_from-cons first g.files t ts true (grind (arith, nat_tests, e, h))))
        ∙ ap (λ xs. with_stream g (then_stream (gathered_stream g) (concat_streams (items_from first g.files (t ∷ ts)))) ∷ xs) (with-earlier (first + g.files) t ts gs (grind (arith, nat_tests, e, h)))
    go more false e =
        ap (λ us. with_stream g (then_stream (gathered_stream g) (concat_streams us)) ∷ with_items (first + g.files) ts (joined_in (file - first - g.files) out gs))
        (sym (items_from-cons first g.files t ts false (grind (arith, nat_tests, e, h))))
        ∙ ap (λ n. with_stream g (then_stream (gathered_stream g) (concat_streams (items_from first g.files (t ∷ ts)))) ∷ with_items (first + g.files) ts (joined_in n out gs)) (let q : file - first - g.files ≡ file - (first + g.files) = omega arith in q)
        ∙ ap (λ xs. with_stream g (then_stream (gathered_stream g) (concat_streams (items_from first g.files (t ∷ ts)))) ∷ xs) (more (grind (arith, nat_tests, e, h)))

pub all_joined-items : (ts : List Answer) (gs : List SideSource) → all_joined ts gs ≡ with_items 0 (streams_of ts) gs
all_joined-items [] gs = sym (with-no-items 0 gs)
all_joined-items (t ∷ ts) gs =
    all_joined-items ts (joined_in t.0 t.1 gs)
    ∙ ap (λ n. with_items 0 (streams_of ts) (joined_in n t.1 gs)) (let q : t.0 ≡ t.0 - 0 = omega arith in q)
    ∙ with-joined 0 t.0 t.1 (streams_of ts) gs (omega arith)

-- sources of which nothing was taken before
pub with_items-append : (first : ℕ) (ts : List Taken) (xs ys : List SideSource) → with_items first ts (xs ++ ys) ≡ with_items first ts xs ++ with_items (first + sum_by (λ (g : SideSource). g.files) xs) ts ys
with_items-append first ts [] ys = ap (λ n. with_items n ts ys) (let q : first ≡ first + 0 = omega arith in q)
with_items-append first ts (x ∷ xs) ys =
    ap (λ zs. with_stream x (then_stream (gathered_stream x) (concat_streams (items_from first x.files ts))) ∷ zs)
    (with_items-append (first + x.files) ts xs ys
    ∙ ap (λ n. with_items (first + x.files) ts xs ++ with_items n ts ys) (let q : first + x.files + sum_by (λ (g : SideSource). g.files) xs ≡ first + sum_by (λ (g : SideSource). g.files) (x ∷ xs) = omega (arith, sum_by-cons (λ (g : SideSource). g.files) x xs) in q))

pub items-streams : (first : ℕ) (ts : List Taken) (sources : List Source) → map gathered_stream (with_items first ts (map (λ (s : Source). no_rows s.files s.fields) sources)) ≡ taken_streams first sources ts
items-streams first ts [] = refl
items-streams first ts (s ∷ sources) = ap (λ us. concat_streams (items_from first s.files ts) ∷ us) (items-streams (first + s.files) ts sources)

pub items-frames : (first : ℕ) (ts : List Taken) (sources : List Source) → map (λ (g : SideSource). g.batch) (with_items first ts (map (λ (s : Source). no_rows s.files s.fields) sources)) ≡ frames_of sources (taken_streams first sources ts)
items-frames first ts [] = refl
items-frames first ts (s ∷ sources) = ap (λ fs. record { fields = s.fields; rows = (concat_streams (items_from first s.files ts)).rows } ∷ fs) (items-frames (first + s.files) ts sources)
