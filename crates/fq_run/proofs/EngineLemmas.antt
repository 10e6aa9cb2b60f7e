-- From what the engine promises to the items that the tail takes, and from those to the plan's meaning.
use Rattle.std.proofs.Common.{◌≡◌, ℕ, suc, ◌+◌, ◌<◌, false, nat_lt, List, [], ◌∷◌, ◌++◌, map, length, flat_map, zip, Option, Some, None, option_map, refl, ap, sym, subst, ◌∙◌, arith}
use Rattle.std.specs.List.{range_with_len}
use Rattle.std.proofs.lemmas.List.{map-append}
use Rattle.fq_column.specs.Lists.{pieces, zip_with}
use Rattle.fq_column.specs.Stream.{Stream, rename_fault}
use Rattle.fq_csv.specs.File.{Record, file_stream}
use Rattle.fq_csv.specs.Taking.{FieldRun, RecordStream, record_stream, rows_of_records}
use Rattle.fq_csv.specs.declared.cells.layouts.Layout.{Layout}
use Rattle.fq_csv.specs.declared.faults.ScanFault.{ScanFault}
use Rattle.fq_csv.proofs.ScanLemmas.{rows-under-header}
use Rattle.fq_expr.specs.Front.{NumberedSteps}
use Rattle.fq_lanes.specs.Engine.{IsWorked}
use Rattle.fq_lanes.specs.Beside.{Each}
use Rattle.fq_lanes.specs.Numbering.{numbered, numbered_file, numbers}
use Rattle.fq_lanes.specs.TailTaking.{Took}
use Rattle.fq_run.specs.Feeding.{AllTextItems, Feeding, MayCome, end_item, runs_from, scanned_items}
use Rattle.fq_run.specs.Kept.{Takes}
use Rattle.fq_run.specs.Physical.{Physical, side_files, main_fields}
use Rattle.fq_run.specs.EngineRun.{items_of_files, leading_steps, opened, records_of_files, rows_of_files}
use Rattle.fq_run.specs.Run.{Tell}
use Rattle.fq_csv.specs.Sources.{row_limit}
use Rattle.fq_run.specs.Sources.{concat_streams, scan_fault}
use Rattle.fq_run.specs.Tail.{Taken, tagged, worked, worked_files}
use Rattle.fq_run.specs.Working.{work_on, worked_stream}
use Rattle.fq_run.specs.declared.faults.Fault.{Fault}
use Rattle.fq_run.specs.declared.file_feeds.FileItem.{FileItem}
use Rattle.fq_run.specs.declared.file_feeds.FileItem.TheVariants.{Run}
use Rattle.fq_run.specs.declared.gathering.SideSource.{SideSource}
use Rattle.fq_run.specs.declared.leading_steps.Worked.{Worked}
use Rattle.fq_run.proofs.EndLemmas.{AllDone}
use Rattle.fq_run.proofs.GatheringLemmas.{Answer, AllFit, Fits, Head, all_taken, fields_at, streams_of}
use Rattle.fq_run.proofs.FileItemLemmas.{done-length, file-worked}

-- feeds that tell their items gave those
pub each-known : (feeds : List Feeding) (items known : List (List FileItem)) → Each MayCome feeds items → map (λ (f : Feeding). f.items) feeds ≡ map Some known → AllTextItems known → items ≡ known
each-known [] [] [] h e t = refl
each-known [] [] (k ∷ ks) h e t = absurd (cc e)
each-known [] (x ∷ xs) known h e t = absurd h
each-known (f ∷ fs) [] known h e t = absurd h
each-known (f ∷ fs) (x ∷ xs) [] h e t = absurd (cc e)
each-known (f ∷ fs) (x ∷ xs) (k ∷ ks) h e t =
    let one : f.items ≡ Some k = cc e in
    let rest : map (λ (f : Feeding). f.items) fs ≡ map Some ks = cc e in
    ap (λ y. y ∷ xs) (h.0.1 k one t.0) ∙ ap (λ ys. k ∷ ys) (each-known fs xs ks h.1 rest t.1)

-- the log's files and worked items
abbrev pub answers_in : List (ℕ × ℕ × Worked) → List Answer
answers_in log = map (λ (r : ℕ × ℕ × Worked). (r.0, r.2)) log

pub took-all : (log : List (ℕ × ℕ × Worked)) (a b : List SideSource) → Took Takes a log b →
    b ≡ all_taken (answers_in log) a
took-all [] a b h = h
took-all (e ∷ es) a b h = took-all es h.0 b h.2 ∙ ap (all_taken (answers_in es)) h.1

module _ (front : NumberedSteps) (sides : ℕ) where
  abbrev pub answers_to : List (ℕ × ℕ × FileItem) → List Answer
  answers_to es = map (λ (e : ℕ × ℕ × FileItem). (e.0, work_on front sides e.0 e.2)) es

  pub log-answers : (es : List (ℕ × ℕ × FileItem)) (log : List (ℕ × ℕ × Worked)) → Each (IsWorked (λ file item out. out ≡ work_on front sides file item)) es log → answers_in log ≡ answers_to es
  log-answers [] [] h = refl
  log-answers [] (r ∷ rs) h = absurd h
  log-answers (e ∷ es) [] h = absurd h
  log-answers (e ∷ es) (r ∷ rs) h =
      let one : (r.0, r.2) ≡ (e.0, work_on front sides e.0 e.2) = λ i. (h.0.0 i, h.0.2 i) in
      ap (λ (x : Answer). x ∷ answers_in rs) one ∙ ap (λ xs. (e.0, work_on front sides e.0 e.2) ∷ xs) (log-answers es rs h.1)

  pub log-numbers : (es : List (ℕ × ℕ × FileItem)) (log : List (ℕ × ℕ × Worked)) → Each (IsWorked (λ file item out. out ≡ work_on front sides file item)) es log → numbers log ≡ numbers es
  log-numbers [] [] h = refl
  log-numbers [] (r ∷ rs) h = absurd h
  log-numbers (e ∷ es) [] h = absurd h
  log-numbers (e ∷ es) (r ∷ rs) h =
      let one : (r.0, r.1) ≡ (e.0, e.1) = λ i. (h.0.0 i, h.0.1 i) in
      ap (λ (x : ℕ × ℕ). x ∷ numbers rs) one ∙ ap (λ xs. (e.0, e.1) ∷ xs) (log-numbers es rs h.1)

  file-streams : (k s : ℕ) (xs : List FileItem) → streams_of (answers_to (numbered_file k s xs)) ≡ map (λ u. (k, u)) (map (λ x. worked_stream (work_on front sides k x)) xs)
  file-streams k s [] = refl
  file-streams k s (x ∷ xs) = ap (λ (ts : List Taken). (k, worked_stream (work_on front sides k x)) ∷ ts) (file-streams k (suc s) xs)

  pub streams-append : (es fs : List (ℕ × ℕ × FileItem)) → streams_of (answers_to (es ++ fs)) ≡ streams_of (answers_to es) ++ streams_of (answers_to fs)
  streams-append [] fs = refl
  streams-append (e ∷ es) fs = ap (λ (ts : List Taken). (e.0, worked_stream (work_on front sides e.0 e.2)) ∷ ts) (streams-append es fs)

  -- the work on each run of these columns fits
  abbrev pub RunsFit : List Head → ℕ → Layout → Type 0
  RunsFit hs k layout = (run : FieldRun) → run.layout ≡ layout → Fits (work_on front sides k (Run run)) (fields_at k hs)

  -- the items of a file fit, if its runs do
  fits-file : (hs : List Head) (layout : Layout) (k s n : ℕ) (rss : List (List Record)) (end : Option ScanFault) → RunsFit hs k layout
      → AllFit hs (answers_to (numbered_file k s (runs_from k layout n rss ++ end_item end)))
  fits-file hs layout k s n [] None h = tt
  fits-file hs layout k s n [] (Some f) h = (tt, tt)
  fits-file hs layout k s n (rs ∷ rss) end h = (h (record { file = k; layout = layout; before = n; records = rs }) refl, fits-file hs layout k (suc s) (n + length rs) rss end h)

  fit-append : (hs : List Head) (es fs : List (ℕ × ℕ × FileItem)) → AllFit hs (answers_to es) → AllFit hs (answers_to fs) → AllFit hs (answers_to (es ++ fs))
  fit-append hs [] fs h k = k
  fit-append hs (e ∷ es) fs h k = (h.0, fit-append hs es fs h.1 k)

  -- so for each file, numbered from this one on
  abbrev pub FilesFit : List Head → ℕ → List Layout → Type 0
  FilesFit hs k [] = Unit {0}
  FilesFit hs k (layout ∷ fss) = RunsFit hs k layout × FilesFit hs (suc k) fss

  pub fit-files : (hs : List Head) (b k : ℕ) (fss : List Layout) (ws : List RecordStream) → FilesFit hs k fss
      → AllFit hs (answers_to (numbered k (items_of_files b k fss ws)))
  fit-files hs b k [] ws h = tt
  fit-files hs b k (layout ∷ fss) [] h = tt
  fit-files hs b k (layout ∷ fss) (w ∷ ws) h =
      fit-append hs (numbered_file k 0 (scanned_items k layout b 0 w)) (numbered (suc k) (items_of_files b (k + 1) fss ws)) (fits-file hs layout k 0 0 (pieces b w.records) w.fault h.0)
      (subst (λ n. AllFit hs (answers_to (numbered (suc k) (items_of_files b n fss ws)))) (let q : suc k ≡ k + 1 = omega arith in q) (fit-files hs b (suc k) fss ws h.1))

  -- the streams of the worked items of files, numbered from this one on
  abbrev pub worked_streams : ℕ → List (List FileItem) → List (List (Stream Fault))
  worked_streams k [] = []
  worked_streams k (xs ∷ xss) = map (λ x. worked_stream (work_on front sides k x)) xs ∷ worked_streams (k + 1) xss

  pub answer-streams : (k : ℕ) (xss : List (List FileItem)) → streams_of (answers_to (numbered k xss)) ≡ tagged k (worked_streams k xss)
  answer-streams k [] = refl
  answer-streams k (xs ∷ xss) =
      streams-append (numbered_file k 0 xs) (numbered (suc k) xss)
      ∙ ap (λ ts. ts ++ streams_of (answers_to (numbered (suc k) xss))) (file-streams k 0 xs)
      ∙ ap (λ ts. map (λ u. (k, u)) (map (λ x. worked_stream (work_on front sides k x)) xs) ++ ts)
      (answer-streams (suc k) xss ∙ ap (λ n. tagged n (worked_streams n xss)) (let q : suc k ≡ k + 1 = omega arith in q))

module _ (p : Physical) where
  -- the files of the last source have its columns; numbered from this one on
  abbrev pub MainFields : ℕ → List Layout → Type 0
  MainFields k [] = Unit {0}
  MainFields k (layout ∷ fss) = (nat_lt k (side_files p) ≡ false → layout.schema ≡ main_fields p) × MainFields (suc k) fss

  -- the worked items of each file join to its rows
  pub worked-joined : (b k : ℕ) (fss : List Layout) (ws : List RecordStream) → 0 < b → MainFields k fss →
      map concat_streams (worked_streams (leading_steps p) (side_files p) k (items_of_files b k fss ws)) ≡ worked_files p k (map (rename_fault scan_fault) (rows_of_files k fss ws))
  worked-joined b k [] ws some h = refl
  worked-joined b k (layout ∷ fss) [] some h = refl
  worked-joined b k (layout ∷ fss) (w ∷ ws) some h =
      ap (λ u. u ∷ map concat_streams (worked_streams (leading_steps p) (side_files p) (k + 1) (items_of_files b (k + 1) fss ws))) (file-worked p b k layout w some h.0)
      ∙ ap (λ us. worked p k (rename_fault scan_fault (rows_of_records k layout row_limit 0 w)) ∷ us)
      (worked-joined b (k + 1) fss ws some (subst (λ n. MainFields n fss) (let q : suc k ≡ k + 1 = omega arith in q) h.1))

-- ---- the trace

file-numbers : (k s : ℕ) (xs : List FileItem) → numbers (numbered_file k s xs) ≡ map (λ serial. (k, serial)) (range_with_len s (length xs))
file-numbers k s [] = refl
file-numbers k s (x ∷ xs) =
    ap (λ (ns : List (ℕ × ℕ)). (k, s) ∷ ns) (file-numbers k (suc s) xs ∙ ap (λ n. map (λ serial. (k, serial)) (range_with_len n (length xs))) (let q : suc s ≡ s + 1 = omega arith in q))

pub length-rows : (k : ℕ) (fss : List Layout) (ws : List RecordStream) → length fss ≡ length ws → length (rows_of_files k fss ws) ≡ length ws
length-rows k [] [] e = refl
length-rows k [] (w ∷ ws) e = absurd (omega (arith, e))
length-rows k (layout ∷ fss) [] e = absurd (omega (arith, e))
length-rows k (layout ∷ fss) (w ∷ ws) e = ap suc (length-rows (k + 1) fss ws (omega (arith, e)))

-- the numbers of a file's batches
abbrev pub batch_numbers : ℕ → ℕ × Stream ScanFault → List (ℕ × ℕ)
batch_numbers b q = map (λ serial. (q.0, serial)) (range_with_len 0 (length (pieces b q.1.rows)))

pub files-numbers : (b k : ℕ) (fss : List Layout) (ws : List RecordStream) → AllDone (rows_of_files k fss ws) →
    numbers (numbered k (items_of_files b k fss ws)) ≡ flat_map (batch_numbers b) (zip (range_with_len k (length (rows_of_files k fss ws))) (rows_of_files k fss ws))
files-numbers b k [] ws h = refl
files-numbers b k (layout ∷ fss) [] h = refl
files-numbers b k (layout ∷ fss) (w ∷ ws) h =
    let rest : List (ℕ × ℕ × FileItem) = numbered (suc k) (items_of_files b (k + 1) fss ws) in
    map-append (λ (x : ℕ × ℕ × FileItem). (x.0, x.1)) (numbered_file k 0 (scanned_items k layout b 0 w)) rest
    ∙ ap (λ (ns : List (ℕ × ℕ)). ns ++ numbers rest) (file-numbers k 0 (scanned_items k layout b 0 w) ∙ ap (λ n. map (λ serial. (k, serial)) (range_with_len 0 n)) (done-length b k layout w h.0))
    ∙ ap (λ (ns : List (ℕ × ℕ)). batch_numbers b (k, rows_of_records k layout row_limit 0 w) ++ ns)
    (ap (λ n. numbers (numbered n (items_of_files b (k + 1) fss ws))) (let q : suc k ≡ k + 1 = omega arith in q) ∙ files-numbers b (k + 1) fss ws h.1)

-- ---- readers that tell their bytes

pub opened-told : {R : Type 0} (remaining : R → Option (List ℕ)) (b k : ℕ) (fss : List Layout) (readers : List R) (files : List (List ℕ)) → Tell remaining readers files →
    map (λ (f : Feeding). f.items) (opened remaining b k fss readers) ≡ map Some (items_of_files b k fss (records_of_files k fss files))
opened-told remaining b k [] readers files h = refl
opened-told remaining b k (layout ∷ fss) [] [] h = refl
opened-told remaining b k (layout ∷ fss) [] (file ∷ files) h = absurd (cc h)
opened-told remaining b k (layout ∷ fss) (r ∷ rs) [] h = absurd (cc h)
opened-told remaining b k (layout ∷ fss) (r ∷ rs) (file ∷ files) h =
    let one : remaining r ≡ Some file = cc h in
    let rest : map remaining rs ≡ map Some files = cc h in
    ap (λ o. option_map (scanned_items k layout b 0) (option_map (record_stream k layout.schema row_limit) o) ∷ map (λ (f : Feeding). f.items) (opened remaining b (k + 1) fss rs)) one
    ∙ ap (λ os. Some (scanned_items k layout b 0 (record_stream k layout.schema row_limit file)) ∷ os) (opened-told remaining b (k + 1) fss rs files rest)

-- the rows of files' records are the files' streams
pub rows-of-bytes : (k : ℕ) (fss : List Layout) (files : List (List ℕ)) →
    rows_of_files k fss (records_of_files k fss files) ≡ zip_with (λ i (file : Layout × List ℕ). file_stream i file.0 row_limit file.1) (range_with_len k (length files)) (zip fss files)
rows-of-bytes k [] [] = refl
rows-of-bytes k [] (bytes ∷ files) = refl
rows-of-bytes k (layout ∷ fss) [] = refl
rows-of-bytes k (layout ∷ fss) (bytes ∷ files) =
    ap (λ u. u ∷ rows_of_files (k + 1) fss (records_of_files (k + 1) fss files)) (sym (rows-under-header k layout row_limit _))
    ∙ ap (λ us. file_stream k layout row_limit bytes ∷ us) (rows-of-bytes (k + 1) fss files)
