-- What is read of the files of a plan whose main source keeps the columns that the plan needs, and what a run of it answers.
use Rattle.std.proofs.Common.{◌≡◌, ℕ, zero, suc, ◌<◌, Bool, List, [], ◌∷◌, ◌++◌, map, take, drop, length, flat_map, replicate, sum_by, Option, Result, Ok, Err, refl, ap, sym, subst, ◌∙◌, arith}
use Rattle.std.specs.Prelude.{zip, IfErr, IfOk, IsOk, OnOk}
use Rattle.std.specs.Int.{div_ceil}
use Rattle.std.specs.Io.KnownBytes.{Appends}
use Rattle.std.proofs.lemmas.List.{length-map, map-append}
use Rattle.fq_column.specs.Frame.{Frame}
use Rattle.fq_column.specs.Lists.{numbers, pieces, zip_with}
use Rattle.fq_column.specs.Masked.{masked, masked_stream}
use Rattle.fq_column.specs.Stream.{Stream}
use Rattle.fq_csv.specs.declared.faults.ScanFault.{ScanFault}
use Rattle.fq_csv.specs.declared.cells.layouts.Layout.{Layout}
use Rattle.fq_csv.specs.File.{all_kept, file_stream}
use Rattle.fq_csv.specs.Printed.{printed_in}
use Rattle.fq_csv.specs.Sources.{Source, but_last, layout_of, row_limit}
use Rattle.fq_csv.proofs.KeptColumnLemmas.{file-masked}
use Rattle.fq_language.specs.Plan.{PlanData, file_streams, files_wanted, side_files}
use Rattle.fq_lanes.specs.declared.reports.Report.{Report}
use Rattle.fq_plan.specs.Meaning.{meaning}
use Rattle.fq_plan.specs.Needed.{needed_alone, needed_columns}
use Rattle.fq_plan.specs.Stages.{keeping, narrowed, plan_of, query_of, whole_source, IsChecked}
use Rattle.fq_plan.proofs.FileWidthLemmas.{files-wide, layouts-last}
use Rattle.fq_plan.proofs.KeepingLemmas.{narrowed-snoc}
use Rattle.fq_plan.proofs.NeededLemmas.{alone-same}
use Rattle.fq_plan.proofs.PreparedLemmas.{checked-passes}
use Rattle.fq_plan.proofs.StageMeaning.{means}
use Rattle.fq_plan.proofs.WholeSourceLemmas.{wanted-whole}
use Rattle.fq_run.specs.Physical as physical
use Rattle.fq_run.specs.Run.{IsAnswer, IsOfMeaning, trace_of}
use Rattle.fq_run.specs.declared.faults.Fault.{Fault}
use Rattle.fq_csv.proofs.LastLemmas.{but_last-snoc}
use Rattle.fq_run.proofs.SourceOfFileLemmas.{has_main, layouts_of, length-layouts}

-- ---- the streams of their files

abbrev streams_under : List ℕ → List Layout → List (List ℕ) → List (Stream ScanFault)
streams_under is layouts files = zip_with (λ i (file : Layout × List ℕ). file_stream i file.0 row_limit file.1) is (zip layouts files)

-- the first n as they are, and null in the place of the cells of the others that are not marked
abbrev kept : List Bool → ℕ → List (Stream ScanFault) → List (Stream ScanFault)
kept marks n us = take n us ++ map (masked_stream marks) (drop n us)

module _ (marks : List Bool) where
  alone-masked : (s : Source) → s.projection ≡ [] → (is : List ℕ) (n : ℕ) (files : List (List ℕ)) →
      streams_under is (replicate n (layout_of (keeping marks s))) files ≡ map (masked_stream marks) (streams_under is (replicate n (layout_of s)) files)
  alone-masked s e [] n files = refl
  alone-masked s e (i ∷ is) zero files = refl
  alone-masked s e (i ∷ is) (suc n) [] = refl
  alone-masked s e (i ∷ is) (suc n) (file ∷ files) =
      let whole : all_kept (layout_of (keeping marks s)) ≡ layout_of s = λ j. record { schema = s.fields; nulls = s.nulls; notations = s.notations; projection = sym e j } in
      let first : file_stream i (layout_of (keeping marks s)) row_limit file ≡ masked_stream marks (file_stream i (layout_of s) row_limit file) =
      file-masked i (layout_of (keeping marks s)) row_limit file ∙ ap (λ (l : Layout). masked_stream marks (file_stream i l row_limit file)) whole in
      λ j. first j ∷ alone-masked s e is n files j

  parts-masked : (first other later : List Layout) → ((is : List ℕ) (files : List (List ℕ)) → streams_under is other files ≡ map (masked_stream marks) (streams_under is later files)) →
      (is : List ℕ) (files : List (List ℕ)) → streams_under is (first ++ other) files ≡ kept marks (length first) (streams_under is (first ++ later) files)
  parts-masked [] other later h is files = h is files
  parts-masked (l ∷ first) other later h [] files = refl
  parts-masked (l ∷ first) other later h (i ∷ is) [] = refl
  parts-masked (l ∷ first) other later h (i ∷ is) (file ∷ files) = ap (λ us. file_stream i l row_limit file ∷ us) (parts-masked first other later h is files)

  last-masked : (p : PlanData) (sources : List Source) (s : Source) → p.sources ≡ sources ++ s ∷ [] → s.projection ≡ [] → (files : List (List ℕ)) →
      streams_under (numbers (length files)) (layouts_of (sources ++ keeping marks s ∷ [])) files ≡ kept marks (side_files p) (file_streams p files)
  last-masked p sources s parts e files =
      let is = numbers (length files) in
      let mains : Source → List Layout = λ (t : Source). replicate t.files (layout_of t) in
      let sides : length (layouts_of sources) ≡ side_files p =
      length-layouts sources ∙ ap (sum_by (λ (t : Source). t.files)) (sym (but_last-snoc sources s)) ∙ ap (λ ss. sum_by (λ (t : Source). t.files) (but_last ss)) (sym parts) in
      ap (λ ls. streams_under is ls files) (layouts-last sources (keeping marks s))
      ∙ parts-masked (layouts_of sources) (mains (keeping marks s)) (mains s) (λ ks fs. alone-masked s e ks s.files fs) is files
      ∙ (λ i. kept marks (sides i) (streams_under is ((sym (layouts-last sources s) ∙ ap layouts_of (sym parts)) i) files))

-- ---- the trace

trace_under : ℕ → List ℕ → List (Stream ScanFault) → List (ℕ × ℕ)
trace_under b is us = flat_map (λ p. map (λ serial. (p.0, serial)) (numbers (length (pieces b p.1.rows)))) (zip is us)

abbrev counts : List (Stream ScanFault) → List ℕ
counts us = map (λ (u : Stream ScanFault). length u.rows) us

pieces-count : {X : Type 0} (b : ℕ) (xs ys : List X) → length xs ≡ length ys → length (pieces b xs) ≡ length (pieces b ys)
pieces-count b xs ys e =
    length-map (numbers (div_ceil (length xs) b)) _ ∙ ap (λ n. length (numbers (div_ceil n b))) e ∙ sym (length-map (numbers (div_ceil (length ys) b)) _)

trace-same : (b : ℕ) (is : List ℕ) (us vs : List (Stream ScanFault)) → counts us ≡ counts vs → trace_under b is us ≡ trace_under b is vs
unfolding trace_under
trace-same b [] us vs h = refl
trace-same b (i ∷ is) [] [] h = refl
trace-same b (i ∷ is) [] (v ∷ vs) h = absurd (cc)
trace-same b (i ∷ is) (u ∷ us) [] h = absurd (cc)
trace-same b (i ∷ is) (u ∷ us) (v ∷ vs) h =
    let first : length u.rows ≡ length v.rows = cc in
    let rest : counts us ≡ counts vs = cc in
    λ j. map (λ serial. (i, serial)) (numbers (pieces-count b u.rows v.rows first j)) ++ trace-same b is us vs rest j

counts-kept : (marks : List Bool) (n : ℕ) (us : List (Stream ScanFault)) → counts (kept marks n us) ≡ counts us
counts-kept marks zero [] = refl
counts-kept marks zero (u ∷ us) = λ j. length-map u.rows (masked marks) j ∷ counts-kept marks zero us j
counts-kept marks (suc n) [] = refl
counts-kept marks (suc n) (u ∷ us) = ap (λ ns. length u.rows ∷ ns) (counts-kept marks n us)

trace-kept : (marks : List Bool) (n b : ℕ) (us : List (Stream ScanFault)) → trace_of b (kept marks n us) ≡ trace_of b us
unfolding trace_under
trace-kept marks n b us =
    let vs = kept marks n us in
    let same : length vs ≡ length us = sym (length-map vs _) ∙ ap length (counts-kept marks n us) ∙ length-map us _ in
    ap (λ k. trace_under b (numbers k) vs) same ∙ trace-same b (numbers (length us)) vs us (counts-kept marks n us)

-- ---- a checked plan

module _ (p : physical.Physical) (c : IsChecked p) where
  abbrev query : PlanData
  query = query_of p

  some : 0 < length query.sources
  some = omega (arith, c.limits.some_source)

  -- the rows that are read are those of the plan's files with null in the place of each cell that the plan does not need
  pub reads-needed : (files : List (List ℕ)) → physical.file_streams p files ≡ needed_alone query (file_streams query files)
  reads-needed files =
      let marks = needed_columns query in
      let m = has_main p.sources (omega (arith, some, length-map p.sources whole_source)) in
      let sides = map whole_source (but_last p.sources) in
      let main = whole_source m.0 in
      let parts : query.sources ≡ sides ++ main ∷ [] = ap (map whole_source) m.1.all ∙ map-append whole_source (but_last p.sources) (m.0 ∷ []) in
      let own : p.sources ≡ sides ++ keeping marks main ∷ [] = c.sources ∙ ap (narrowed marks) parts ∙ narrowed-snoc marks sides main in
      ap (λ ss. streams_under (numbers (length files)) (layouts_of ss) files) own ∙ last-masked marks query sides main parts refl files

  pub run-means : (files : List (List ℕ)) → physical.outcome_of_run p (physical.file_streams p files) ≡ meaning query (file_streams query files)
  run-means files =
      let us = file_streams query files in
      let wide = files-wide query some files in
      means p c (physical.file_streams p files) ∙ ap (meaning query) (reads-needed files) ∙ sym (alone-same query (checked-passes p c) us wide.0 wide.1)

  run-trace : (b : ℕ) (files : List (List ℕ)) → trace_of b (physical.file_streams p files) ≡ trace_of b (file_streams query files)
  run-trace b files = ap (trace_of b) (reads-needed files) ∙ trace-kept (needed_columns query) (side_files query) b (file_streams query files)

  -- what a run answers
  pub answers-query : (given batch_size workers : ℕ) (Told : List (List ℕ) → Type 0) (before after : Option (List ℕ)) (result : Result Report Fault) →
      IsAnswer (physical.files_wanted p) given batch_size workers Told (physical.file_streams p) (physical.outcome_of_run p) p.notations before after result →
      IsAnswer (files_wanted query) given batch_size workers Told (file_streams query) (meaning query) query.notations before after result
  answers-query given batch_size workers Told before after result a =
      subst (λ n. IsAnswer n given batch_size workers Told (file_streams query) (meaning query) query.notations before after result) (sym (wanted-whole (plan_of p))) (record {
        refused = a.refused;
        started = a.started;
        printed = λ files told. subst (λ (o : Result Frame Fault). OnOk result ((frame : Frame) × (o ≡ Ok frame) × Appends before after (printed_in query.notations frame))) (run-means files) (a.printed files told);
        trace = λ files told. subst (λ (t : List (ℕ × ℕ)). IfOk result (λ (report : Report). report.trace.items ≡ t)) (run-trace batch_size files) (a.trace files told);
        fault = λ files told. subst (λ (o : Result Frame Fault). IfErr result (λ f. IsOfMeaning f → o ≡ Err f)) (run-means files) (a.fault files told);
        read = a.read;
        write = λ files told e. subst IsOk (run-means files) (a.write files told e);
        unwritten = a.unwritten;
      })
