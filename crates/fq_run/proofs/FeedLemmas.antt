-- What a feed has still to give, call by call.
use Rattle.std.proofs.Common.{◌≡◌, ◌+◌, ◌<◌, inl, inr, ℕ, Bool, false, List, [], ◌∷◌, ◌++◌, length, take, Option, Some, None, option_map, Ok, Err, refl, ap, sym, subst, ◌∙◌, arith, length-take}
use Rattle.std.proofs.lemmas.Option.{none-some, same_Some}
use Rattle.fq_csv.specs.File.{Record}
use Rattle.fq_csv.specs.RecordScan.{HandsOutRun, IsNextRun, RecordScanning}
use Rattle.fq_csv.specs.Records.{IsFailure, IsOfText}
use Rattle.fq_csv.specs.Taking.{FieldRun, RecordStream, over, without_records}
use Rattle.fq_csv.specs.declared.faults.ScanFault.{ScanFault}
use Rattle.fq_csv.specs.declared.cells.layouts.Layout.{Layout}
use Rattle.fq_csv.specs.declared.faults.ScanFault.TheVariants.{Header, Width, BadCell, TooLong, Read, Memory}
use Rattle.fq_csv.proofs.HandedOutLemmas.{pieces-more, pieces-none}
use Rattle.fq_run.specs.Feeding.{AreTextItems, Feeding, MayCome, end_item, failure_in, feeding_of, runs_from, scanned_items}
use Rattle.fq_run.specs.declared.file_feeds.FileItem.{FileItem}
use Rattle.fq_run.specs.declared.file_feeds.FileItem.TheVariants.{Run, Ended}

-- a run is the first item, and the rest comes
scanned_items-next : (file : ℕ) (layout : Layout) (size n : ℕ) (u : RecordStream) (run : FieldRun) → 0 < size → 0 < length u.records
    → run ≡ record { file = file; layout = layout; before = n; records = take size u.records }
    → scanned_items file layout size n u ≡ Run run ∷ scanned_items file layout size (n + length run.records) (without_records size u)
scanned_items-next file layout size n u run hs hu is =
    ap (λ rss. runs_from file layout n rss ++ end_item u.fault) (pieces-more size u.records hs hu)
    ∙ ap (λ (r : FieldRun). Run r ∷ scanned_items file layout size (n + length r.records) (without_records size u)) (sym is)

scanned_items-over : (file : ℕ) (layout : Layout) (size n : ℕ) (fault : Option ScanFault) → scanned_items file layout size n (over fault) ≡ end_item fault
scanned_items-over file layout size n fault = ap (λ rss. runs_from file layout n rss ++ end_item fault) (pieces-none {X = Record} size)

-- what comes of a scan whose fault was not given, if its records are known
comes : (s : RecordScanning) (over : Bool) (f : Feeding) (known : List FileItem) → f ≡ feeding_of s over → over ≡ false → f.items ≡ Some known
    → (u : RecordStream) × (s.upcoming ≡ Some u) × (scanned_items s.file s.layout s.run_size s.taken u ≡ known)
comes s over f known v n e = go s.upcoming refl
  where
    items : option_map (scanned_items s.file s.layout s.run_size s.taken) s.upcoming ≡ Some known
    items = sym (ap (λ (g : Feeding). g.items) (v ∙ ap (feeding_of s) n)) ∙ e

    go : (o : Option RecordStream) → s.upcoming ≡ o → (u : RecordStream) × (s.upcoming ≡ Some u) × (scanned_items s.file s.layout s.run_size s.taken u ≡ known)
    go None q = absurd (none-some known (sym (ap (option_map (scanned_items s.file s.layout s.run_size s.taken)) q) ∙ items))
    go (Some u) q = (u, q, same_Some _ known (sym (ap (option_map (scanned_items s.file s.layout s.run_size s.taken)) q) ∙ items))

pub next-run : (old new : RecordScanning) (ended : Bool) (f : Feeding) (run : FieldRun) (xs : List FileItem) → f ≡ feeding_of old ended → ended ≡ false
    → IsNextRun old run new
    → ((u : RecordStream) → old.upcoming ≡ Some u → HandsOutRun old.file old.run_size u (Ok (Some run)) new.upcoming)
    → MayCome (feeding_of new ended) xs → MayCome f (Run run ∷ xs)
next-run old new ended f run xs v n form out h = ((tt, h.0), same)
  where
    same : (known : List FileItem) → f.items ≡ Some known → AreTextItems known → Run run ∷ xs ≡ known
    same known e text =
        let told = comes old ended f known v n e in
        let u : RecordStream = told.0 in
        let o : (run.records ≡ take old.run_size u.records) × (new.upcoming ≡ Some (without_records old.run_size u)) = out u told.1 in
        let some : 0 < length u.records = omega (arith, form.some, ap length o.0, length-take old.run_size u.records) in
        let size : 0 < old.run_size = omega (arith, form.some, form.fits) in
        let is : run ≡ record { file = old.file; layout = old.layout; before = old.taken; records = take old.run_size u.records } = λ i. record { file = form.number i; layout = form.layout i; before = form.place i; records = o.0 i } in
        let left : scanned_items new.file new.layout new.run_size new.taken (without_records old.run_size u) ≡ scanned_items old.file old.layout old.run_size (old.taken + length run.records) (without_records old.run_size u) =
        λ i. scanned_items (form.same.file i) (form.same.layout i) (form.same.size i) (form.counted i) (without_records old.run_size u) in
        let whole : Run run ∷ scanned_items new.file new.layout new.run_size new.taken (without_records old.run_size u) ≡ known =
        ap (λ ys. Run run ∷ ys) left ∙ sym (scanned_items-next old.file old.layout old.run_size old.taken u run size some is) ∙ told.2 in
        let rest : xs ≡ scanned_items new.file new.layout new.run_size new.taken (without_records old.run_size u) =
        h.1 _ (ap (λ over. (feeding_of new over).items) n ∙ ap (option_map (scanned_items new.file new.layout new.run_size new.taken)) o.1) (subst AreTextItems (sym whole) text).1 in
        ap (λ ys. Run run ∷ ys) rest ∙ whole

-- no record is left
pub no-run : (old new : RecordScanning) (ended : Bool) (f : Feeding) → f ≡ feeding_of old ended → ended ≡ false
    → ((u : RecordStream) → old.upcoming ≡ Some u → HandsOutRun old.file old.run_size u (Ok None) new.upcoming)
    → MayCome f []
no-run old new ended f v n out = (tt, same)
  where
    same : (known : List FileItem) → f.items ≡ Some known → AreTextItems known → [] ≡ known
    same known e text =
        let told = comes old ended f known v n e in
        let o = out told.0 told.1 in
        sym (scanned_items-over old.file old.layout old.run_size old.taken None) ∙ ap (scanned_items old.file old.layout old.run_size old.taken) (sym o.0) ∙ told.2

pub next-fault : (old new : RecordScanning) (ended : Bool) (f : Feeding) (fault : ScanFault) (xs : List FileItem) → f ≡ feeding_of old ended → ended ≡ false
    → ((u : RecordStream) → old.upcoming ≡ Some u → HandsOutRun old.file old.run_size u (Err fault) new.upcoming)
    → failure_in fault ≡ None → xs ≡ [] → MayCome f (Ended fault ∷ xs)
next-fault old new ended f fault xs v n out text none = ((text-fault fault text, subst AreTextItems (sym none) tt), same)
  where
    text-fault : (fault : ScanFault) → failure_in fault ≡ None → IsOfText (Some fault)
    text-fault (Header file) e = tt
    text-fault (Width file row) e = tt
    text-fault (BadCell file row column) e = tt
    text-fault (TooLong file) e = tt
    text-fault (Read file) e = absurd (none-some _ (sym e))
    text-fault Memory e = absurd (none-some _ (sym e))

    go : IsFailure old.file fault → ⊥
    go (inl q) = none-some _ (sym text ∙ ap failure_in q)
    go (inr q) = none-some _ (sym text ∙ ap failure_in q)

    same : (known : List FileItem) → f.items ≡ Some known → AreTextItems known → Ended fault ∷ xs ≡ known
    same known e are_text =
        let told = comes old ended f known v n e in
        elim (out told.0 told.1) [
          | inl o ↦ ap (λ ys. Ended fault ∷ ys) none ∙ sym (scanned_items-over old.file old.layout old.run_size old.taken (Some fault)) ∙ ap (scanned_items old.file old.layout old.run_size old.taken) (sym o.0) ∙ told.2
          | inr failed ↦ absurd (go failed)
        ]
