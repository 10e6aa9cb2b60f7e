-- The items that the records of a file come to, and what a feed has still to give of them.
use Rattle.std.specs.Prelude.{◌≡◌, ◌+◌, ◌⊎◌, ⊤, ℕ, Bool, true, false, List, [], ◌∷◌, ◌++◌, length, Option, Some, None, option_map}
use Rattle.std.proofs.Common.{inl, inr, subst, sym}
use Rattle.std.proofs.lemmas.Option.{none-some, same_Some}
use Rattle.fq_column.specs.Lists.{pieces}
use Rattle.fq_csv.specs.File.{Record}
use Rattle.fq_csv.specs.RecordScan.{RecordScanning}
use Rattle.fq_csv.specs.Records.{IsOfText}
use Rattle.fq_csv.specs.Taking.{RecordStream}
use Rattle.fq_csv.specs.declared.faults.ScanFault.{ScanFault}
use Rattle.fq_csv.specs.declared.faults.ScanFault.TheVariants as scan
use Rattle.fq_csv.specs.declared.cells.layouts.Layout.{Layout}
use Rattle.fq_lanes.specs.declared.faults.FeedFault.{FeedFault}
use Rattle.fq_lanes.specs.declared.faults.FeedFault.TheVariants as feed
use Rattle.fq_run.specs.declared.file_feeds.FileItem.{FileItem}
use Rattle.fq_run.specs.declared.file_feeds.FileItem.TheVariants.{Run, Ended}

-- a fault as one item
abbrev pub end_item : Option ScanFault → List FileItem
end_item None = []
end_item (Some fault) = Ended fault ∷ []

-- records that are cut into runs, which follow so many rows of the file
abbrev pub runs_from : ℕ → Layout → ℕ → List (List Record) → List FileItem
runs_from file layout before [] = []
runs_from file layout before (rs ∷ more) = Run (record { file = file; layout = layout; before = before; records = rs }) ∷ runs_from file layout (before + length rs) more

-- the items of a stream of records: these in runs, and then their fault if they have one
abbrev pub scanned_items : ℕ → Layout → ℕ → ℕ → RecordStream → List FileItem
scanned_items file layout run_size before u = runs_from file layout before (pieces run_size u.records) ++ end_item u.fault

-- how many items may come at most, and which do, if the reader tells its bytes and has not failed
pub record Feeding : Type 0 where
  pub most : ℕ
  pub items : Option (List FileItem)

-- so of a scan of records; nothing comes after its fault was given
abbrev pub feeding_of : RecordScanning → Bool → Feeding
feeding_of s true = record { most = 0; items = Some [] }
feeding_of s false = record { most = s.room + 1; items = option_map (scanned_items s.file s.layout s.run_size s.taken) s.upcoming }

-- what the engine is told of where a scan could not go on: a failed read is a failed read, and a failed allocation is one
abbrev pub failure_in : ScanFault → Option FeedFault
failure_in (scan.Read file) = Some feed.Read
failure_in scan.Memory = Some feed.Memory
failure_in _ = None

-- an item's fault is one of the file's text: a failed read is never an item
abbrev pub IsTextItem : FileItem → Type 0
IsTextItem (Run run) = ⊤
IsTextItem (Ended fault) = IsOfText (Some fault)

abbrev pub AreTextItems : List FileItem → Type 0
AreTextItems [] = Unit {0}
AreTextItems (x ∷ xs) = IsTextItem x × AreTextItems xs

abbrev pub AllTextItems : List (List FileItem) → Type 0
AllTextItems [] = Unit {0}
AllTextItems (xs ∷ xss) = AreTextItems xs × AllTextItems xss

-- items whose faults are of the text; and if others are known, of which that holds too, they are those
abbrev pub AreItems : Option (List FileItem) → List FileItem → Type 0
AreItems items xs = AreTextItems xs × ((known : List FileItem) → items ≡ Some known → AreTextItems known → xs ≡ known)

-- these may be the items that come
abbrev pub MayCome : Feeding → List FileItem → Type 0
MayCome f xs = AreItems f.items xs

-- some list always may
pub some_items : (f : Feeding) → (xs : List FileItem) × MayCome f xs
some_items f = go f.items
  where
    one : (x : FileItem) → IsTextItem x ⊎ (IsTextItem x → ⊥)
    one (Run run) = inl tt
    one (Ended (scan.Header file)) = inl tt
    one (Ended (scan.Width file row)) = inl tt
    one (Ended (scan.BadCell file row column)) = inl tt
    one (Ended (scan.TooLong file)) = inl tt
    one (Ended (scan.Read file)) = inr (λ h. h)
    one (Ended scan.Memory) = inr (λ h. h)

    both : (x : FileItem) (xs : List FileItem) → IsTextItem x ⊎ (IsTextItem x → ⊥) → AreTextItems xs ⊎ (AreTextItems xs → ⊥) → AreTextItems (x ∷ xs) ⊎ (AreTextItems (x ∷ xs) → ⊥)
    both x xs (inl first) (inl rest) = inl (first, rest)
    both x xs (inl first) (inr not_rest) = inr (λ h. not_rest h.1)
    both x xs (inr not_first) rest = inr (λ h. not_first h.0)

    all : (xs : List FileItem) → AreTextItems xs ⊎ (AreTextItems xs → ⊥)
    all [] = inl tt
    all (x ∷ xs) = both x xs (one x) (all xs)

    chosen : (xs : List FileItem) → AreTextItems xs ⊎ (AreTextItems xs → ⊥) → (ys : List FileItem) × AreItems (Some xs) ys
    chosen xs (inl held) = (xs, (held, λ known e h. same_Some xs known e))
    chosen xs (inr not_held) = ([], (tt, λ known e h. absurd (not_held (subst AreTextItems (sym (same_Some xs known e)) h))))

    go : (o : Option (List FileItem)) → (xs : List FileItem) × AreItems o xs
    go None = ([], (tt, λ known e h. absurd (none-some known e)))
    go (Some xs) = chosen xs (all xs)
