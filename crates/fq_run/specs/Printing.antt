-- Text of which threads still print parts.
use Rattle.std.specs.Prelude.{◌≤◌, ℕ, List, ◌++◌, flat_map, length, max}
use Rattle.fq_run.specs.PrintedText.{rows_text, text_of}
use Rattle.fq_run.specs.declared.printing.Part.{Part}
use Rattle.fq_run.specs.declared.printing.Part.TheVariants.{Text, Thread}
use Rattle.fq_run.specs.declared.printing.Printing.{Printing}

-- a part's text; a thread's is what it promises
abbrev pub part_text : Part → List ℕ
part_text (Text t) = text_of t
part_text (Thread thread) = rows_text thread.promise.notations.value thread.promise.batches.value.items

-- the text of all rows: of those that are printed, of each part, and of those that are gathered
abbrev pub whole_text : {T : Type 0} → Printing T → List ℕ
whole_text p = text_of p.text ++ (flat_map part_text p.parts.items ++ rows_text p.press.notations.now p.batches.items)

-- at most as many parts wait to be printed as threads may print at once, so no more do; the caller's thread prints one by itself
abbrev pub HasFewParts : {T : Type 0} → Printing T → Type 0
HasFewParts p = length p.parts.items ≤ max 1 p.press.threads
