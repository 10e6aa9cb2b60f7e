-- The records of a text, and where each of them ends.
use Rattle.std.specs.Prelude.{◌≡◌, ◌<◌, ◌≤◌, ◌-◌, ◌==◌, ◌||◌, ◌⊎◌, Option, MatchBool, ℕ, Bool, true, false, List, [], ◌∷◌, ◌++◌, length, take, drop, get_or}
use Rattle.csv.specs.Machine.{Read, ends_at_end, next_record, step}
use Rattle.csv.specs.Reading.{default_config, records}
use Rattle.csv.specs.declared.parser.State.{State}
use Rattle.csv.specs.declared.parser.State.TheVariants as st
use Rattle.fq_csv.specs.File.{Record}
use Rattle.fq_csv.specs.declared.cutting.End.{End}
use Rattle.fq_csv.specs.declared.cutting.End.TheVariants as end
use Rattle.fq_csv.specs.declared.cutting.Ends.{Ends}

-- the bytes from one place up to another
abbrev pub between : List ℕ → ℕ → ℕ → List ℕ
between text start end = take (end - start) (drop start text)

-- these bytes are these records, whatever follows them
abbrev pub AreRecords : List ℕ → List Record → Type 0
AreRecords bytes rs = (more : List ℕ) → records default_config (bytes ++ more) ≡ rs ++ records default_config more

-- these bytes are one record if nothing follows them; or they are no record, whatever follows
abbrev pub AreLast : List ℕ → Bool → Type 0
AreLast bytes is_open = MatchBool is_open ((r : Record) × (records default_config bytes ≡ r ∷ [])) (AreRecords bytes [])

-- how the next record of a text ends
abbrev pub EndsBy : List ℕ → ℕ → End → Type 0
EndsBy text from (end.At next) = (from < next) × (next ≤ length text) × (r : Record) × AreRecords (between text from next) (r ∷ [])
EndsBy text from end.Open = AreLast (drop from text) true
EndsBy text from end.Nothing = AreLast (drop from text) false

-- the first whole records of a text, up to a number of them
pub record IsUpTo (text : List ℕ) (wanted : ℕ) (ends : Ends) : Type 0 where
  pub high : ends.end ≤ length text
  pub few : ends.count ≤ wanted
  pub rs : List Record
  pub count : length rs ≡ ends.count
  pub whole : AreRecords (take ends.end text) rs
  pub last : ends.count < wanted → AreLast (drop ends.end text) ends.is_open

-- ---- inside a record

-- the next record of a text
abbrev pub next_of : List ℕ → Option Read
next_of xs = next_record default_config st.StartRecord [] [] xs

-- these bytes only end lines: the next record is that of what follows them
abbrev pub IsBlank : List ℕ → Type 0
IsBlank bytes = (more : List ℕ) → next_of (bytes ++ more) ≡ next_of more

-- a state between two records
abbrev pub IsBetween : State → Type 0
IsBetween s = (s ≡ st.StartRecord) ⊎ (s ≡ st.AfterCr)

-- the bytes that a search in a field that is not quoted stops at
abbrev pub stops : ℕ → Bool
stops c = (c == 34) || ((c == 13) || (c == 10))

-- it stops at none of the bytes from one place up to another
abbrev pub NoneStops : List ℕ → ℕ → ℕ → Type 0
NoneStops text at end = (i : ℕ) → at ≤ i → i < end → stops (get_or text i 0) ≡ false

-- no quote stands from one place up to another
abbrev pub NoQuote : List ℕ → ℕ → ℕ → Type 0
NoQuote text at end = (i : ℕ) → at ≤ i → i < end → (get_or text i 0 == 34) ≡ false

-- after these bytes, whatever follows, the next record is what is read from this state
abbrev pub IsIn : List ℕ → State → Type 0
IsIn bytes s = (fields : Record) × (field : List ℕ) × ((more : List ℕ) → next_of (bytes ++ more) ≡ next_record default_config s fields field more)

-- the bytes from one place up to another are of one record, and the next byte is taken as in this state; if there is none, the record ends
pub record IsAt (text : List ℕ) (from at : ℕ) (s : State) : Type 0 where
  pub state : State
  pub reads : IsIn (between text from at) state
  pub ends : length text ≤ at → ends_at_end state ≡ true
  pub alike : at < length text → step default_config state (get_or text at 0) ≡ step default_config s (get_or text at 0)

-- whether a field begins at a place after the start of a record, outside of quotes
abbrev pub begins : List ℕ → ℕ → ℕ → Bool
begins text start at = (at == start) || (get_or text (at - 1) 0 == 44)

-- the state at a place outside of quotes
abbrev pub outside : Bool → State
outside true = st.StartField
outside false = st.InField
