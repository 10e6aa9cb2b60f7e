-- Where a reader of CSV stands, as a state of its machine.
use Rattle.std.specs.Prelude.{◌==◌, Bool, false, ℕ}
use Rattle.csv.specs.declared.parser.State.{State}
use Rattle.csv.specs.declared.parser.State.TheVariants as st
use Rattle.fq_places.specs.declared.places.Place.{Place}
use Rattle.fq_places.specs.declared.places.Place.TheVariants as place

abbrev pub state_of : Place → State
state_of place.Start = st.StartRecord
state_of place.AfterReturn = st.AfterCr
state_of place.Field = st.StartField
state_of place.InField = st.InField
state_of place.InQuotes = st.InQuoted
state_of place.AfterQuote = st.AfterQuote

-- whether a byte opens quotes
abbrev pub opens : State → ℕ → Bool
opens st.StartRecord c = c == 34
opens st.AfterCr c = c == 34
opens st.StartField c = c == 34
opens _ c = false
