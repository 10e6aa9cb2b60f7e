pub mod CheckLemmas
pub mod ClauseLemmas
pub mod NamedLemmas
pub mod OpeningLemmas
