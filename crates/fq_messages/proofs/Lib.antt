pub mod ReviewLemmas
pub mod InputLemmas
pub mod EndingLemmas
