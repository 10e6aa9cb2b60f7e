pub mod CheckLemmas
pub mod DraftLemmas
pub mod DraftedKindLemmas
