pub mod LineCountLemmas
pub mod LineLemmas
pub mod MarkLemmas
pub mod RecordLemmas
