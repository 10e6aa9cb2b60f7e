pub mod Parts
pub mod Plan
pub mod Spelling
pub mod Reading
pub mod View
pub mod Judged
pub mod Explained
pub mod Versions
