pub mod OnLiterals
pub mod RuleLemmas
pub mod RunCommand
pub mod EntryLemmas
pub mod ListLemmas
