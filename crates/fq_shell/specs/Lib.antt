pub mod Notations
pub mod Arguments
pub mod Examples
