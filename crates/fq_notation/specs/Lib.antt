pub mod Digits
pub mod Decimals
pub mod Dates
pub mod Notation
pub mod Scales
pub mod Naming
pub mod Multiplied
