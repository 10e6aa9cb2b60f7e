pub mod Lines
pub mod Marks
pub mod Places
pub mod Records
