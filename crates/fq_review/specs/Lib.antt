pub mod Checked
pub mod Drafted
