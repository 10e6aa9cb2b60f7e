pub mod Ending
pub mod Input
pub mod Reviewed
