pub mod Raised
pub mod Ranges
