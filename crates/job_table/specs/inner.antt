pub mod Done
pub mod Rows
