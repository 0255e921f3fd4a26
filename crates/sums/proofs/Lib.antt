pub mod Raised
pub mod First
