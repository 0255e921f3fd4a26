pub mod Book
pub mod Calls
pub mod Meaning
pub mod Held
