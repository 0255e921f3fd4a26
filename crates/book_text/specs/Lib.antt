pub mod Calls
pub mod Answers
pub mod Text
pub mod Steps
pub mod inner
pub mod laws
