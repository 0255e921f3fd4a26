pub mod Answers
pub mod Numbers
pub mod Fields
pub mod Calls
pub mod Requests
pub mod inner
pub mod laws
