mod Answers
mod Ranges
mod Small
pub mod Bounds
