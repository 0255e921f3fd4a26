pub mod Samples
pub mod Ranges
pub mod Refusal
pub mod laws
