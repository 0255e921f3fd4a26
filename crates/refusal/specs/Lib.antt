pub mod Refusal
pub mod laws
