pub mod Samples
pub mod Refusal
pub mod Examples
pub mod Joined
