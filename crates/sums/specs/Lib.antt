pub mod Sums
pub mod Ranges
pub mod Combined
pub mod inner
pub mod laws
