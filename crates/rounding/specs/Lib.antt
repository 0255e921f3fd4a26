pub mod Rounding
pub mod inner
pub mod laws
