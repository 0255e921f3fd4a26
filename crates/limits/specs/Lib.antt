pub mod Limits
pub mod Unless
pub mod laws
