pub mod Binary64
pub mod laws
