pub mod Cards
pub mod laws
