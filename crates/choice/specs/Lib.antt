pub mod Threshold
pub mod Choice
pub mod Rule
pub mod Widest
pub mod laws
