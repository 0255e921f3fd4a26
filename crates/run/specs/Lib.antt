pub mod Run
pub mod Calls
pub mod Word
pub mod laws
