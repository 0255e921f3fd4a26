pub mod Generator
pub mod Ranges
