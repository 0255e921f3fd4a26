mod Gathered
pub mod Values
