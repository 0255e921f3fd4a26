pub mod Gain
pub mod GainExample
pub mod Invariant
pub mod Rows
