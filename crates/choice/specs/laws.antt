pub mod Threshold
pub mod Smallest
