pub mod Sums
pub mod Bounds
pub mod Combined
pub mod Made
