pub mod BySums
pub mod Ranges
pub mod Shift
