pub mod BySums
pub mod Shift
pub mod Bounds
pub mod MostShift
pub mod Entries
pub mod Table
