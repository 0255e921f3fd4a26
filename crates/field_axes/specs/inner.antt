pub mod Given
pub mod Solution
pub mod Solvable
pub mod Readable
