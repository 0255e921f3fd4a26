pub mod Solvable
pub mod Readable
