pub mod Arrays
pub mod Rebuild
