mod Fields
mod Sample
pub mod Reading
pub mod Writing
pub mod Length
pub mod Writer
mod Filling
