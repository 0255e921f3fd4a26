pub mod Layout
pub mod Tabled
pub mod Examples
