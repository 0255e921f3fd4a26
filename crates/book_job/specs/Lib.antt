pub mod SameTable
pub mod laws
