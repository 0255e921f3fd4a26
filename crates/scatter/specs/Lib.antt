pub mod Table
pub mod BySums
pub mod inner
pub mod laws
