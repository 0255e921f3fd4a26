pub mod JobTable
pub mod Table
pub mod inner
pub mod laws
