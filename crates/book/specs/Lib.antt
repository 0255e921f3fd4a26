pub mod Book
pub mod Calls
pub mod Consistent
pub mod Fed
pub mod Done
pub mod inner
pub mod laws
