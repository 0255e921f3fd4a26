pub mod JobText
pub mod Writer
pub mod inner
pub mod laws
