pub mod Rebuilding
pub mod Changing
pub mod Answering
pub mod After
pub mod Fed
pub mod Pasted
