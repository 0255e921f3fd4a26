pub mod Text
pub mod Steps
pub mod ReachedRecord
pub mod Receiver
pub mod Buffer
pub mod inner
pub mod laws
