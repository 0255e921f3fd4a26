pub mod Scan
pub mod Examples
pub mod Held
pub mod Proper
pub mod Reading
pub mod Refusals
pub mod Replying
