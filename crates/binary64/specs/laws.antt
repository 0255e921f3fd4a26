pub mod Bytes
pub mod Exact
pub mod Operations
pub mod Unique
pub mod Examples
