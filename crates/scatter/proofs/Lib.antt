pub mod Places
pub mod Assembled
pub mod Symmetric
pub mod Greatest
