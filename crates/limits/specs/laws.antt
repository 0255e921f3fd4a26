pub mod Channels
pub mod Values
pub mod Unless
