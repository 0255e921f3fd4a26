pub mod Accepted
mod Keeping
mod Same
mod Bytes
pub mod Tags
pub mod Told
mod Ends
mod Fields
mod Lines
mod Numeral
pub mod Records
pub mod ProvedBy
