mod Chosen
mod Search
pub mod ProvedBy
