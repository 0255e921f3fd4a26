pub mod Running
pub mod Orders
pub mod Named
pub mod Solved
pub mod Found
