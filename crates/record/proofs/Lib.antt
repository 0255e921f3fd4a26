mod Axes
pub mod Benches
mod Checks
pub mod Filled
pub mod Search
pub mod FlatFilled
pub mod EndOfRun
pub mod Orders
mod Rounds
pub mod Sweeping
mod Worked
mod Going
pub mod Told
pub mod Demand3proof
pub mod Named
