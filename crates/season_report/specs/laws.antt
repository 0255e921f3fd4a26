pub mod Lists
pub mod Step
pub mod Overtakes
pub mod Together
pub mod Limits
pub mod Text
