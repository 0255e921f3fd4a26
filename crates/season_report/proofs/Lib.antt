mod Added
mod Axes
mod Ends
mod Figures
pub mod Largest
pub mod Reported
mod Taking
