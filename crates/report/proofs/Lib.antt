pub mod Bounds
mod Same
pub mod Certificate
mod Written
mod Ordering
pub mod AxisOrder
