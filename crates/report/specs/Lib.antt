pub mod AxisOrder
pub mod AxisNumbers
pub mod Report
pub mod Done
pub mod Certificate
pub mod inner
pub mod laws
