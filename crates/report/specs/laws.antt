pub mod AxisOrder
pub mod AxisNumbers
