pub mod AxisNumbers
pub mod AxisOrder
pub mod Text
