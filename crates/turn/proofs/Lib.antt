mod Combination
pub mod GainExamples
mod Power
pub mod Back
pub mod Columns
pub mod Error
pub mod Gain
pub mod Norm
pub mod Pass
pub mod Whole
pub mod ProvedBy
