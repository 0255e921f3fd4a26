pub mod Asked
pub mod Read
pub mod Parts
