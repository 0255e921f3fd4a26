pub mod Rotation
pub mod Eight
pub mod Size
pub mod InPlace
