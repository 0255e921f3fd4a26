pub mod Beyond
pub mod Shown
pub mod Leading
