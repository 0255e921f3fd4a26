mod Printing
pub mod Splitting
mod Digits
mod Lines
mod Asking
mod Lists
mod Readings
