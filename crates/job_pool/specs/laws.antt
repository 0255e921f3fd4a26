pub mod Refusal
pub mod Joined
pub mod Printed
pub mod Examples
