pub mod Panels
pub mod Listed
pub mod Position
pub mod Refusal
pub mod Text
pub mod Printed
pub mod inner
pub mod laws
