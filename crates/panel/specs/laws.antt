pub mod Entries
pub mod Tabulated
pub mod Places
pub mod Listed
pub mod Text
pub mod Printed
