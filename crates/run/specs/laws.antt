pub mod Course
pub mod Calls
pub mod Table
pub mod Word
