pub mod Equal
pub mod Former
pub mod Limit
pub mod Runs
pub mod Printed
