pub mod Paging
pub mod Saying
pub mod Asking
pub mod Receiving
mod Stepping
