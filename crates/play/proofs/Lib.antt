mod Reading
mod LentCalls
mod Stepping
mod Passing
mod Input
