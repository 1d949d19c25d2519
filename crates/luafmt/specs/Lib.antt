pub mod Code
pub mod Config
pub mod Counts
pub mod Job
pub mod Keeps
pub mod Line
pub mod Outcome
pub mod inner
