pub mod Jumps
pub mod inner
