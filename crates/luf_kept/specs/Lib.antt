pub mod inner
pub mod Kept
