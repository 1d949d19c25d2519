pub mod inner
pub mod Format
pub mod Limits
pub mod List
pub mod Minify
pub mod Refusals
pub mod Source
