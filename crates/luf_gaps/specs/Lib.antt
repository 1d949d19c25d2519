-- The comments of a source in the gaps of its program.
pub mod Gaps
pub mod inner
