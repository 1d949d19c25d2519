pub mod Resolved
pub mod ResolvedLaws
pub mod Source
