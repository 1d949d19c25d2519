pub mod Interference
pub mod NewNames
pub mod RenamingLaws
pub mod inner
