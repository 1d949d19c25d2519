pub mod Document
pub mod Flat
pub mod Layout
pub mod Table
pub mod Sizes
pub mod inner
