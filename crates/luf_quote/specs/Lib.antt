-- The choices of a style.
pub mod Chosen
pub mod Parens
