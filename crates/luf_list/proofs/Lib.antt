-- What is written and what is left, after one more line or one more function, and what was there before.
pub mod Kept
pub mod Lines
