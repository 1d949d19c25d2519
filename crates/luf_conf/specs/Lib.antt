-- What keys say, and what a text tells; inner is for private functions.
pub mod Settings
pub mod Answers
pub mod inner
