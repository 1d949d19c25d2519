-- Operations by their numbers, and instructions by their words.
pub mod Numbers
pub mod Words
