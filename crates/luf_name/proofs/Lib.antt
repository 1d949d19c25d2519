-- The laws of the order, the name of a number, the number of a name, and a word.
pub mod Counting
pub mod Naming
pub mod Ranks
pub mod Rising
pub mod Words
