-- What only private functions cite: the marks of each part of a chunk, one after another, and how they are added.
pub mod Marks
pub mod Runs
pub mod Starts
pub mod Arguments
pub mod Wholes
