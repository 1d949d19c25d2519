-- The listing of a function, line by line.
pub mod Listing
