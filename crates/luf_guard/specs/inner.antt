-- What only private functions cite: what a token would go on over.
pub mod Joins
