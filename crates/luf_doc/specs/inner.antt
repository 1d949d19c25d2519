-- What only private functions cite.
pub mod Read
pub mod Above
