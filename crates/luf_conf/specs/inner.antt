-- What only private functions cite: options with one more member, and what names name.
pub mod Member
pub mod Named
