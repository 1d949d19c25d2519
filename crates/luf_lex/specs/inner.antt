-- What only private functions cite: one step of the scan of a numeral, the indexes of the tokens and the comments of a cut,
-- its blanks, and what is kept of its pieces meanwhile.
pub mod Scan
pub mod TokenIndex
pub mod Leads
pub mod Filled
pub mod Growing
