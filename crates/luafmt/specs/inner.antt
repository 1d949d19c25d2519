-- What only private functions cite. A reader of the public contracts need not read it.
pub mod Ended
pub mod InRange
pub mod NoJob
