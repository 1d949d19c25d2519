-- The draft of a chunk. What stands in `inner` only private functions cite.
pub mod Draft
pub mod Flat
pub mod Form
pub mod Openings
pub mod inner
