-- What only private functions cite, so that nothing here has to be believed.
pub mod Parts
pub mod Kept
pub mod Last
pub mod Scopes
pub mod Sweep
pub mod Laid
pub mod Starts
pub mod Buckets
pub mod Attributes
