-- What only private functions cite, so that nothing here has to be believed.
pub mod Holders
pub mod Sites
pub mod Names
pub mod Innermost
pub mod Firsts
pub mod Rows
pub mod Leaps
pub mod Faults
pub mod Marking
pub mod Targets
