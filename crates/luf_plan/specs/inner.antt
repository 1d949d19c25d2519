-- What only private functions cite. A reader of the public contracts need not read it.
pub mod Chosen
