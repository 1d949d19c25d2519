-- What only private functions cite: the laws in proofs/ tie it to the relations, so that nothing here has to be
-- believed.
pub mod Reading
