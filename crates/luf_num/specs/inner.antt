-- What only private functions cite: their contracts are proved to give those of the public calls, so that nothing here
-- has to be believed.
pub mod Base
pub mod Parts
pub mod FloatParts
pub mod Rounded
