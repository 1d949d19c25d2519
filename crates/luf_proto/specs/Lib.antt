-- Functions as plain data, the one of a prototype, and what is left of one without its lines.
pub mod Chunk
pub mod Function
pub mod FunctionOf
-- what only private functions cite
pub mod inner
