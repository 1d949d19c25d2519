-- Functions whose floats are words, and the first float that has none.
pub mod Worded
-- what only private functions cite
pub mod inner
