-- What the bytes of a chunk read as, field by field, and what the reader answers.
pub mod Answers
pub mod Field
pub mod FirstWrong
pub mod Grammar
pub mod Readable
pub mod Reading
-- what only private functions cite
pub mod inner
