-- What only private functions cite.
pub mod AreNotes
pub mod DraftText
pub mod LaidNotes
pub mod LaidWords
pub mod Marks
pub mod Steps
pub mod Takes
