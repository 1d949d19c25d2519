-- The lexis of Lua 5.4: how pieces are spelled, the first piece of a text, the cut of a source, and the tokens and comments of
-- a cut. What stands in `inner` only private functions cite.
pub mod Word
pub mod Sign
pub mod Spelling
pub mod First
pub mod Cut
pub mod Tokens
pub mod Note
pub mod inner
