-- The spellings, the values and the escapes of strings, and other quotes; inner is for private functions.
pub mod Bytes
pub mod Pieces
pub mod Escape
pub mod Meaning
pub mod Spelling
pub mod Value
pub mod Requote
pub mod Front
pub mod ShortEnd
pub mod LongEnd
pub mod inner
