-- Where two tokens need a space between them, and statements a `;`. What stands in `inner` only private functions cite.
pub mod Guard
pub mod Space
pub mod inner
