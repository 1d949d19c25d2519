-- The minified text of a source. What stands in `inner` only private functions cite.
pub mod Minified
pub mod MinifiedLaws
pub mod Text
pub mod inner
