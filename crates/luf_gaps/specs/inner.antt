-- What only private functions and the reader's view cite: the mask of the dropped tokens, the gaps that are left behind it,
-- and where a comment lies.
pub mod Left
pub mod Marked
pub mod Within
