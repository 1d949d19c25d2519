-- What only this crate's own functions cite: the items of a text, which are its words before they are spelled, and its `#` line.
pub mod Items
pub mod Line
pub mod Listed
pub mod Next
pub mod Starts
