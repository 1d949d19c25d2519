-- What only private functions cite.
pub mod Ahead
pub mod Leads
pub mod Modes
pub mod Blanks
pub mod Chances
pub mod Parted
pub mod Running
pub mod Shows
pub mod Written
pub mod Texts
pub mod Tape
pub mod Openings
pub mod Measured
pub mod Straight
pub mod GapList
