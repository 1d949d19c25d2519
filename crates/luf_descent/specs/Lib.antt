-- What each function of the descent looks for at a place and what may stand behind it, what it answers, that its answer
-- is the only one, and where it stops. A reader of luf_parse's contracts need not read it.
pub mod Exact
pub mod Follow
pub mod Parts
pub mod Reads
pub mod Shapes
pub mod Stops
pub mod PartEntries
pub mod PartStops
