-- What only this crate's own code cites.
pub mod Maxima
pub mod LabelRows
pub mod LabelNumbers
pub mod LabelNames
pub mod Owners
pub mod Uses
pub mod Told
pub mod Among
pub mod Barring
