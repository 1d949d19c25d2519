-- Names that tell keys apart, what stands in the members of a table, and the options that they tell.
mod Named
mod Entries
mod Growing
mod Refusals
pub mod OneAnswer
