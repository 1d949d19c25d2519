pub mod Nesting
pub mod NestingEnds
pub mod NestingRuns
pub mod SameEntries
pub mod ExactLaws
pub mod WholeBlock
pub mod ExactParse
