pub mod GapCounts
pub mod TreeReads
pub mod MaskLaws
pub mod MarkLaws
pub mod MaskReads
pub mod WithinLaws
pub mod ReadingLaws
pub mod LeftLaws
