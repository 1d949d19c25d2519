pub mod DocumentLaws
pub mod FlatLaws
pub mod TableLaws
pub mod SizeLoop
pub mod AboveLaws
pub mod AddLoop
pub mod LayoutLaws
mod Examples
