-- Why tokens form no tree.
pub mod Cause
