pub mod Groups
pub mod Kept
pub mod OneWorded
pub mod Words
