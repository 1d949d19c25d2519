pub mod Configs
pub mod Keeping
pub mod Once
pub mod Runs
pub mod Sources
pub mod Turns
