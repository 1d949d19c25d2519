pub mod Again
pub mod Chooses
pub mod Ready
pub mod Twice
