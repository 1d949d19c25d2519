pub mod Forms
pub mod OneFloat
pub mod OneWord
pub mod Reach
pub mod Rounding
pub mod Scanning
pub mod Values
