pub mod Only
pub mod OneNames
pub mod AllTokens
pub mod OneExprs
pub mod OneStats
pub mod OneTree
pub mod Answered
