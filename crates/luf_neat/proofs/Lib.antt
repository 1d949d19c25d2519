pub mod FirstByte
pub mod Neat
pub mod NeatCut
pub mod NeatFits
