pub mod Count
pub mod Files
pub mod MemFiles
pub mod Read
pub mod Sink
pub mod Source
