pub mod Chunks
pub mod Opened
