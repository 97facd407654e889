pub mod Preflight
pub mod Tick
