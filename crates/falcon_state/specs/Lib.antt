pub mod Point
pub mod Zone
pub mod Config
pub mod Flight
