pub mod Bits
pub mod Checks
pub mod Laws
