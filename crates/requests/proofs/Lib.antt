pub mod Asking
pub mod ByKind
pub mod Openings
pub mod Buffer
pub mod Fits
pub mod ToldLines
