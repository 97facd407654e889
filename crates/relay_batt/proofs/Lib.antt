mod Walk
pub mod Bounds
mod NonNeg
mod Finite
mod Trip
pub mod CurveBounds
pub mod Cells
pub mod NotBelow
pub mod Sound
pub mod SoundTest
pub mod Stays
pub mod Fits
pub mod Back
