pub mod Refusals
pub mod Answer
pub mod Calls
pub mod Flown
pub mod Land
pub mod SoundState
