pub mod Mode
pub mod Event
pub mod Fsm
