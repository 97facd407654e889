pub mod Geometry
pub mod Lent
pub mod Mission
pub mod Legs
pub mod Zones
pub mod Hold
pub mod Setpoint
