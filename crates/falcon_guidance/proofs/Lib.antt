pub mod Waypoints
pub mod LegPlaces
pub mod HoldPoint
pub mod PadHeight
