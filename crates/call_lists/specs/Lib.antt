pub mod Lists
pub mod Demand3
pub mod DayTotals
pub mod Records
