pub mod Totals
pub mod Counts
