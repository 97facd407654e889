pub mod OverList
