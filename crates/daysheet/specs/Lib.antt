pub mod Reader
