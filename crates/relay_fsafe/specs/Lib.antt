pub mod Fsafe
